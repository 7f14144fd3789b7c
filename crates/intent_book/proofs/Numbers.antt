-- Walks by rising number, and what a change of a number leaves.
use Rattle.std.proofs.Common.{◌≡◌, ℕ, zero, suc, ◌+◌, ◌<◌, ◌≤◌, true, false, cond, nat_eq, nat_lt, List, [], ◌∷◌, ◌++◌, take, length, refl, sym, ap, subst, ◌∙◌, arith, Option, Some, None, slice_get, option_map, is_some, unwrap_or, length-append, append_assoc}
use Rattle.std.specs.List.{AllByRecursion}
use Rattle.std.proofs.lemmas.Bool.{eqb-true, eq-eqb, ne_eqb, true≢false, ltb-true, ltb-false}
use Rattle.std.proofs.lemmas.List.{take_more, append-nil, nil_from_length}
use Rattle.std.proofs.lemmas.Option.{get_or_from_slice_get, slice_get_within, slice_get_past}
use Rattle.indexmap.specs.IndexMap.{set_value_at}
use Rattle.intent_book.specs.declared.intent.Intent.{Intent}
use Rattle.intent_book.specs.declared.entries.Kept.{Kept}
use Rattle.intent_book.specs.inner.Numbered.{Row, at_order, listed, IsKeyed, IsBelow, IsSingle, IsKept, IsFree, IsNext, Finds, lower, intents}
use Rattle.intent_book.specs.Records.{place}
use Rattle.intent_book.proofs.Orders.{by_answer, listed-same, length-listed}

pub take-snoc : {X : Type 0} (xs : List X) (i : ℕ) (x : X) → slice_get xs i ≡ Some x → take (i + 1) xs ≡ take i xs ++ x ∷ []
take-snoc xs i x at = take_more xs i x (slice_get_within xs i x at) ∙ ap (λ y. take i xs ++ y ∷ []) (get_or_from_slice_get xs i x x at)

-- ---- at_order of a joined list

pub at_order-append : (k : ℕ) (xs ys : List Row) → at_order k (xs ++ ys) ≡ at_order k xs ++ at_order k ys
at_order-append k [] ys = refl
at_order-append k (e ∷ xs) ys =
    elim (nat_eq e.1.order k) as (λ b. cond b (e.1.intent ∷ at_order k (xs ++ ys)) (at_order k (xs ++ ys)) ≡ cond b (e.1.intent ∷ at_order k xs) (at_order k xs) ++ at_order k ys) [
      | true ↦ ap (λ l. e.1.intent ∷ l) (at_order-append k xs ys)
      | false ↦ at_order-append k xs ys
    ]

at_order-snoc : (k : ℕ) (xs : List Row) (e : Row) → (e.1.order ≡ k → ⊥) → at_order k xs ≡ [] → at_order k (xs ++ e ∷ []) ≡ []
at_order-snoc k xs e differs h = at_order-append k xs (e ∷ []) ∙ (λ j. h j ++ cond (ne_eqb e.1.order k differs j) (e.1.intent ∷ []) [])

-- ---- the search for the next number

pub finds-skip : (es xs : List Row) (from : ℕ) (b : Option (ℕ × Kept)) (key : ℕ × ℕ) (w : Kept) → w.order < from → Finds es from b xs → Finds es from b (xs ++ (key, w) ∷ [])
finds-skip es xs from None key w low h = λ k a. at_order-snoc k xs (key, w) (λ q. omega (arith, q)) (h k a)
finds-skip es xs from (Some p) key w low h = (h.0, h.1, λ k a b. at_order-snoc k xs (key, w) (λ q. omega (arith, q)) (h.2 k a b))

pub finds-more : (es xs : List Row) (from i : ℕ) (b : Option (ℕ × Kept)) (key : ℕ × ℕ) (w : Kept) → slice_get es i ≡ Some (key, w) → from ≤ w.order → Finds es from b xs → Finds es from (lower b (i, w)) (xs ++ (key, w) ∷ [])
finds-more es xs from i None key w at high h = (high, (key, at), λ k a b. at_order-snoc k xs (key, w) (λ q. omega (arith, q)) (h k a))
finds-more es xs from i (Some p) key w at high h = by_answer (nat_lt w.order p.1.order)
    (λ t.
    let less : w.order < p.1.order = ltb-true w.order p.1.order t in
    let is : IsNext es from (i, w) (xs ++ (key, w) ∷ []) = (high, (key, at), λ k a b. at_order-snoc k xs (key, w) (λ q. omega (arith, q)) (h.2 k a (omega arith))) in
    subst (λ c. Finds es from (cond c (Some (i, w)) (Some p)) (xs ++ (key, w) ∷ [])) (sym t) is)
    (λ t.
    let more : p.1.order ≤ w.order = ltb-false w.order p.1.order t in
    let is : IsNext es from p (xs ++ (key, w) ∷ []) = (h.0, h.1, λ k a b. at_order-snoc k xs (key, w) (λ q. omega (arith, q)) (h.2 k a b)) in
    subst (λ c. Finds es from (cond c (Some (i, w)) (Some p)) (xs ++ (key, w) ∷ [])) (sym t) is)

-- ---- the list up to a number

pub listed-one : (n : ℕ) (es : List Row) → listed (n + 1) es ≡ listed n es ++ at_order n es
listed-one n es = let one : n + 1 ≡ suc n = omega arith in ap (λ m. listed m es) one

at_or_below : (a n : ℕ) → a ≤ suc n → (nat_eq a (suc n) ≡ false) → a ≤ n
at_or_below a n h f = let no : a ≡ suc n → ⊥ = λ q. true≢false (sym (eq-eqb a (suc n) q) ∙ f) in omega (arith, no)

-- no number stands between the two
pub listed-gap : (a n : ℕ) (es : List Row) → a ≤ n → ((k : ℕ) → a ≤ k → k < n → at_order k es ≡ []) → listed n es ≡ listed a es
listed-gap a zero es h e = let z : zero ≡ a = omega (arith, h) in ap (λ m. listed m es) z
listed-gap a (suc n) es h e = by_answer (nat_eq a (suc n))
    (λ t. ap (λ m. listed m es) (sym (eqb-true a (suc n) t)))
    (λ t.
    let b : a ≤ n = at_or_below a n h t in
    (λ j. listed-gap a n es b (λ k l m. e k l (omega arith)) j ++ e n b (omega arith) j) ∙ append-nil (listed a es))

-- two lists that are alike up to a number, and the same from there on
pub listed-tail : (a n : ℕ) (es fs : List Row) → a ≤ n → listed a es ≡ listed a fs → ((k : ℕ) → a ≤ k → at_order k es ≡ at_order k fs) → listed n es ≡ listed n fs
listed-tail a zero es fs h s e = refl
listed-tail a (suc n) es fs h s e = by_answer (nat_eq a (suc n))
    (λ t. subst (λ m. listed m es ≡ listed m fs) (eqb-true a (suc n) t) s)
    (λ t. let b : a ≤ n = at_or_below a n h t in λ j. listed-tail a n es fs b s e j ++ e n b j)

-- the list up to a number is the front of the whole
pub listed-front : (a n : ℕ) (es : List Row) → a ≤ n → (rest : List Intent) × (listed n es ≡ listed a es ++ rest)
listed-front a zero es h = let z : zero ≡ a = omega (arith, h) in ([], ap (λ m. listed m es) z ∙ sym (append-nil (listed a es)))
listed-front a (suc n) es h = by_answer (nat_eq a (suc n))
    (λ t. ([], ap (λ m. listed m es) (sym (eqb-true a (suc n) t)) ∙ sym (append-nil (listed a es))))
    (λ t. let r = listed-front a n es (at_or_below a n h t) in (r.0 ++ at_order n es, ap (λ l. l ++ at_order n es) r.1 ∙ append_assoc (listed a es) r.0 (at_order n es)))

-- ---- one entry among the others

pub record Split (es : List Row) (i : ℕ) (e : Row) : Type 0 where
  pub front : List Row
  pub back : List Row
  pub is : es ≡ front ++ e ∷ back
  pub write : (w : Kept) → set_value_at es i w ≡ front ++ (e.0, w) ∷ back

pub split : (es : List Row) (i : ℕ) (e : Row) → slice_get es i ≡ Some e → Split es i e
split [] i e at = absurd (true≢false (sym (ap is_some at)))
split (x ∷ es) zero e at =
    let same : x ≡ e = ap (λ o. unwrap_or o x) at in
    record { front = []; back = es; is = ap (λ y. y ∷ es) same; write = λ w j. ((same j).0, w) ∷ es }
split (x ∷ es) (suc i) e at =
    let r = split es i e at in
    record { front = x ∷ r.front; back = r.back; is = ap (λ l. x ∷ l) r.is; write = λ w. ap (λ l. x ∷ l) (r.write w) }

module _ (f b : List Row) (key : ℕ × ℕ) (w : Kept) where
  at_mid-same : (k : ℕ) → w.order ≡ k → at_order k (f ++ (key, w) ∷ b) ≡ at_order k f ++ w.intent ∷ at_order k b
  at_mid-same k q = at_order-append k f ((key, w) ∷ b) ∙ ap (λ c. at_order k f ++ cond c (w.intent ∷ at_order k b) (at_order k b)) (eq-eqb w.order k q)

  at_mid-other : (k : ℕ) → (w.order ≡ k → ⊥) → at_order k (f ++ (key, w) ∷ b) ≡ at_order k f ++ at_order k b
  at_mid-other k q = at_order-append k f ((key, w) ∷ b) ∙ ap (λ c. at_order k f ++ cond c (w.intent ∷ at_order k b) (at_order k b)) (ne_eqb w.order k q)

both_nil : (xs ys : List Intent) → length (xs ++ ys) ≤ 0 → (xs ≡ []) × (ys ≡ [])
both_nil xs ys h = (nil_from_length xs (omega (arith, length-append xs ys, h)), nil_from_length ys (omega (arith, length-append xs ys, h)))

alone : (xs ys : List Intent) (x : Intent) → length (xs ++ x ∷ ys) ≤ 1 → (xs ≡ []) × (ys ≡ [])
alone xs ys x h = (nil_from_length xs (omega (arith, length-append xs (x ∷ ys), h)), nil_from_length ys (omega (arith, length-append xs (x ∷ ys), h)))

-- an entry stands alone at its number
pub at_order-own : (es : List Row) (i : ℕ) (key : ℕ × ℕ) (w : Kept) → slice_get es i ≡ Some (key, w) → IsSingle es → at_order w.order es ≡ w.intent ∷ []
at_order-own es i key w at single =
    let s = split es i (key, w) at in
    let whole : at_order w.order es ≡ at_order w.order s.front ++ w.intent ∷ at_order w.order s.back = ap (at_order w.order) s.is ∙ at_mid-same s.front s.back key w w.order refl in
    let nil = alone (at_order w.order s.front) (at_order w.order s.back) w.intent (subst (λ l. length l ≤ 1) whole (single w.order)) in
    whole ∙ (λ j. nil.0 j ++ w.intent ∷ nil.1 j)

each-split : (P : Row → Type 0) (f : List Row) (e : Row) (b : List Row) → AllByRecursion P (f ++ e ∷ b) → P e
each-split P [] e b a = a.0
each-split P (x ∷ f) e b a = each-split P f e b a.1

pub each-at : (P : Row → Type 0) (es : List Row) (i : ℕ) (e : Row) → slice_get es i ≡ Some e → AllByRecursion P es → P e
each-at P es i e at a = let s = split es i e at in each-split P s.front e s.back (subst (AllByRecursion P) s.is a)

each-write : (P : Row → Type 0) (f : List Row) (e g : Row) (b : List Row) → (P e → P g) → AllByRecursion P (f ++ e ∷ b) → AllByRecursion P (f ++ g ∷ b)
each-write P [] e g b h a = (h a.0, a.1)
each-write P (x ∷ f) e g b h a = (a.0, each-write P f e g b h a.1)

-- ---- the next of a walk

-- the list goes on with the entry that is next
pub listed-next : (n from i : ℕ) (es : List Row) (w : Kept) → IsKept n es → IsNext es from (i, w) es → listed (w.order + 1) es ≡ listed from es ++ w.intent ∷ []
listed-next n from i es w g h =
    listed-one w.order es ∙ (λ j. listed-gap from w.order es h.0 h.2 j ++ at_order-own es i h.1.0 w h.1.1 g.2 j)

pub next-below : (n from i : ℕ) (es : List Row) (w : Kept) → IsKept n es → IsNext es from (i, w) es → w.order < n
next-below n from i es w g h = each-at (λ e. e.1.order < n) es i (h.1.0, w) h.1.1 g.1

slice_get-end : (xs ys : List Intent) (x : Intent) → slice_get ((xs ++ x ∷ []) ++ ys) (length xs) ≡ Some x
slice_get-end [] ys x = refl
slice_get-end (y ∷ xs) ys x = slice_get-end xs ys x

pub nth-next : (n from i at : ℕ) (es : List Row) (w : Kept) → IsKept n es → IsNext es from (at, w) es → length (listed from es) ≡ i → slice_get (listed n es) i ≡ Some w.intent
nth-next n from i at es w g h q =
    let r = listed-front (w.order + 1) n es (omega (arith, next-below n from at es w g h)) in
    (λ j. slice_get ((r.1 ∙ ap (λ l. l ++ r.0) (listed-next n from at es w g h)) j) (sym q j)) ∙ slice_get-end (listed from es) r.0 w.intent

-- the same, of the entry that a look-up by place found
pub nth-found : (n from i at : ℕ) (es : List Row) (w : Kept) (e : Row) → IsKept n es → IsNext es from (at, w) es → length (listed from es) ≡ i → slice_get es at ≡ Some e → slice_get (listed n es) i ≡ Some e.1.intent
nth-found n from i at es w e g h q r = nth-next n from i at es w g h q ∙ ap (option_map (λ x. x.1.intent)) (sym h.1.1 ∙ r)

pub length-next : (n from i at : ℕ) (es : List Row) (w : Kept) → IsKept n es → IsNext es from (at, w) es → length (listed from es) ≡ i → length (listed (w.order + 1) es) ≡ i + 1
length-next n from i at es w g h q = ap length (listed-next n from at es w g h) ∙ length-append (listed from es) (w.intent ∷ []) ∙ ap (λ m. m + 1) q

pub nth-past : (n from i : ℕ) (es : List Row) → from ≤ n → IsFree from es → length (listed from es) ≤ i → slice_get (listed n es) i ≡ None
nth-past n from i es b free q = ap (λ l. slice_get l i) (listed-gap from n es b (λ k l m. free k l)) ∙ slice_get_past (listed from es) i q

-- ---- a walk that gives new numbers

-- the numbers below `free` are given anew, all others that are left are from `from` on, and the list is what it was
pub record Renumbered (n : ℕ) (old es : List Row) (free from : ℕ) : Type 0 where
  pub list : listed n es ≡ listed n old
  pub kept : IsKept n es
  pub order : free ≤ from
  pub within : from ≤ n
  pub gap : (k : ℕ) → free ≤ k → k < from → at_order k es ≡ []
  pub full : length (listed free es) ≡ free

module _ (n : ℕ) (old es : List Row) (free from i : ℕ) (w v : Kept) (h : Renumbered n old es free from) (next : IsNext es from (i, w) es) (number : v.order ≡ free) (same : v.intent ≡ w.intent) where
  abbrev s : Split es i (next.1.0, w)
  s = split es i (next.1.0, w) next.1.1

  abbrev f : List Row
  f = s.front

  abbrev b : List Row
  b = s.back

  abbrev fs : List Row
  fs = f ++ (next.1.0, v) ∷ b

  -- nothing beside the entry stands from `free` up to its old number
  beside : (k : ℕ) → free ≤ k → k ≤ w.order → (at_order k f ≡ []) × (at_order k b ≡ [])
  beside k low high = by_answer (nat_eq w.order k)
      (λ t.
      let q : w.order ≡ k = eqb-true w.order k t in
      alone (at_order k f) (at_order k b) w.intent (subst (λ l. length l ≤ 1) (ap (at_order k) s.is ∙ at_mid-same f b next.1.0 w k q) (h.kept.2 k)))
      (λ t.
      let no : w.order ≡ k → ⊥ = λ q. true≢false (sym (eq-eqb w.order k q) ∙ t) in
      let none : at_order k es ≡ [] = by_answer (nat_lt k from) (λ l. h.gap k low (ltb-true k from l)) (λ l. next.2 k (ltb-false k from l) (omega (arith, no))) in
      both_nil (at_order k f) (at_order k b) (omega (arith, ap length (sym none ∙ ap (at_order k) s.is ∙ at_mid-other f b next.1.0 w k no))))

  moved : free ≤ w.order
  moved = omega (arith, h.order, next.0)

  at-new : at_order free fs ≡ w.intent ∷ []
  at-new =
      let nil = beside free (omega arith) moved in
      at_mid-same f b next.1.0 v free number ∙ (λ j. nil.0 j ++ same j ∷ nil.1 j)

  at-between : (k : ℕ) → free < k → k ≤ w.order → at_order k fs ≡ []
  at-between k low high =
      let nil = beside k (omega arith) high in
      at_mid-other f b next.1.0 v k (λ q. omega (arith, q, number)) ∙ (λ j. nil.0 j ++ nil.1 j)

  at-else : (k : ℕ) → (v.order ≡ k → ⊥) → (w.order ≡ k → ⊥) → at_order k fs ≡ at_order k es
  at-else k p q = at_mid-other f b next.1.0 v k p ∙ sym (ap (at_order k) s.is ∙ at_mid-other f b next.1.0 w k q)

  new-front : listed (free + 1) fs ≡ listed free es ++ w.intent ∷ []
  new-front =
      listed-one free fs ∙ (λ j. listed-same free fs es (λ k l. at-else k (λ q. omega (arith, q, number)) (λ q. omega (arith, q, moved))) j ++ at-new j)

  pub renumbered-step : Renumbered n old fs (free + 1) (w.order + 1)
  renumbered-step =
      let below : w.order < n = next-below n from i es w h.kept next in
      let low = moved in
      let front : listed (w.order + 1) fs ≡ listed (w.order + 1) es =
      listed-gap (free + 1) (w.order + 1) fs (omega arith) (λ k l m. at-between k (omega arith) (omega arith))
      ∙ new-front
      ∙ sym (listed-next n from i es w h.kept next ∙ ap (λ l. l ++ w.intent ∷ []) (listed-gap free from es h.order h.gap)) in
      record {
        list = listed-tail (w.order + 1) n fs es (omega arith) front (λ k l. at-else k (λ q. omega (arith, q, number)) (λ q. omega (arith, q))) ∙ h.list;
        kept = (
          each-write (λ e. e.0 ≡ place e.1.intent) f (next.1.0, w) (next.1.0, v) b (λ p. p ∙ ap place (sym same)) (subst IsKeyed s.is h.kept.0),
          each-write (λ e. e.1.order < n) f (next.1.0, w) (next.1.0, v) b (λ p. omega (arith, number)) (subst (IsBelow n) s.is h.kept.1),
          single,
        );
        order = omega arith;
        within = omega arith;
        gap = λ k l m. at-between k (omega arith) (omega arith);
        full = ap length new-front ∙ length-append (listed free es) (w.intent ∷ []) ∙ ap (λ m. m + 1) h.full;
      }
    where
      single : IsSingle fs
      single k = by_answer (nat_eq free k)
          (λ t. omega (arith, ap length (subst (λ m. at_order m fs ≡ w.intent ∷ []) (eqb-true free k t) at-new)))
          (λ t.
          let no : free ≡ k → ⊥ = λ q. true≢false (sym (eq-eqb free k q) ∙ t) in
          by_answer (nat_eq w.order k)
          (λ u. let q : w.order ≡ k = eqb-true w.order k u in let low = moved in omega (arith, ap length (at-between k (omega (arith, no)) (omega arith))))
          (λ u. omega (arith, ap length (at-else k (λ q. no (sym number ∙ q)) (λ q. true≢false (sym (eq-eqb w.order k q) ∙ u))), h.kept.2 k)))

pub renumbered-write : (n : ℕ) (old es : List Row) (free from i : ℕ) (w v : Kept) → Renumbered n old es free from → IsNext es from (i, w) es → v.order ≡ free → v.intent ≡ w.intent → Renumbered n old (set_value_at es i v) (free + 1) (w.order + 1)
renumbered-write n old es free from i w v h next number same =
    subst (λ l. Renumbered n old l (free + 1) (w.order + 1)) (sym ((split es i (next.1.0, w) next.1.1).write v)) (renumbered-step n old es free from i w v h next number same)

below-free : (n : ℕ) (es : List Row) → IsFree n es → IsBelow n es
below-free n [] h = tt
below-free n (e ∷ es) h = (here, below-free n es (λ k l. rest k (h k l)))
  where
    rest : (k : ℕ) → at_order k (e ∷ es) ≡ [] → at_order k es ≡ []
    rest k q = by_answer (nat_eq e.1.order k)
        (λ t. absurd (no_cons (ap (λ c. cond c (e.1.intent ∷ at_order k es) (at_order k es)) (sym t) ∙ q)))
        (λ t. ap (λ c. cond c (e.1.intent ∷ at_order k es) (at_order k es)) (sym t) ∙ q)
      where
        no_cons : {x : Intent} {xs : List Intent} → x ∷ xs ≡ [] → ⊥
        no_cons r = cc

    here : e.1.order < n
    here = by_answer (nat_lt e.1.order n)
        (λ t. ltb-true e.1.order n t)
        (λ t. absurd (no_cons (ap (λ c. cond c (e.1.intent ∷ at_order e.1.order es) (at_order e.1.order es)) (sym (eq-eqb e.1.order e.1.order refl)) ∙ h e.1.order (ltb-false e.1.order n t))))
      where
        no_cons : {x : Intent} {xs : List Intent} → x ∷ xs ≡ [] → ⊥
        no_cons r = cc

-- where nothing is left, all entries have new numbers
pub renumbered-all : (n : ℕ) (old es : List Row) (free from : ℕ) → Renumbered n old es free from → IsFree from es → (listed free es ≡ listed n old) × IsKept free es × (free ≡ length es)
renumbered-all n old es free from h none =
    let all : IsFree free es = λ k l. by_answer (nat_lt k from) (λ t. h.gap k l (ltb-true k from t)) (λ t. none k (ltb-false k from t)) in
    let below : IsBelow free es = below-free free es all in
    (sym (listed-gap free n es (omega (arith, h.order, h.within)) (λ k l m. all k l)) ∙ h.list, (h.kept.0, below, h.kept.2), sym h.full ∙ length-listed free es below)

-- ---- pouring out

pub intents-more : (es : List Row) (i : ℕ) (e : Row) → slice_get es i ≡ Some e → intents (take (i + 1) es) ≡ intents (take i es) ++ e.1.intent ∷ []
intents-more es i e at = ap intents (take-snoc es i e at) ∙ map_end (take i es)
  where
    map_end : (xs : List Row) → intents (xs ++ e ∷ []) ≡ intents xs ++ e.1.intent ∷ []
    map_end [] = refl
    map_end (x ∷ xs) = ap (λ l. x.1.intent ∷ l) (map_end xs)
