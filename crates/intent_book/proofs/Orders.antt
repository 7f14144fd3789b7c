-- What the numbers of the entries say of the list.
use Rattle.std.proofs.Common.{◌≡◌, ℕ, zero, suc, ◌+◌, ◌<◌, ◌≤◌, Bool, true, false, cond, not, ◌&&◌, ◌||◌, nat_eq, nat_lt, List, [], ◌∷◌, ◌++◌, filter, length, refl, sym, ap, subst, ◌∙◌, arith, is_some, if◌then◌else◌, IsPermutation, Option}
use Rattle.std.specs.List.{list_any, AllByRecursion, IsDistinct}
use Rattle.std.specs.Map.{keys_of, lookup}
use Rattle.std.specs.Cmp.{nat_eq_equiv}
use Rattle.std.proofs.lemmas.Bool.{eqb-true, eq-eqb, ne_eqb, and_parts, true≢false}
use Rattle.std.proofs.lemmas.List.Elements.{filter-append, All-filter, All-push}
use Rattle.std.proofs.lemmas.List.Filters.{length-filter_both}
use Rattle.std.proofs.lemmas.List.Sorted.{IsPermutation-refl, IsPermutation-cons, IsPermutation-trans, IsPermutation-middle, IsPermutation-append_left, length_permutation, list_any-IsPermutation, IsPermutation-sym}
use Rattle.std.proofs.lemmas.Map.Keys.{IsDistinct-IsPermutation}
use Rattle.indexmap.specs.IndexMap.{insert_entry}
use Rattle.intent_book.specs.declared.intent.Intent.{Intent}
use Rattle.intent_book.specs.declared.entries.Kept.{Kept}
use Rattle.intent_book.specs.inner.Numbered.{Row, at_order, listed, IsKeyed, IsBelow, IsSingle, IsKept, intents}
use Rattle.intent_book.specs.Records.{AreOf, entries_bound, place, place_eq, same_place, has_place, accepts, put_last}

pub by_answer : {P : Type 0} (b : Bool) → (b ≡ true → P) → (b ≡ false → P) → P
by_answer true p q = p refl
by_answer false p q = q refl

pub same_key : (x y : ℕ × ℕ) → place_eq x y ≡ true → x ≡ y
same_key x y h = let p = and_parts (nat_eq x.0 y.0) (nat_eq x.1 y.1) h in λ j. (eqb-true x.0 y.0 p.0 j, eqb-true x.1 y.1 p.1 j)

pub place_symm : (x y : ℕ × ℕ) → place_eq x y ≡ place_eq y x
place_symm x y = λ j. nat_eq_equiv.symm x.0 y.0 j && nat_eq_equiv.symm x.1 y.1 j

-- ---- a list by the numbers

pub listed-same : (n : ℕ) (es fs : List Row) → ((k : ℕ) → k < n → at_order k es ≡ at_order k fs) → listed n es ≡ listed n fs
listed-same zero es fs h = refl
listed-same (suc n) es fs h = λ j. listed-same n es fs (λ k b. h k (omega arith)) j ++ h n (omega arith) j

listed-filter : (p : Intent → Bool) (n : ℕ) (es fs : List Row) → ((k : ℕ) → k < n → at_order k fs ≡ filter p (at_order k es)) → listed n fs ≡ filter p (listed n es)
listed-filter p zero es fs h = refl
listed-filter p (suc n) es fs h = (λ j. listed-filter p n es fs (λ k b. h k (omega arith)) j ++ h n (omega arith) j) ∙ sym (filter-append p (listed n es) (at_order n es))

-- nothing stands at a number that is not given yet
pub at_order-above : (n k : ℕ) (es : List Row) → IsBelow n es → n ≤ k → at_order k es ≡ []
at_order-above n k [] b h = refl
at_order-above n k (e ∷ es) b h =
    let no : nat_eq e.1.order k ≡ false = ne_eqb e.1.order k (λ q. omega (arith, b.0, q)) in
    ap (λ c. cond c (e.1.intent ∷ at_order k es) (at_order k es)) no ∙ at_order-above n k es b.1 h

-- ---- the entries after a put

module _ (i : Intent) where
  abbrev others : Intent → Bool
  others x = not (same_place i x)

  none_here : (k : ℕ) (es : List Row) → IsKeyed es → AllByRecursion (λ y. place_eq (place i) y ≡ false) (keys_of es) → filter others (at_order k es) ≡ at_order k es
  none_here k [] d h = refl
  none_here k (e ∷ es) d h =
      let apart : same_place i e.1.intent ≡ false = ap (place_eq (place i)) (sym d.0) ∙ h.0 in
      let rest = none_here k es d.1 h.1 in
      elim (nat_eq e.1.order k) as (λ b. filter others (cond b (e.1.intent ∷ at_order k es) (at_order k es)) ≡ cond b (e.1.intent ∷ at_order k es) (at_order k es)) [
        | true ↦ ap (λ b. cond (not b) (e.1.intent ∷ filter others (at_order k es)) (filter others (at_order k es))) apart ∙ ap (λ l. e.1.intent ∷ l) rest
        | false ↦ rest
      ]

  module _ (w : Kept) where
    abbrev after : List Row → List Row
    after es = insert_entry place_eq es (place i) w

    put_here : (k : ℕ) (e : Row) (es : List Row) → nat_eq w.order k ≡ false → e.0 ≡ place e.1.intent → IsKeyed es → AllByRecursion (λ y. place_eq e.0 y ≡ false) (keys_of es) → place_eq (place i) e.0 ≡ true → at_order k (after (e ∷ es)) ≡ filter others (at_order k (e ∷ es))
    put_here k e es n d ds u h =
        let same : same_place i e.1.intent ≡ true = ap (place_eq (place i)) (sym d) ∙ h in
        let key : place i ≡ e.0 = same_key (place i) e.0 h in
        let free : filter others (at_order k es) ≡ at_order k es = none_here k es ds (subst (λ q. AllByRecursion (λ y. place_eq q y ≡ false) (keys_of es)) (sym key) u) in
        let out : filter others (at_order k (e ∷ es)) ≡ filter others (at_order k es) =
        elim (nat_eq e.1.order k) as (λ b. filter others (cond b (e.1.intent ∷ at_order k es) (at_order k es)) ≡ filter others (at_order k es)) [
          | true ↦ ap (λ b. cond (not b) (e.1.intent ∷ filter others (at_order k es)) (filter others (at_order k es))) same
          | false ↦ refl
        ] in
        ap (λ b. at_order k (if b then (e.0, w) ∷ es else e ∷ after es)) h ∙ ap (λ c. cond c (w.intent ∷ at_order k es) (at_order k es)) n ∙ sym (out ∙ free)

    put_later : (k : ℕ) (e : Row) (es : List Row) → e.0 ≡ place e.1.intent → place_eq (place i) e.0 ≡ false → at_order k (after es) ≡ filter others (at_order k es) → at_order k (after (e ∷ es)) ≡ filter others (at_order k (e ∷ es))
    put_later k e es d h rest =
        let apart : same_place i e.1.intent ≡ false = ap (place_eq (place i)) (sym d) ∙ h in
        let kept : cond (nat_eq e.1.order k) (e.1.intent ∷ filter others (at_order k es)) (filter others (at_order k es)) ≡ filter others (at_order k (e ∷ es)) =
        elim (nat_eq e.1.order k) as (λ b. cond b (e.1.intent ∷ filter others (at_order k es)) (filter others (at_order k es)) ≡ filter others (cond b (e.1.intent ∷ at_order k es) (at_order k es))) [
          | true ↦ sym (ap (λ b. cond (not b) (e.1.intent ∷ filter others (at_order k es)) (filter others (at_order k es))) apart)
          | false ↦ refl
        ] in
        ap (λ b. at_order k (if b then (e.0, w) ∷ es else e ∷ after es)) h ∙ ap (λ l. cond (nat_eq e.1.order k) (e.1.intent ∷ l) l) rest ∙ kept

    pub at_order-put : (k : ℕ) (es : List Row) → nat_eq w.order k ≡ false → IsKeyed es → IsDistinct place_eq (keys_of es) → at_order k (after es) ≡ filter others (at_order k es)
    unfolding IsDistinct
    at_order-put k [] n d u = ap (λ c. cond c (w.intent ∷ []) []) n
    at_order-put k (e ∷ es) n d u = by_answer (place_eq (place i) e.0) (put_here k e es n d.0 d.1 u.0) (λ h. put_later k e es d.0 h (at_order-put k es n d.1 u.1))

    -- the new entry alone has the new number
    pub at_order-new : (n : ℕ) (es : List Row) → w.order ≡ n → IsBelow n es → at_order n (after es) ≡ w.intent ∷ []
    at_order-new n [] q b = ap (λ c. cond c (w.intent ∷ []) []) (eq-eqb w.order n q)
    at_order-new n (e ∷ es) q b = by_answer (place_eq (place i) e.0)
        (λ h. ap (λ b. at_order n (if b then (e.0, w) ∷ es else e ∷ after es)) h ∙ ap (λ c. cond c (w.intent ∷ at_order n es) (at_order n es)) (eq-eqb w.order n q) ∙ ap (λ l. w.intent ∷ l) (at_order-above n n es b.1 (omega arith)))
        (λ h. ap (λ b. at_order n (if b then (e.0, w) ∷ es else e ∷ after es)) h ∙ ap (λ c. cond c (e.1.intent ∷ at_order n (after es)) (at_order n (after es))) (ne_eqb e.1.order n (λ r. omega (arith, b.0, r))) ∙ at_order-new n es q b.1)

    -- what holds of each entry holds after it
    pub each-put : (P : Row → Type 0) (es : List Row) → AllByRecursion P es → ((k : ℕ × ℕ) → place i ≡ k → P (k, w)) → AllByRecursion P (after es)
    each-put P [] a h = (h (place i) refl, a)
    each-put P (e ∷ es) a h = by_answer (place_eq (place i) e.0)
        (λ t. subst (λ b. AllByRecursion P (if b then (e.0, w) ∷ es else e ∷ after es)) (sym t) (h e.0 (same_key (place i) e.0 t), a.1))
        (λ t. subst (λ b. AllByRecursion P (if b then (e.0, w) ∷ es else e ∷ after es)) (sym t) (a.0, each-put P es a.1 h))

    pub below-put : (n : ℕ) (es : List Row) → w.order ≡ n → IsBelow n es → IsBelow (n + 1) (after es)
    below-put n es q b = each-put (λ e. e.1.order < n + 1) es (wider es b) (λ k p. omega (arith, q))
      where
        wider : (fs : List Row) → IsBelow n fs → IsBelow (n + 1) fs
        wider [] h = h
        wider (f ∷ fs) h = (omega (arith, h.0), wider fs h.1)

    pub single-put : (n : ℕ) (es : List Row) → w.order ≡ n → IsKept n es → IsDistinct place_eq (keys_of es) → IsSingle (after es)
    single-put n es q g u k = by_answer (nat_eq w.order k)
        (λ h. let here : w.order ≡ k = eqb-true w.order k h in omega (arith, ap length (subst (λ m. at_order m (after es) ≡ w.intent ∷ []) (sym q ∙ here) (at_order-new n es q g.1))))
        (λ h. omega (arith, ap length (at_order-put k es h g.0 u), length-filter_both others (same_place i) (λ x. twice (same_place i x)) (at_order k es), g.2 k))
      where
        twice : (b : Bool) → b ≡ not (not b)
        twice true = refl
        twice false = refl

    -- a put is what the contract says
    pub listed-put : (n : ℕ) (es : List Row) → w.order ≡ n → w.intent ≡ i → IsKept n es → IsDistinct place_eq (keys_of es) → listed (n + 1) (after es) ≡ put_last (listed n es) i
    listed-put n es q r g u =
        let one : n + 1 ≡ suc n = omega arith in
        ap (λ m. listed m (after es)) one
        ∙ (λ j. listed-filter others n es (after es) (λ k b. at_order-put k es (ne_eqb w.order k (λ s. omega (arith, s, q))) g.0 u) j ++ at_order-new n es q g.1 j)
        ∙ ap (λ x. filter others (listed n es) ++ x ∷ []) r

    pub kept-put : (n : ℕ) (es : List Row) → w.order ≡ n → w.intent ≡ i → IsKept n es → IsDistinct place_eq (keys_of es) → IsKept (n + 1) (after es)
    kept-put n es q r g u = (each-put (λ e. e.0 ≡ place e.1.intent) es g.0 (λ k p. sym p ∙ ap place (sym r)), below-put n es q g.1, single-put n es q g u)

-- ---- the list has the entries' intents

pub listed-none : (n : ℕ) → listed n [] ≡ []
listed-none zero = refl
listed-none (suc n) = ap (λ l. l ++ []) (listed-none n)

listed-skip : (n : ℕ) (e : Row) (es : List Row) → n ≤ e.1.order → listed n (e ∷ es) ≡ listed n es
listed-skip n e es h = listed-same n (e ∷ es) es (λ k b. ap (λ c. cond c (e.1.intent ∷ at_order k es) (at_order k es)) (ne_eqb e.1.order k (λ q. omega (arith, q))))

listed-cons : (n : ℕ) (e : Row) (es : List Row) → e.1.order < n → IsPermutation (e.1.intent ∷ listed n es) (listed n (e ∷ es))
listed-cons zero e es h = absurd (omega arith)
listed-cons (suc n) e es h = by_answer (nat_eq e.1.order n)
    (λ t.
    let here : listed n (e ∷ es) ++ at_order n (e ∷ es) ≡ listed n es ++ e.1.intent ∷ at_order n es =
    λ j. listed-skip n e es (omega (arith, eqb-true e.1.order n t)) j ++ cond (t j) (e.1.intent ∷ at_order n es) (at_order n es) in
    subst (IsPermutation (e.1.intent ∷ (listed n es ++ at_order n es))) (sym here) (IsPermutation-sym _ _ (IsPermutation-middle (listed n es) e.1.intent (at_order n es))))
    (λ t.
    let before : e.1.order < n = later (eq_no e.1.order n t) h in
    let here : listed n (e ∷ es) ++ at_order n (e ∷ es) ≡ listed n (e ∷ es) ++ at_order n es = ap (λ c. listed n (e ∷ es) ++ cond c (e.1.intent ∷ at_order n es) (at_order n es)) t in
    subst (IsPermutation (e.1.intent ∷ (listed n es ++ at_order n es))) (sym here) (IsPermutation-append_left (at_order n es) (e.1.intent ∷ listed n es) (listed n (e ∷ es)) (listed-cons n e es before)))
  where
    eq_no : (a b : ℕ) → nat_eq a b ≡ false → a ≡ b → ⊥
    eq_no a b f q = true≢false (sym (eq-eqb a b q) ∙ f)

    later : {a b : ℕ} → (a ≡ b → ⊥) → a < suc b → a < b
    later p q = omega (arith, p, q)

pub listed-permutation : (n : ℕ) (es : List Row) → IsBelow n es → IsPermutation (intents es) (listed n es)
listed-permutation n [] b = subst (IsPermutation []) (sym (listed-none n)) (IsPermutation-refl [])
listed-permutation n (e ∷ es) b =
    IsPermutation-trans (e.1.intent ∷ intents es) (e.1.intent ∷ listed n es) (listed n (e ∷ es)) (IsPermutation-cons e.1.intent (intents es) (listed n es) (listed-permutation n es b.1)) (listed-cons n e es b.0)

pub length-intents : (es : List Row) → length (intents es) ≡ length es
length-intents [] = refl
length-intents (e ∷ es) = ap suc (length-intents es)

pub length-listed : (n : ℕ) (es : List Row) → IsBelow n es → length (listed n es) ≡ length es
length-listed n es b = length_permutation (intents es) (listed n es) (listed-permutation n es b) ∙ length-intents es

-- what the map finds is what stands in the list
found : (i : Intent) (es : List Row) → IsKeyed es → list_any (same_place i) (intents es) ≡ is_some (lookup (place_eq (place i)) es)
found i [] d = refl
found i (e ∷ es) d = by_answer (place_eq (place i) e.0)
    (λ t. (λ j. place_eq (place i) (sym d.0 j) || list_any (same_place i) (intents es)) ∙ ap (λ b. b || list_any (same_place i) (intents es)) t ∙ sym (ap (λ b. is_some (cond b (Option.Some e.1) (lookup (place_eq (place i)) es))) t))
    (λ t. (λ j. place_eq (place i) (sym d.0 j) || list_any (same_place i) (intents es)) ∙ ap (λ b. b || list_any (same_place i) (intents es)) t ∙ found i es d.1 ∙ sym (ap (λ b. is_some (cond b (Option.Some e.1) (lookup (place_eq (place i)) es))) t))

pub has_place-listed : (n : ℕ) (es : List Row) (i : Intent) → IsKept n es → has_place (listed n es) i ≡ is_some (lookup (place_eq (place i)) es)
has_place-listed n es i g = list_any-IsPermutation (same_place i) (listed n es) (intents es) (IsPermutation-sym (intents es) (listed n es) (listed-permutation n es g.1)) ∙ found i es g.0

pub accepts-listed : (n : ℕ) (es : List Row) (i : Intent) → IsKept n es → accepts (listed n es) i ≡ (is_some (lookup (place_eq (place i)) es) || nat_lt (length es) entries_bound)
accepts-listed n es i g = λ j. has_place-listed n es i g j || nat_lt (length-listed n es g.1 j) entries_bound

-- no two of the list have one place
pub distinct_intents : (es : List Row) → IsKeyed es → IsDistinct place_eq (keys_of es) → IsDistinct same_place (intents es)
unfolding IsDistinct
distinct_intents [] d u = u
distinct_intents (e ∷ es) d u = (apart es d.1 u.0, distinct_intents es d.1 u.1)
  where
    apart : (fs : List Row) → IsKeyed fs → AllByRecursion (λ y. place_eq e.0 y ≡ false) (keys_of fs) → AllByRecursion (λ y. same_place e.1.intent y ≡ false) (intents fs)
    apart [] k h = h
    apart (f ∷ fs) k h = ((λ j. place_eq (sym d.0 j) (sym k.0 j)) ∙ h.0, apart fs k.1 h.1)

pub distinct-listed : (n : ℕ) (es : List Row) → IsKept n es → IsDistinct place_eq (keys_of es) → IsDistinct same_place (listed n es)
distinct-listed n es g u = IsDistinct-IsPermutation same_place (λ a b. place_symm (place a) (place b)) (intents es) (listed n es) (listed-permutation n es g.1) (distinct_intents es g.0 u)

-- the entries stay the player's
pub are_of-put : (player : ℕ) (xs : List Intent) (i : Intent) → i.player ≡ player → AreOf player xs → AreOf player (put_last xs i)
are_of-put player xs i own all =
    All-push (λ x. x.player ≡ player) (filter (λ x. not (same_place i x)) xs) i (All-filter (λ x. not (same_place i x)) (λ x. x.player ≡ player) xs all) own
