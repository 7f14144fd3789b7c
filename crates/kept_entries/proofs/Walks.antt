-- Among entries by actor, those of one actor stand side by side.
use Rattle.std.proofs.Common.{Less, Equal, Greater, ◌≡◌, ℕ, zero, suc, ◌+◌, ◌<◌, ◌&&◌, ◌||◌, Bool, true, false, cond, List, [], ◌∷◌, ◌++◌, reverse, take, drop, length, get_or, refl, sym, ap, subst, ◌∙◌, arith}
use Rattle.std.specs.declared.cmp.Ordering.{Ordering}
use Rattle.std.specs.Ordering.{nat_cmp, ordering_then, ordering_reverse, is_gt, is_eq}
use Rattle.std.specs.List.{AllByRecursion, list_any, prefix_len}
use Rattle.std.specs.List.Sorted.{IsStrictlySortedBy}
use Rattle.std.proofs.lemmas.Bool.{false_from_ne_true}
use Rattle.std.proofs.lemmas.Cmp.{tied_itself}
use Rattle.std.proofs.lemmas.List.{reverse-append, take-append-drop}
use Rattle.std.proofs.lemmas.List.Elements.{All-from_recursion, recursion_from_All}
use Rattle.std.proofs.lemmas.List.Sorted.{IsPermutation-reverse, All-permutation, list_any-IsPermutation}
use Rattle.game_tables.specs.Actions.{action_number, dominates}
use Rattle.intent_book.specs.Records.{place_cmp, place_eq}
use Rattle.kept_entries.specs.declared.entries.Entry.{Entry}
use Rattle.kept_entries.specs.inner.Choosing.{Runs, entry_cmp, has_actor_of, overrules_it}
use Rattle.kept_entries.proofs.Keys.{places_total, places_same, place_ties, is_equal}

-- ---- actors

abbrev actor_of : Entry → ℕ × ℕ
actor_of entry = (entry.intent.player, entry.intent.actor)

-- The actor of the first entry does not come behind that of the second.
abbrev IsUpTo : Entry → Entry → Type 0
IsUpTo one other = is_gt (place_cmp (actor_of one) (actor_of other)) ≡ false

then_up : (r s : Ordering) → ordering_then r s ≡ Less → is_gt r ≡ false
then_up Less s is = refl
then_up Equal s is = refl
then_up Greater s is = absurd (cc)

up_to : (one other : Entry) → entry_cmp one other ≡ Less → IsUpTo one other
up_to one other less = then_up (place_cmp (actor_of one) (actor_of other)) (nat_cmp (action_number one.intent.action) (action_number other.intent.action)) less

both_up : (r s : Ordering) → s ≡ ordering_reverse r → is_gt r ≡ false → is_gt s ≡ false → r ≡ Equal
both_up Less s is one other = let back : is_gt s ≡ true = ap is_gt is in absurd (cc)
both_up Equal s is one other = refl
both_up Greater s is one other = absurd (cc)

-- of three in order, if the first and the last have one actor, all have
between : (a b c : ℕ × ℕ) → is_gt (place_cmp a b) ≡ false → is_gt (place_cmp b c) ≡ false → a ≡ c → a ≡ b
between a b c low high same =
    places_same a b (both_up (place_cmp a b) (place_cmp b a) (places_total.antisymm b a) low (subst (λ (p : ℕ × ℕ). is_gt (place_cmp b p) ≡ false) (sym same) high))

same_places : (p q : ℕ × ℕ) → place_eq p q ≡ true → p ≡ q
same_places p q is = places_same p q (is_equal (place_cmp p q) (sym (place_ties p q) ∙ is))

places_eq : (p q : ℕ × ℕ) → p ≡ q → place_eq p q ≡ true
places_eq p q same = place_ties p q ∙ ap (λ (r : ℕ × ℕ). is_eq (place_cmp p r)) (sym same) ∙ ap is_eq (tied_itself places_total p)

-- ---- runs

module _ (entry : Entry) where
  abbrev has : Entry → Bool
  has other = has_actor_of entry other

  abbrev Fails : Entry → Type 0
  Fails other = has other ≡ false

  -- one behind another that is behind the entry fails with it
  fails_behind : (one other : Entry) → IsUpTo entry one → IsUpTo one other → Fails one → Fails other
  fails_behind one other low high fails = false_from_ne_true (has other) (λ is.
      let same : actor_of other ≡ actor_of entry = same_places (actor_of other) (actor_of entry) is in
      let middle : actor_of entry ≡ actor_of one = between (actor_of entry) (actor_of one) (actor_of other) low high (sym same) in
      let passes : has one ≡ true = places_eq (actor_of one) (actor_of entry) (sym middle) in
      absurd (cc))

  -- one before another that is before the entry fails with it
  fails_before : (one other : Entry) → IsUpTo one other → IsUpTo other entry → Fails other → Fails one
  fails_before one other low high fails = false_from_ne_true (has one) (λ is.
      let same : actor_of one ≡ actor_of entry = same_places (actor_of one) (actor_of entry) is in
      let middle : actor_of one ≡ actor_of other = between (actor_of one) (actor_of other) (actor_of entry) low high same in
      let passes : has other ≡ true = places_eq (actor_of other) (actor_of entry) (sym middle ∙ same) in
      absurd (cc))

  all_behind : (one : Entry) (later : List Entry) → IsUpTo entry one → AllByRecursion (λ other. entry_cmp one other ≡ Less) later → Fails one → AllByRecursion Fails later
  all_behind one [] low all fails = tt
  all_behind one (other ∷ later) low all fails = (fails_behind one other low (up_to one other all.0) fails, all_behind one later low all.1 fails)

  runs_behind : (list : List Entry) → AllByRecursion (IsUpTo entry) list → IsStrictlySortedBy entry_cmp list → Runs has list
  unfolding IsStrictlySortedBy
  runs_behind [] low up = tt
  runs_behind (one ∷ later) low up = (all_behind one later low.0 up.0, runs_behind later low.1 up.1)

  ups : (one : Entry) (later : List Entry) → AllByRecursion (λ other. entry_cmp one other ≡ Less) later → AllByRecursion (IsUpTo one) later
  ups one [] all = tt
  ups one (other ∷ later) all = (up_to one other all.0, ups one later all.1)

  runs_more : (list : List Entry) (one : Entry) → Runs has list → AllByRecursion (λ other. Fails other → Fails one) list → Runs has (list ++ one ∷ [])
  runs_more [] one runs all = ((λ fails. tt), tt)
  runs_more (first ∷ list) one runs all = ((λ fails. fail_more list (runs.0 fails) (all.0 fails)), runs_more list one runs.1 all.1)
    where
      fail_more : (list : List Entry) → AllByRecursion Fails list → Fails one → AllByRecursion Fails (list ++ one ∷ [])
      fail_more [] fails last = (last, tt)
      fail_more (other ∷ list) fails last = (fails.0, fail_more list fails.1 last)

reverse_cons : (entry : Entry) (list : List Entry) → reverse (entry ∷ list) ≡ reverse list ++ entry ∷ []
reverse_cons entry list = reverse-append (entry ∷ []) list

all_reverse : (P : Entry → Type 0) (list : List Entry) → AllByRecursion P list → AllByRecursion P (reverse list)
all_reverse P list all = recursion_from_All P (reverse list) (All-permutation P list (reverse list) (IsPermutation-reverse list) (All-from_recursion P list all))

-- what is known of a list by actor at a place
record IsCut (list : List Entry) (at : ℕ) (entry : Entry) : Type 0 where
  low : AllByRecursion (λ other. entry_cmp other entry ≡ Less) (take at list)
  before : Runs (has_actor_of entry) (reverse (take at list))
  behind : Runs (has_actor_of entry) (drop at list)

fail_all : (entry first : Entry) (list : List Entry) (at : ℕ) → AllByRecursion (λ other. entry_cmp first other ≡ Less) list → AllByRecursion (λ other. entry_cmp other entry ≡ Less) (take at list) → AllByRecursion (λ other. has_actor_of entry other ≡ false → has_actor_of entry first ≡ false) (take at list)
fail_all entry first [] zero all low = tt
fail_all entry first [] (suc at) all low = tt
fail_all entry first (other ∷ list) zero all low = tt
fail_all entry first (other ∷ list) (suc at) all low = (fails_before entry first other (up_to first other all.0) (up_to other entry low.0), fail_all entry first list at all.1 low.1)

cut : (list : List Entry) (at : ℕ) (d : Entry) → at < length list → IsStrictlySortedBy entry_cmp list → IsCut list at (get_or list at d)
unfolding IsStrictlySortedBy
cut [] at d within up = absurd (omega arith)
cut (first ∷ list) zero d within up = record {
  low = tt;
  before = tt;
  behind = runs_behind first (first ∷ list) (ap is_gt (tied_itself places_total (actor_of first)), ups first first list up.0) up;
}
cut (first ∷ list) (suc at) d within up =
    let rest = cut list at d (omega arith) up.1 in
    let entry = get_or list at d in
    record {
      low = (All-from_recursion (λ other. entry_cmp first other ≡ Less) list up.0 at d (omega arith), rest.low);
      before = subst (Runs (has_actor_of entry)) (sym (reverse_cons first (take at list)))
          (runs_more entry (reverse (take at list)) first rest.before (all_reverse (λ other. has_actor_of entry other ≡ false → has_actor_of entry first ≡ false) (take at list) (fail_all entry first list at up.0 rest.low)));
      behind = rest.behind;
    }

pub runs_before_at : (list : List Entry) (at : ℕ) (d : Entry) → at < length list → IsStrictlySortedBy entry_cmp list → Runs (has_actor_of (get_or list at d)) (reverse (take at list))
runs_before_at list at d within up = (cut list at d within up).before

pub runs_behind_at : (list : List Entry) (at : ℕ) (d : Entry) → at < length list → IsStrictlySortedBy entry_cmp list → Runs (has_actor_of (get_or list at d)) (drop at list)
runs_behind_at list at d within up = (cut list at d within up).behind

-- ---- walks

one_more : (n : ℕ) → 1 + n ≡ suc n
one_more n = omega arith

none_overrules : (entry : Entry) (list : List Entry) → AllByRecursion (λ other. has_actor_of entry other ≡ false) list → list_any (overrules_it entry) list ≡ false
none_overrules entry [] fails = refl
none_overrules entry (other ∷ list) fails =
    (λ i. apart i || none_overrules entry list fails.1 i)
  where
    apart : overrules_it entry other ≡ false
    apart = ap (λ (b : Bool). b && dominates other.intent.action entry.intent.action) fails.0

-- what overrules an entry among those that run is among the first of them
pub walked : (entry : Entry) (list : List Entry) → Runs (has_actor_of entry) list → list_any (overrules_it entry) (take (prefix_len (has_actor_of entry) list) list) ≡ list_any (overrules_it entry) list
walked entry [] runs = refl
walked entry (other ∷ list) runs =
    let rest = walked entry list runs.1 in
    elim (has_actor_of entry other) as (λ b. has_actor_of entry other ≡ b → list_any (overrules_it entry) (take (cond b (1 + prefix_len (has_actor_of entry) list) 0) (other ∷ list)) ≡ list_any (overrules_it entry) (other ∷ list)) [
      | true ↦ λ is.
          ap (λ (n : ℕ). list_any (overrules_it entry) (take n (other ∷ list))) (one_more (prefix_len (has_actor_of entry) list))
          ∙ ap (λ (b : Bool). overrules_it entry other || b) rest
      | false ↦ λ is. sym (none_overrules entry (other ∷ list) (is, runs.0 is))
    ] refl

-- the same from the end
pub walked_back : (entry : Entry) (list : List Entry) → Runs (has_actor_of entry) (reverse list) → list_any (overrules_it entry) (take (prefix_len (has_actor_of entry) (reverse list)) (reverse list)) ≡ list_any (overrules_it entry) list
walked_back entry list runs = walked entry (reverse list) runs ∙ sym (list_any-IsPermutation (overrules_it entry) list (reverse list) (IsPermutation-reverse list))

any_append : (test : Entry → Bool) (xs ys : List Entry) → list_any test (xs ++ ys) ≡ (list_any test xs || list_any test ys)
any_append test [] ys = refl
any_append test (x ∷ xs) ys = ap (λ (b : Bool). test x || b) (any_append test xs ys) ∙ grouped (test x) (list_any test xs) (list_any test ys)
  where
    grouped : (a b c : Bool) → (a || (b || c)) ≡ ((a || b) || c)
    grouped true b c = refl
    grouped false b c = refl

-- what overrules an entry stands before a place or behind it
pub parted : (test : Entry → Bool) (list : List Entry) (at : ℕ) → (list_any test (take at list) || list_any test (drop at list)) ≡ list_any test list
parted test list at = sym (any_append test (take at list) (drop at list)) ∙ ap (list_any test) (take-append-drop at list)
