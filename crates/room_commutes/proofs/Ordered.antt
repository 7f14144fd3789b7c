-- A list in order has the entries of the list, and those that differ have one order.
use Rattle.std.proofs.Common.{◌≡◌, ◌⊎◌, inl, inr, ℕ, ◌+◌, ◌==◌, ◌&&◌, if◌then◌else◌, Bool, true, false, cond, List, [], ◌∷◌, refl, sym, subst, ◌∙◌, arith, IsPermutation}
use Rattle.std.specs.List.{AllPairs, AllByRecursion, filter, list_any}
use Rattle.std.specs.List.Sorted.{IsSortedBy}
use Rattle.std.proofs.lemmas.Bool.{eqb-true, eq-eqb, or_parts}
use Rattle.std.proofs.lemmas.List.Elements.{All-from_recursion, recursion_from_All}
use Rattle.std.proofs.lemmas.List.Sorted.{IsPermutation-refl, IsPermutation-sym, IsPermutation-trans, IsPermutation-cons, IsPermutation-middle, All-permutation}
use Rattle.std.proofs.lemmas.List.Kept.{AllPairs-cons, AllPairs-filter}
use Rattle.game_tables.specs.Actions.{action_number}
use Rattle.game_tables.specs.declared.action.Action.{Action}
use Rattle.intent_book.specs.declared.intent.Intent.{Intent}
use Rattle.world_rules.specs.World.{World}
use Rattle.world_rules.specs.Intents.{comes_before, put_in_order, in_order, entries_of, same_entry, last_of_each, fits, kept}
use Rattle.room_commutes.specs.Orders.{of_action, Rises}
use Rattle.room_commutes.proofs.Members.{Has, all_of_has, pairs_first, pairs_later}
use Rattle.room_commutes.proofs.Order.{IsInOrder, IsBefore, in_order-ordered, through, not_both, tie}

-- ---- the same entries

put_same : (entry : Intent) (list : List Intent) → IsPermutation (entry ∷ list) (put_in_order entry list)
put_same entry [] = IsPermutation-refl (entry ∷ [])
put_same entry (first ∷ later) =
    elim (comes_before entry first) as (λ b. IsPermutation (entry ∷ first ∷ later) (if b then entry ∷ first ∷ later else first ∷ put_in_order entry later)) [
      | true ↦ IsPermutation-refl (entry ∷ first ∷ later)
      | false ↦ IsPermutation-trans (entry ∷ first ∷ later) (first ∷ entry ∷ later) (first ∷ put_in_order entry later)
          (IsPermutation-sym (first ∷ entry ∷ later) (entry ∷ first ∷ later) (IsPermutation-middle (first ∷ []) entry later))
          (IsPermutation-cons first (entry ∷ later) (put_in_order entry later) (put_same entry later))
    ]

pub in_order-same : (list : List Intent) → IsPermutation list (in_order list)
in_order-same [] = IsPermutation-refl []
in_order-same (entry ∷ later) =
    IsPermutation-trans (entry ∷ later) (entry ∷ in_order later) (put_in_order entry (in_order later))
    (IsPermutation-cons entry later (in_order later) (in_order-same later)) (put_same entry (in_order later))

-- ---- none before the one ahead of it

pairs_in_order : (list : List Intent) → IsInOrder list → AllPairs (λ one later. comes_before later one ≡ false) list
pairs_in_order [] order = λ i j d less within. absurd (omega arith)
pairs_in_order (entry ∷ later) order =
    AllPairs-cons (λ one other. comes_before other one ≡ false) entry later
    (All-from_recursion (λ other. comes_before other entry ≡ false) later order.0) (pairs_in_order later order.1)

pub in_order-sorted : (list : List Intent) → IsSortedBy comes_before (in_order list)
in_order-sorted list k d from within = pairs_in_order (in_order list) (in_order-ordered list) k (k + 1) d (omega arith) within

-- ---- entries that differ

-- One of them comes before the other.
abbrev Differ : Intent → Intent → Type 0
Differ one other = (comes_before one other ≡ true) ⊎ (comes_before other one ≡ true)

put_all : (P : Intent → Type 0) (entry : Intent) (list : List Intent) → P entry → AllByRecursion P list → AllByRecursion P (put_in_order entry list)
put_all P entry list holds all =
    recursion_from_All P (put_in_order entry list) (All-permutation P (entry ∷ list) (put_in_order entry list) (put_same entry list) (All-from_recursion P (entry ∷ list) (holds, all)))

-- the entry comes before the first of the others, or after it
differ_before : (entry first : Intent) → comes_before entry first ≡ false → Differ entry first → comes_before first entry ≡ true
differ_before entry first fails (inl less) = absurd (cc)
differ_before entry first fails (inr more) = more

-- the least comes before all that another comes before
before_all_rising : (entry first : Intent) (list : List Intent) → comes_before entry first ≡ true → IsBefore first list → IsBefore entry list
before_all_rising entry first [] less before = tt
before_all_rising entry first (other ∷ later) less before =
    (through entry first other less (not_both first other before.0), before_all_rising entry first later less before.1)

-- those that a test doesn't find are not found among the last
last_none : (test : Intent → Bool) (list : List Intent) → list_any test list ≡ false → AllByRecursion (λ other. test other ≡ false) (last_of_each list)
last_none test [] none = tt
last_none test (entry ∷ later) none =
    let parts = or_parts (test entry) (list_any test later) none in
    let rest = last_none test later parts.1 in
    elim (list_any (same_entry entry) later) as (λ b. AllByRecursion (λ other. test other ≡ false) (if b then last_of_each later else entry ∷ last_of_each later)) [ true ↦ rest | false ↦ (parts.0, rest) ]

-- Each entry comes before all later ones.
abbrev DoesRise : List Intent → Type 0
DoesRise [] = Unit {0}
DoesRise (entry ∷ later) = IsBefore entry later × DoesRise later

abbrev DoDiffer : List Intent → Type 0
DoDiffer [] = Unit {0}
DoDiffer (entry ∷ later) = AllByRecursion (Differ entry) later × DoDiffer later

put_rises : (entry : Intent) (list : List Intent) → AllByRecursion (Differ entry) list → DoesRise list → DoesRise (put_in_order entry list)
put_rises entry [] differ rises = (tt, tt)
put_rises entry (first ∷ later) differ rises =
    let rest = put_rises entry later differ.1 rises.1 in
    elim (comes_before entry first) as (λ b. comes_before entry first ≡ b → DoesRise (if b then entry ∷ first ∷ later else first ∷ put_in_order entry later)) [
      | true ↦ λ less. ((less, before_all_rising entry first later less rises.0), rises)
      | false ↦ λ fails. (put_all (λ other. comes_before first other ≡ true) entry later (differ_before entry first fails differ.0) rises.0, rest)
    ] refl

in_order-rises : (list : List Intent) → DoDiffer list → DoesRise (in_order list)
in_order-rises [] differ = tt
in_order-rises (entry ∷ later) differ =
    let all : AllByRecursion (Differ entry) (in_order later) = recursion_from_All (Differ entry) (in_order later) (All-permutation (Differ entry) later (in_order later) (in_order-same later) (All-from_recursion (Differ entry) later differ.0)) in
    put_rises entry (in_order later) all (in_order-rises later differ.1)

pairs_rise : (list : List Intent) → DoesRise list → Rises list
pairs_rise [] rises = λ i j d less within. absurd (omega arith)
pairs_rise (entry ∷ later) rises =
    AllPairs-cons (λ one other. comes_before one other ≡ true) entry later
    (All-from_recursion (λ other. comes_before entry other ≡ true) later rises.0) (pairs_rise later rises.1)

-- ---- entries that count differ

-- They are no two of one player, action and actor.
abbrev AreApart : List Intent → Type 0
AreApart list = AllPairs (λ one other. same_entry one other ≡ false) list

last_apart : (list : List Intent) → AreApart (last_of_each list)
last_apart [] = λ i j d less within. absurd (omega arith)
last_apart (entry ∷ later) =
    let rest = last_apart later in
    elim (list_any (same_entry entry) later) as (λ b. list_any (same_entry entry) later ≡ b → AreApart (if b then last_of_each later else entry ∷ last_of_each later)) [
      | true ↦ λ is. rest
      | false ↦ λ is. AllPairs-cons (λ one other. same_entry one other ≡ false) entry (last_of_each later)
          (All-from_recursion (λ other. same_entry entry other ≡ false) (last_of_each later) (last_none (λ other. same_entry entry other) later is)) rest
    ] refl

kept_apart : (world : World) (list : List Intent) → AreApart (kept world list)
kept_apart world list =
    AllPairs-filter (λ one other. same_entry one other ≡ false) _ (last_of_each (filter (fits world) list)) (last_apart (filter (fits world) list))

-- two of one action that are apart differ
apart_differ : (number : ℕ) (one other : Intent) → same_entry one other ≡ false → action_number one.action ≡ number → action_number other.action ≡ number → Differ one other
apart_differ number one other apart is also = elim (comes_before one other) as (λ b. comes_before one other ≡ b → Differ one other) [
  | true ↦ λ less. inl less
  | false ↦ λ fails. elim (comes_before other one) as (λ b. comes_before other one ≡ b → Differ one other) [
    | true ↦ λ more. inr more
    | false ↦ λ none.
        let level = tie one other fails none in
        let player : (one.player == other.player) ≡ true = eq-eqb one.player other.player level.0 in
        let action : (action_number one.action == action_number other.action) ≡ true = eq-eqb (action_number one.action) (action_number other.action) (is ∙ sym also) in
        let actor : (one.actor == other.actor) ≡ true = eq-eqb one.actor other.actor level.1 in
        let same : same_entry one other ≡ true = λ i. player i && action i && actor i in
        absurd (cc)
  ] refl
] refl

module _ (action : Action) where
  abbrev is_of : Intent → Bool
  is_of entry = action_number entry.action == action_number action

  differ_all : (entry : Intent) (later : List Intent) → is_of entry ≡ true → AllByRecursion (λ other. same_entry entry other ≡ false) later → AllByRecursion (Differ entry) (of_action action later)
  differ_all entry [] is apart = tt
  differ_all entry (other ∷ later) is apart =
      let rest = differ_all entry later is apart.1 in
      elim (is_of other) as (λ b. is_of other ≡ b → AllByRecursion (Differ entry) (cond b (other ∷ of_action action later) (of_action action later))) [
        | true ↦ λ also. (apart_differ (action_number action) entry other apart.0 (eqb-true (action_number entry.action) (action_number action) is) (eqb-true (action_number other.action) (action_number action) also), rest)
        | false ↦ λ also. rest
      ] refl

  of_action_differ : (list : List Intent) → AreApart list → DoDiffer (of_action action list)
  of_action_differ [] apart = tt
  of_action_differ (entry ∷ later) apart =
      let rest = of_action_differ later (pairs_later (λ one other. same_entry one other ≡ false) entry later apart) in
      let first : AllByRecursion (λ other. same_entry entry other ≡ false) later = pairs_first (λ one other. same_entry one other ≡ false) entry later apart in
      elim (is_of entry) as (λ b. is_of entry ≡ b → DoDiffer (cond b (entry ∷ of_action action later) (of_action action later))) [
        | true ↦ λ is. (differ_all entry later is first, rest)
        | false ↦ λ is. rest
      ] refl

pub kept-rises : (world : World) (list : List Intent) (action : Action) → Rises (entries_of action (kept world list))
kept-rises world list action = pairs_rise (entries_of action (kept world list)) (in_order-rises (of_action action (kept world list)) (of_action_differ action (kept world list) (kept_apart world list)))

-- ---- one order

does_rise : (list : List Intent) → Rises list → DoesRise list
does_rise [] rises = tt
does_rise (entry ∷ later) rises = (
  pairs_first (λ one other. comes_before one other ≡ true) entry later rises,
  does_rise later (pairs_later (λ one other. comes_before one other ≡ true) entry later rises),
)

abbrev AllIn : List Intent → List Intent → Type 0
AllIn one other = AllByRecursion (Has other) one

has_more : (first : Intent) (later list : List Intent) → AllIn list later → AllIn list (first ∷ later)
has_more first later [] all = tt
has_more first later (entry ∷ list) all = (inr all.0, has_more first later list all.1)

in_itself : (list : List Intent) → AllIn list list
in_itself [] = tt
in_itself (entry ∷ later) = (inl refl, has_more entry later later (in_itself later))

in_other : (one other : List Intent) → IsPermutation one other → AllIn other one
in_other one other same = recursion_from_All (Has one) other (All-permutation (Has one) one other same (All-from_recursion (Has one) one (in_itself one)))

not_itself : (entry : Intent) → comes_before entry entry ≡ true → ⊥
not_itself entry less = let fails : comes_before entry entry ≡ false = not_both entry entry less in absurd (cc)

first_same : (x y : Intent) (xs ys : List Intent) → IsBefore x xs → IsBefore y ys → (y ≡ x) ⊎ Has ys x → (x ≡ y) ⊎ Has xs y → x ≡ y
first_same x y xs ys rises also (inl is) there = sym is
first_same x y xs ys rises also (inr has) (inl is) = is
first_same x y xs ys rises also (inr has) (inr more) =
    let less : comes_before y x ≡ true = all_of_has (λ other. comes_before y other ≡ true) ys x also has in
    let fails : comes_before y x ≡ false = not_both x y (all_of_has (λ other. comes_before x other ≡ true) xs y rises more) in
    absurd (cc)

-- the first is not among those after it
without_first : (first : Intent) (list later : List Intent) → IsBefore first list → AllIn list (first ∷ later) → AllIn list later
without_first first [] later before all = tt
without_first first (entry ∷ list) later before all = (
  elim (all.0) as (λ h. Has later entry) [
    | inl is ↦ absurd (not_itself first (subst (λ e. comes_before first e ≡ true) (sym is) before.0))
    | inr has ↦ has
  ],
  without_first first list later before.1 all.1,
)

rising_same : (one other : List Intent) → DoesRise one → DoesRise other → AllIn one other → AllIn other one → one ≡ other
rising_same [] [] rises also into from = refl
rising_same [] (y ∷ ys) rises also into from = absurd (from.0)
rising_same (x ∷ xs) [] rises also into from = absurd (into.0)
rising_same (x ∷ xs) (y ∷ ys) rises also into from =
    let first : x ≡ y = first_same x y xs ys rises.0 also.0 into.0 from.0 in
    let after : AllIn xs ys = without_first x xs ys rises.0 (subst (λ e. AllIn xs (e ∷ ys)) (sym first) into.1) in
    let before : AllIn ys xs = without_first y ys xs also.0 (subst (λ e. AllIn ys (e ∷ xs)) first from.1) in
    let rest = rising_same xs ys rises.1 also.1 after before in
    λ i. first i ∷ rest i

pub one_order : (one other : List Intent) → IsPermutation one other → Rises one → Rises other → one ≡ other
one_order one other same rises also =
    rising_same one other (does_rise one rises) (does_rise other also) (in_other other one (IsPermutation-sym one other same)) (in_other one other same)
