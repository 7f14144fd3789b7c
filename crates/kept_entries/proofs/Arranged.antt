-- Entries by player, actor and action, and those of them that pass a test, action by action.
use Rattle.std.proofs.Common.{◌≡◌, ◌||◌, not, if◌then◌else◌, Bool, true, false, cond, List, [], ◌∷◌, ◌++◌, refl, sym, ap, ◌∙◌}
use Rattle.std.specs.Ordering.{is_lt}
use Rattle.std.specs.List.{AllByRecursion, filter, flat_map, list_any}
use Rattle.std.proofs.lemmas.Bool.{eqb-true}
use Rattle.game_tables.specs.Actions.{action_number}
use Rattle.game_tables.specs.declared.action.Action.{Action}
use Rattle.intent_book.specs.declared.intent.Intent.{Intent}
use Rattle.world_rules.specs.Intents.{all_actions, comes_before, put_in_order, in_order, entries_of, overrules, undropped}
use Rattle.kept_entries.specs.Turns.{in_turn}
use Rattle.kept_entries.specs.inner.Choosing.{compared, put_by_actor, by_actor, is_of, by_action}
use Rattle.kept_entries.proofs.Keys.{through, not_both, before_is}

abbrev below : Intent → Intent → Bool
below one other = is_lt (compared one other)

-- ---- lists by actor

-- none of these is below the entry
abbrev NoneBelow : Intent → List Intent → Type 0
NoneBelow entry list = AllByRecursion (λ other. below other entry ≡ false) list

abbrev IsByActor : List Intent → Type 0
IsByActor [] = Unit {0}
IsByActor (entry ∷ later) = NoneBelow entry later × IsByActor later

-- the entry is below each of these
abbrev IsBelow : Intent → List Intent → Type 0
IsBelow entry list = AllByRecursion (λ other. below entry other ≡ true) list

below_all : (entry first : Intent) (later : List Intent) → below entry first ≡ true → NoneBelow first later → IsBelow entry later
below_all entry first [] less none = tt
below_all entry first (other ∷ later) less none = (through entry first other less none.0, below_all entry first later less none.1)

none_of_below : (entry : Intent) (list : List Intent) → IsBelow entry list → NoneBelow entry list
none_of_below entry [] all = tt
none_of_below entry (other ∷ later) all = (not_both entry other all.0, none_of_below entry later all.1)

none_put : (first entry : Intent) (list : List Intent) → below entry first ≡ false → NoneBelow first list → NoneBelow first (put_by_actor entry list)
none_put first entry [] fails none = (fails, tt)
none_put first entry (other ∷ later) fails none =
    let rest = none_put first entry later fails none.1 in
    elim (below entry other) as (λ b. NoneBelow first (if b then entry ∷ other ∷ later else other ∷ put_by_actor entry later)) [ true ↦ (fails, none) | false ↦ (none.0, rest) ]

put_ordered : (entry : Intent) (list : List Intent) → IsByActor list → IsByActor (put_by_actor entry list)
put_ordered entry [] order = (tt, tt)
put_ordered entry (first ∷ later) order =
    let rest = put_ordered entry later order.1 in
    elim (below entry first) as (λ b. below entry first ≡ b → IsByActor (if b then entry ∷ first ∷ later else first ∷ put_by_actor entry later)) [
      | true ↦ λ less. ((not_both entry first less, none_of_below entry later (below_all entry first later less order.0)), order)
      | false ↦ λ fails. (none_put first entry later fails order.0, rest)
    ] refl

ordered : (list : List Intent) → IsByActor (by_actor list)
ordered [] = tt
ordered (entry ∷ later) = put_ordered entry (by_actor later) (ordered later)

put_first : (entry : Intent) (list : List Intent) → IsBelow entry list → put_by_actor entry list ≡ entry ∷ list
put_first entry [] all = refl
put_first entry (first ∷ later) all = ap (λ b. if b then entry ∷ first ∷ later else first ∷ put_by_actor entry later) all.0

shared : (entry first : Intent) (list : List Intent) → below entry first ≡ false → (b : Bool) → first ∷ cond b (put_by_actor entry list) list ≡ cond b (put_by_actor entry (first ∷ list)) (first ∷ list)
shared entry first list fails true = sym (ap (λ b. if b then entry ∷ first ∷ list else first ∷ put_by_actor entry list) fails)
shared entry first list fails false = refl

module _ (test : Intent → Bool) where
  below_filter : (entry : Intent) (list : List Intent) → IsBelow entry list → IsBelow entry (filter test list)
  below_filter entry [] all = tt
  below_filter entry (other ∷ later) all =
      let rest = below_filter entry later all.1 in
      elim (test other) as (λ b. IsBelow entry (cond b (other ∷ filter test later) (filter test later))) [ true ↦ (all.0, rest) | false ↦ rest ]

  filter_put : (entry : Intent) (list : List Intent) → IsByActor list → filter test (put_by_actor entry list) ≡ cond (test entry) (put_by_actor entry (filter test list)) (filter test list)
  filter_put entry [] order = refl
  filter_put entry (first ∷ later) order =
      let rest = filter_put entry later order.1 in
      elim (below entry first) as (λ b. below entry first ≡ b → filter test (if b then entry ∷ first ∷ later else first ∷ put_by_actor entry later) ≡ cond (test entry) (put_by_actor entry (filter test (first ∷ later))) (filter test (first ∷ later))) [
        | true ↦ λ less.
            let all : IsBelow entry (first ∷ later) = (less, below_all entry first later less order.0) in
            ap (λ list. cond (test entry) list (filter test (first ∷ later))) (sym (put_first entry (filter test (first ∷ later)) (below_filter entry (first ∷ later) all)))
        | false ↦ λ fails. elim (test first) as (λ t. cond t (first ∷ filter test (put_by_actor entry later)) (filter test (put_by_actor entry later)) ≡ cond (test entry) (put_by_actor entry (cond t (first ∷ filter test later) (filter test later))) (cond t (first ∷ filter test later) (filter test later))) [
          | true ↦ ap (λ list. first ∷ list) rest ∙ shared entry first (filter test later) fails (test entry)
          | false ↦ rest
        ]
      ] refl

  -- those of a list by actor that pass a test are those that pass it, by actor
  filter_by_actor : (list : List Intent) → filter test (by_actor list) ≡ by_actor (filter test list)
  filter_by_actor [] = refl
  filter_by_actor (entry ∷ later) =
      filter_put entry (by_actor later) (ordered later)
      ∙ elim (test entry) as (λ b. cond b (put_by_actor entry (filter test (by_actor later))) (filter test (by_actor later)) ≡ by_actor (cond b (entry ∷ filter test later) (filter test later))) [
        | true ↦ ap (put_by_actor entry) (filter_by_actor later)
        | false ↦ filter_by_actor later
      ]

  or_swap : (a b c : Bool) → (a || (b || c)) ≡ (b || (a || c))
  or_swap true true c = refl
  or_swap true false c = refl
  or_swap false true c = refl
  or_swap false false c = refl

  any_put : (entry : Intent) (list : List Intent) → list_any test (put_by_actor entry list) ≡ (test entry || list_any test list)
  any_put entry [] = refl
  any_put entry (first ∷ later) =
      let rest = any_put entry later in
      elim (below entry first) as (λ b. list_any test (if b then entry ∷ first ∷ later else first ∷ put_by_actor entry later) ≡ (test entry || list_any test (first ∷ later))) [
        | true ↦ refl
        | false ↦ ap (λ t. test first || t) rest ∙ or_swap (test first) (test entry) (list_any test later)
      ]

  any_by_actor : (list : List Intent) → list_any test (by_actor list) ≡ list_any test list
  any_by_actor [] = refl
  any_by_actor (entry ∷ later) = any_put entry (by_actor later) ∙ ap (λ t. test entry || t) (any_by_actor later)

-- those that none overrules, by actor
undropped_by_actor : (list : List Intent) → undropped (by_actor list) ≡ by_actor (undropped list)
undropped_by_actor list =
    (λ i. filter (λ entry. not (any_by_actor (λ one. overrules one entry) list i)) (by_actor list))
    ∙ filter_by_actor (λ entry. not (list_any (λ one. overrules one entry) list)) list

-- ---- entries of one action

abbrev AreOf : Action → List Intent → Type 0
AreOf action list = AllByRecursion (λ entry. action_number entry.action ≡ action_number action) list

module _ (action : Action) where
  of_action : (list : List Intent) → AreOf action (filter (is_of action) list)
  of_action [] = tt
  of_action (entry ∷ later) =
      let rest = of_action later in
      elim (is_of action entry) as (λ b. is_of action entry ≡ b → AreOf action (cond b (entry ∷ filter (is_of action) later) (filter (is_of action) later))) [
        | true ↦ λ is. (eqb-true (action_number entry.action) (action_number action) is, rest)
        | false ↦ λ is. rest
      ] refl

  put_of : (entry : Intent) (list : List Intent) → action_number entry.action ≡ action_number action → AreOf action list → put_by_actor entry list ≡ put_in_order entry list
  put_of entry [] is all = refl
  put_of entry (first ∷ later) is all =
      let rest = put_of entry later is all.1 in
      let same : comes_before entry first ≡ below entry first = before_is entry first (is ∙ sym all.0) in
      (λ i. if sym same i then entry ∷ first ∷ later else first ∷ rest i)

  put_are : (entry : Intent) (list : List Intent) → action_number entry.action ≡ action_number action → AreOf action list → AreOf action (put_by_actor entry list)
  put_are entry [] is all = (is, tt)
  put_are entry (first ∷ later) is all =
      let rest = put_are entry later is all.1 in
      elim (below entry first) as (λ b. AreOf action (if b then entry ∷ first ∷ later else first ∷ put_by_actor entry later)) [ true ↦ (is, all) | false ↦ (all.0, rest) ]

  by_actor_are : (list : List Intent) → AreOf action list → AreOf action (by_actor list)
  by_actor_are [] all = tt
  by_actor_are (entry ∷ later) all = put_are entry (by_actor later) all.0 (by_actor_are later all.1)

  order_of : (list : List Intent) → AreOf action list → by_actor list ≡ in_order list
  order_of [] all = refl
  order_of (entry ∷ later) all =
      put_of entry (by_actor later) all.0 (by_actor_are later all.1) ∙ ap (put_in_order entry) (order_of later all.1)

  entries_as : (list : List Intent) → filter (is_of action) (by_actor list) ≡ entries_of action list
  entries_as list = filter_by_actor (is_of action) list ∙ order_of (filter (is_of action) list) (of_action list)

-- ---- all actions

turn_from : (list : List Intent) (actions : List Action) → flat_map (λ action. filter (is_of action) (by_actor list)) actions ≡ flat_map (λ action. entries_of action list) actions
turn_from list [] = refl
turn_from list (action ∷ later) = λ i. entries_as action list i ++ turn_from list later i

-- action by action, those by actor are the entries in their turn
pub in_turn_is : (list : List Intent) → by_action (undropped (by_actor list)) ≡ in_turn (undropped list)
in_turn_is list = ap by_action (undropped_by_actor list) ∙ turn_from (undropped list) all_actions
