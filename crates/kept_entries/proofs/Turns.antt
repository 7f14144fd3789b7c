-- A list by the numbers of its actions is the entries of each action, one action after the other.
use Rattle.std.proofs.Common.{◌≡◌, ℕ, suc, ◌<◌, ◌≤◌, not, Bool, true, false, cond, List, [], ◌∷◌, ◌++◌, filter, refl, sym, ap, subst, ◌∙◌, arith, lit<}
use Rattle.std.specs.List.{AllByRecursion, flat_map}
use Rattle.std.proofs.lemmas.Bool.{eqb-true, eqb-false, ne_eqb}
use Rattle.game_tables.specs.Actions.{action_number}
use Rattle.game_tables.specs.declared.action.Action.{Action}
use Rattle.game_tables.specs.declared.action.Action.TheVariants as actions
use Rattle.intent_book.specs.declared.intent.Intent.{Intent}
use Rattle.world_rules.specs.Intents.{all_actions}
use Rattle.kept_entries.specs.inner.Choosing.{is_of, by_action}

abbrev pub number_of : Intent → ℕ
number_of intent = action_number intent.action

-- No number falls.
abbrev pub IsByNumber : List Intent → Type 0
IsByNumber [] = Unit {0}
IsByNumber (intent ∷ later) = AllByRecursion (λ other. number_of intent ≤ number_of other) later × IsByNumber later

abbrev AreFrom : ℕ → List Intent → Type 0
AreFrom number list = AllByRecursion (λ intent. number ≤ number_of intent) list

-- ---- one action, and what is left without it

module _ (action : Action) where
  abbrev is_other : Intent → Bool
  is_other intent = not (is_of action intent)

  abbrev others : List Intent → List Intent
  others list = filter is_other list

  -- those of greater numbers have none of the action
  none_of : (list : List Intent) → AllByRecursion (λ intent. action_number action < number_of intent) list → filter (is_of action) list ≡ []
  none_of [] all = refl
  none_of (intent ∷ later) all =
      let apart : is_of action intent ≡ false = ne_eqb (number_of intent) (action_number action) (λ same. let more : action_number action < number_of intent = all.0 in absurd (omega arith)) in
      ap (λ (b : Bool). cond b (intent ∷ filter (is_of action) later) (filter (is_of action) later)) apart ∙ none_of later all.1

  all_others : (list : List Intent) → AllByRecursion (λ intent. action_number action < number_of intent) list → others list ≡ list
  all_others [] all = refl
  all_others (intent ∷ later) all =
      let apart : is_of action intent ≡ false = ne_eqb (number_of intent) (action_number action) (λ same. let more : action_number action < number_of intent = all.0 in absurd (omega arith)) in
      ap (λ (b : Bool). cond (not b) (intent ∷ others later) (others later)) apart ∙ ap (λ (rest : List Intent). intent ∷ rest) (all_others later all.1)

  greater : (first : Intent) (later : List Intent) → action_number action < number_of first → AllByRecursion (λ other. number_of first ≤ number_of other) later → AllByRecursion (λ intent. action_number action < number_of intent) later
  greater first [] less all = tt
  greater first (intent ∷ later) less all =
      let up : number_of first ≤ number_of intent = all.0 in
      (omega arith, greater first later less all.1)

  -- those of the least number stand before the others
  first_then : (list : List Intent) → IsByNumber list → AreFrom (action_number action) list → list ≡ filter (is_of action) list ++ others list
  first_then [] up from = refl
  first_then (intent ∷ later) up from =
      let rest = first_then later up.1 from.1 in
      let least : action_number action ≤ number_of intent = from.0 in
      elim (is_of action intent) as (λ b. is_of action intent ≡ b → intent ∷ later ≡ cond b (intent ∷ filter (is_of action) later) (filter (is_of action) later) ++ cond (not b) (intent ∷ others later) (others later)) [
        | true ↦ λ is. ap (λ (list : List Intent). intent ∷ list) rest
        | false ↦ λ is.
            let apart = eqb-false (number_of intent) (action_number action) is in
            let more : AllByRecursion (λ other. action_number action < number_of other) later = greater intent later (omega (arith, apart)) up.0 in
            λ i. sym (none_of later more) i ++ (intent ∷ sym (all_others later more) i)
      ] refl

  others_from : (list : List Intent) → AreFrom (action_number action) list → AreFrom (suc (action_number action)) (others list)
  others_from [] from = tt
  others_from (intent ∷ later) from =
      let rest = others_from later from.1 in
      let least : action_number action ≤ number_of intent = from.0 in
      elim (is_of action intent) as (λ b. is_of action intent ≡ b → AreFrom (suc (action_number action)) (cond (not b) (intent ∷ others later) (others later))) [
        | true ↦ λ is. rest
        | false ↦ λ is. let apart = eqb-false (number_of intent) (action_number action) is in (omega (arith, apart), rest)
      ] refl

  all_left : (P : Intent → Type 0) (list : List Intent) → AllByRecursion P list → AllByRecursion P (others list)
  all_left P [] all = tt
  all_left P (intent ∷ later) all =
      let rest = all_left P later all.1 in
      elim (is_of action intent) as (λ b. AllByRecursion P (cond (not b) (intent ∷ others later) (others later))) [ true ↦ rest | false ↦ (all.0, rest) ]

  others_up : (list : List Intent) → IsByNumber list → IsByNumber (others list)
  others_up [] up = tt
  others_up (intent ∷ later) up =
      let rest = others_up later up.1 in
      elim (is_of action intent) as (λ b. IsByNumber (cond (not b) (intent ∷ others later) (others later))) [
        | true ↦ rest
        | false ↦ (all_left (λ other. number_of intent ≤ number_of other) later up.0, rest)
      ]

  -- of another action the same stand among the others
  left_of : (other : Action) → action_number action < action_number other → (list : List Intent) → filter (is_of other) (others list) ≡ filter (is_of other) list
  left_of other less [] = refl
  left_of other less (intent ∷ later) =
      let rest = left_of other less later in
      elim (is_of action intent) as (λ b. is_of action intent ≡ b → filter (is_of other) (cond (not b) (intent ∷ others later) (others later)) ≡ cond (is_of other intent) (intent ∷ filter (is_of other) later) (filter (is_of other) later)) [
        | true ↦ λ is.
            let same : number_of intent ≡ action_number action = eqb-true (number_of intent) (action_number action) is in
            let apart : is_of other intent ≡ false = ne_eqb (number_of intent) (action_number other) (λ also. absurd (omega arith)) in
            rest ∙ sym (ap (λ (b : Bool). cond b (intent ∷ filter (is_of other) later) (filter (is_of other) later)) apart)
        | false ↦ λ is. ap (cond (is_of other intent) (intent ∷ filter (is_of other) (others later))) rest ∙ ap (λ (list : List Intent). cond (is_of other intent) (intent ∷ list) (filter (is_of other) later)) rest
      ] refl

-- ---- all actions

-- The actions have the numbers from one up to another, in their order.
abbrev AreNumbered : ℕ → ℕ → List Action → Type 0
AreNumbered from end [] = from ≡ end
AreNumbered from end (action ∷ later) = (action_number action ≡ from) × AreNumbered (suc from) end later

abbrev AreAbove : ℕ → List Action → Type 0
AreAbove number list = AllByRecursion (λ action. number < action_number action) list

above_all : (number from end : ℕ) (list : List Action) → number < from → AreNumbered from end list → AreAbove number list
above_all number from end [] less is = tt
above_all number from end (action ∷ later) less is =
    let at : action_number action ≡ from = is.0 in
    (omega arith, above_all number (suc from) end later (omega arith) is.1)

map_left : (action : Action) (list : List Intent) (later : List Action) → AreAbove (action_number action) later → flat_map (λ other. filter (is_of other) (others action list)) later ≡ flat_map (λ other. filter (is_of other) list) later
map_left action list [] above = refl
map_left action list (other ∷ later) above = λ i. left_of action other above.0 list i ++ map_left action list later above.1 i

from_here : (one other : ℕ) (list : List Intent) → one ≡ other → AreFrom other list → AreFrom one list
from_here one other list same from = subst (λ (n : ℕ). AreFrom n list) (sym same) from

no_more : (end : ℕ) (list : List Intent) → AreFrom end list → AllByRecursion (λ intent. number_of intent < end) list → list ≡ []
no_more end [] from within = refl
no_more end (intent ∷ later) from within =
    let least : end ≤ number_of intent = from.0 in
    let most : number_of intent < end = within.0 in
    absurd (omega arith)

turns : (from end : ℕ) (list : List Intent) (order : List Action) → AreNumbered from end order → IsByNumber list → AreFrom from list → AllByRecursion (λ intent. number_of intent < end) list → list ≡ flat_map (λ action. filter (is_of action) list) order
turns from end list [] is up least within = no_more end list (from_here end from list (sym is) least) within
turns from end list (action ∷ later) is up least within =
    let at : action_number action ≡ from = is.0 in
    let here : AreFrom (action_number action) list = from_here (action_number action) from list at least in
    let behind : AreFrom (suc from) (others action list) = from_here (suc from) (suc (action_number action)) (others action list) (ap suc (sym at)) (others_from action list here) in
    let rest = turns (suc from) end (others action list) later is.1 (others_up action list up) behind (all_left action (λ intent. number_of intent < end) list within) in
    first_then action list up here
    ∙ ap (λ (more : List Intent). filter (is_of action) list ++ more) (rest ∙ map_left action list later (above_all (action_number action) (suc from) end later (omega arith) is.1))

pub number_bound : (action : Action) → action_number action < 23
number_bound actions.DropLoad = lit< tt
number_bound actions.Transfer = lit< tt
number_bound actions.Withdraw = lit< tt
number_bound actions.Pickup = lit< tt
number_bound actions.Heal = lit< tt
number_bound actions.RangedHeal = lit< tt
number_bound actions.Dismantle = lit< tt
number_bound actions.Attack = lit< tt
number_bound actions.Harvest = lit< tt
number_bound actions.Repair = lit< tt
number_bound actions.Build = lit< tt
number_bound actions.RangedMassAttack = lit< tt
number_bound actions.RangedAttack = lit< tt
number_bound actions.Suicide = lit< tt
number_bound actions.ClaimController = lit< tt
number_bound actions.Upgrade = lit< tt
number_bound actions.Reserve = lit< tt
number_bound actions.AttackController = lit< tt
number_bound actions.CreateSite = lit< tt
number_bound actions.RemoveSite = lit< tt
number_bound actions.SpawnCreep = lit< tt
number_bound actions.Move = lit< tt

all_bounded : (list : List Intent) → AllByRecursion (λ intent. number_of intent < 23) list
all_bounded [] = tt
all_bounded (intent ∷ later) = (number_bound intent.action, all_bounded later)

positive : (action : Action) → 0 < action_number action
positive actions.DropLoad = lit< tt
positive actions.Transfer = lit< tt
positive actions.Withdraw = lit< tt
positive actions.Pickup = lit< tt
positive actions.Heal = lit< tt
positive actions.RangedHeal = lit< tt
positive actions.Dismantle = lit< tt
positive actions.Attack = lit< tt
positive actions.Harvest = lit< tt
positive actions.Repair = lit< tt
positive actions.Build = lit< tt
positive actions.RangedMassAttack = lit< tt
positive actions.RangedAttack = lit< tt
positive actions.Suicide = lit< tt
positive actions.ClaimController = lit< tt
positive actions.Upgrade = lit< tt
positive actions.Reserve = lit< tt
positive actions.AttackController = lit< tt
positive actions.CreateSite = lit< tt
positive actions.RemoveSite = lit< tt
positive actions.SpawnCreep = lit< tt
positive actions.Move = lit< tt

all_positive : (list : List Intent) → AreFrom 1 list
all_positive [] = tt
all_positive (intent ∷ later) = let some = positive intent.action in (omega arith, all_positive later)

numbered : AreNumbered 1 23 all_actions
numbered = (refl, (refl, (refl, (refl, (refl, (refl, (refl, (refl, (refl, (refl, (refl, (refl, (refl, (refl, (refl, (refl, (refl, (refl, (refl, (refl, (refl, (refl, refl))))))))))))))))))))))

map_alike : (one other : List Intent) → ((action : Action) → filter (is_of action) one ≡ filter (is_of action) other) → (order : List Action) → flat_map (λ action. filter (is_of action) one) order ≡ flat_map (λ action. filter (is_of action) other) order
map_alike one other same [] = refl
map_alike one other same (action ∷ later) = λ i. same action i ++ map_alike one other same later i

-- a list by number that has the entries of each action as another has them is that list action by action
pub by_action_is : (list sorted : List Intent) → IsByNumber sorted → ((action : Action) → filter (is_of action) sorted ≡ filter (is_of action) list) → sorted ≡ by_action list
by_action_is list sorted up same =
    turns 1 23 sorted all_actions numbered up (all_positive sorted) (all_bounded sorted)
    ∙ map_alike sorted list same all_actions
