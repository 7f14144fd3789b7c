-- No more entries count than there are.
use Rattle.std.proofs.Common.{◌≡◌, ℕ, ◌+◌, ◌≤◌, ◌==◌, not, Bool, true, false, cond, if◌then◌else◌, List, [], ◌∷◌, length, refl, ap, ◌∙◌, arith}
use Rattle.std.specs.List.{count_by, filter, flat_map, list_any}
use Rattle.std.proofs.lemmas.List.{length-append, length-map}
use Rattle.std.proofs.lemmas.List.Sums.{count_by-le-length, length-filter}
use Rattle.room_table.proofs.Moved.{count_head}
use Rattle.game_tables.specs.Actions.{action_number}
use Rattle.game_tables.specs.declared.action.Action.{Action}
use Rattle.game_tables.specs.declared.action.Action.TheVariants as actions
use Rattle.intent_book.specs.declared.intent.Intent.{Intent}
use Rattle.kept_entries.specs.declared.entries.Entry.{Entry}
use Rattle.kept_entries.specs.Turns.{in_turn, placed, placed_in, AreKept}
use Rattle.world_rules.specs.World.{World}
use Rattle.world_rules.specs.Intents.{all_actions, fits, same_entry, last_of_each, overrules, kept, undropped, comes_before, put_in_order, in_order, entries_of}

length_put : (intent : Intent) (list : List Intent) → length (put_in_order intent list) ≡ length (intent ∷ list)
length_put intent [] = refl
length_put intent (first ∷ later) =
    let rest = length_put intent later in
    elim (comes_before intent first) as (λ b. length (if b then intent ∷ first ∷ later else first ∷ put_in_order intent later) ≡ length (intent ∷ first ∷ later)) [ true ↦ refl | false ↦ omega arith ]

length_order : (list : List Intent) → length (in_order list) ≡ length list
length_order [] = refl
length_order (intent ∷ later) = omega (arith, length_put intent (in_order later), length_order later)

length_last : (list : List Intent) → length (last_of_each list) ≤ length list
length_last [] = omega arith
length_last (intent ∷ later) =
    let rest = length_last later in
    elim (list_any (same_entry intent) later) as (λ b. length (if b then last_of_each later else intent ∷ last_of_each later) ≤ length (intent ∷ later)) [ true ↦ omega arith | false ↦ omega arith ]

fewer_filtered : (test : Intent → Bool) (list : List Intent) → length (filter test list) ≤ length list
fewer_filtered test list = omega (arith, length-filter test list, count_by-le-length test list)

-- Of those that pass a test the last ones, without those that are overruled.
pub fewer_standing : (test : Intent → Bool) (list : List Intent) → length (undropped (last_of_each (filter test list))) ≤ length list
fewer_standing test list =
    let fitting : List Intent = filter test list in
    let standing : List Intent = last_of_each fitting in
    omega (arith, fewer_filtered (λ entry. not (list_any (λ one. overrules one entry) standing)) standing, length_last fitting, fewer_filtered test list)

-- ---- each entry has its turn once

once_among : (action : Action) → count_by (λ other. action_number action == action_number other) all_actions ≡ 1
once_among actions.DropLoad = refl
once_among actions.Transfer = refl
once_among actions.Withdraw = refl
once_among actions.Pickup = refl
once_among actions.Heal = refl
once_among actions.RangedHeal = refl
once_among actions.Dismantle = refl
once_among actions.Attack = refl
once_among actions.Harvest = refl
once_among actions.Repair = refl
once_among actions.Build = refl
once_among actions.RangedMassAttack = refl
once_among actions.RangedAttack = refl
once_among actions.Suicide = refl
once_among actions.ClaimController = refl
once_among actions.Upgrade = refl
once_among actions.Reserve = refl
once_among actions.AttackController = refl
once_among actions.CreateSite = refl
once_among actions.RemoveSite = refl
once_among actions.SpawnCreep = refl
once_among actions.Move = refl

abbrev turned : List Action → List Intent → List Intent
turned all list = flat_map (λ action. entries_of action list) all

filter_head : (test : Intent → Bool) (intent : Intent) (list : List Intent) → length (filter test (intent ∷ list)) ≡ cond (test intent) 1 0 + length (filter test list)
filter_head test intent list = elim (test intent) as (λ b. length (cond b (intent ∷ filter test list) (filter test list)) ≡ cond b 1 0 + length (filter test list)) [ true ↦ omega arith | false ↦ omega arith ]

turned_head : (all : List Action) (list : List Intent) (action : Action) → length (turned (action ∷ all) list) ≡ length (filter (λ intent. action_number intent.action == action_number action) list) + length (turned all list)
turned_head all list action =
    length-append (entries_of action list) (turned all list)
    ∙ ap (λ (n : ℕ). n + length (turned all list)) (length_order (filter (λ intent. action_number intent.action == action_number action) list))

turned_more : (all : List Action) (intent : Intent) (list : List Intent) → length (turned all (intent ∷ list)) ≡ count_by (λ other. action_number intent.action == action_number other) all + length (turned all list)
turned_more [] intent list = refl
turned_more (action ∷ all) intent list =
    omega (
      arith,
      turned_head all (intent ∷ list) action,
      turned_head all list action,
      turned_more all intent list,
      filter_head (λ one. action_number one.action == action_number action) intent list,
      count_head (λ other. action_number intent.action == action_number other) action all,
    )

turned_none : (all : List Action) → length (turned all []) ≡ 0
turned_none [] = refl
turned_none (action ∷ all) = turned_none all

pub in_turn_many : (list : List Intent) → length (in_turn list) ≡ length list
in_turn_many [] = turned_none all_actions
in_turn_many (intent ∷ list) = omega (arith, turned_more all_actions intent list, once_among intent.action, in_turn_many list)

pub kept_few : (world : World) (list : List Intent) (entries : List Entry) → AreKept world list entries → length entries ≤ length list
kept_few world list entries are =
    omega (arith, ap length are, length-map entries placed, length-map (in_turn (kept world list)) (placed_in world), in_turn_many (kept world list), fewer_standing (fits world) list)
