-- What creeps hand over, take and pick up stays in the room.
use Rattle.std.proofs.Common.{◌≡◌, ℕ, ◌+◌, ◌≤◌, ◌==◌, min, if◌then◌else◌, Bool, true, false, Option, Some, None, refl, sym, arith}
use Rattle.std.proofs.lemmas.Bool.{eqb-true}
use Rattle.game_tables.specs.declared.action.Action.{Action}
use Rattle.game_tables.specs.declared.action.Action.TheVariants.{Transfer, Withdraw, Pickup}
use Rattle.intent_book.specs.declared.intent.Intent.{Intent}
use Rattle.room_table.specs.Stores.{free_room}
use Rattle.room_table.specs.declared.object.Object.{Object}
use Rattle.world_rules.specs.RoomParts.{RoomPart, controller_of}
use Rattle.world_rules.specs.Changes.{with_object, without}
use Rattle.world_rules.specs.Checks.{between, by_parties, parties}
use Rattle.world_rules.specs.Drops.{wanted_of}
use Rattle.world_rules.specs.Loads.{with_more, with_less, handed_over, transferred_by, withdrawn_by, taken_from, picked_up_by}
use Rattle.world_rules.proofs.Checked.{AreParties, parties_are}
use Rattle.room_rules.specs.RoomRules.{Holds}
use Rattle.room_rules.proofs.Changed.{holds_still, holds_without, target_apart}
use Rattle.room_energy.specs.Energy.{energy_in, amount_between}
use Rattle.room_energy.proofs.Parts.{IsReady, energy_changed, energy_two, energy_without, under_own}
use Rattle.room_energy.proofs.Piles.{wanted_most}

-- ---- the creep and the target of an entry

module _ (action : Action) (change : Object → Object → RoomPart → RoomPart) (taken : Object → Object → ℕ) (entry : Intent) (part : RoomPart) where
  -- The change takes so much out of the room, where these are the parties of the entry.
  abbrev pub PartiesTake : Type 0
  PartiesTake = (creep target : Object) → AreParties action entry part creep target → energy_in (change creep target part) + taken creep target ≡ energy_in part

  between_takes : PartiesTake → (found : Option (Object × Object)) → parties action entry part ≡ found → energy_in (between change found part) + amount_between taken found ≡ energy_in part
  between_takes takes None is = omega arith
  between_takes takes (Some found) is = takes found.0 found.1 (parties_are action entry part found is)

  pub energy_parties : PartiesTake → energy_in (by_parties action change entry part) + amount_between taken (parties action entry part) ≡ energy_in part
  energy_parties takes = between_takes takes (parties action entry part) refl

taken_none : (found : Option (Object × Object)) → amount_between (λ creep target. 0) found ≡ 0
taken_none None = refl
taken_none (Some found) = refl

-- A change that takes nothing.
pub keeps_parties : (action : Action) (change : Object → Object → RoomPart → RoomPart) (entry : Intent) (part : RoomPart)
    → ((creep target : Object) → AreParties action entry part creep target → energy_in (change creep target part) ≡ energy_in part) → energy_in (by_parties action change entry part) + 0 ≡ energy_in part
keeps_parties action change entry part keeps =
    let all = energy_parties action change (λ creep target. 0) entry part (λ creep target p. (let kept = keeps creep target p in omega (arith, kept))) in
    omega (arith, all, taken_none (parties action entry part))

-- ---- an amount that goes from one to the other

energy_handed : (part : RoomPart) → IsReady part → (i j : ℕ) (giver taker : Object) → Holds part i giver → Holds part j taker → (giver.id ≡ taker.id → ⊥) → (amount : ℕ) → amount ≤ giver.energy
    → energy_in (handed_over amount giver taker part) ≡ energy_in part
energy_handed part ready i j giver taker h g apart amount most =
    let both = energy_two part ready i j giver taker (with_less amount giver) (with_more amount taker) h g apart refl refl in omega (arith, most, both)

pub energy_transferred : (part : RoomPart) → IsReady part → (entry : Intent) → energy_in (by_parties Transfer (transferred_by entry.amount) entry part) + 0 ≡ energy_in part
energy_transferred part ready entry = keeps_parties Transfer (transferred_by entry.amount) entry part (λ creep target p.
    let amount : ℕ = min (wanted_of entry.amount creep.energy) (free_room (controller_of part) target) in
    let most = wanted_most entry.amount creep.energy in
    energy_handed part ready entry.actor entry.target creep target p.there p.at (target_apart Transfer 1 entry part creep target p.targets refl) amount (omega (arith, most)))

pub energy_withdrawn : (part : RoomPart) → IsReady part → (entry : Intent) → energy_in (by_parties Withdraw (withdrawn_by entry.amount) entry part) + 0 ≡ energy_in part
energy_withdrawn part ready entry = keeps_parties Withdraw (withdrawn_by entry.amount) entry part (λ creep store p.
    let amount : ℕ = min (wanted_of entry.amount store.energy) (free_room (controller_of part) creep) in
    let most = wanted_most entry.amount store.energy in
    energy_handed part ready entry.target entry.actor store creep p.at p.there (λ same. target_apart Withdraw 1 entry part creep store p.targets refl (sym same)) amount (omega (arith, most)))

-- ---- piles

-- Of a pile an amount is taken, and the creep stands where it stood.
taken_if : (part : RoomPart) (id : ℕ) (creep pile : Object) → Holds part id creep → Holds part pile.id pile → (pile.id ≡ id → ⊥) → (amount : ℕ) → amount ≤ pile.energy → (b : Bool) → (amount == pile.energy) ≡ b
    → (energy_in (if b then without pile.id part else with_object (with_less amount pile) part) + amount ≡ energy_in part) × Holds (if b then without pile.id part else with_object (with_less amount pile) part) id creep
taken_if part id creep pile h g apart amount most true is =
    let all : amount ≡ pile.energy = eqb-true amount pile.energy is in
    let gone = energy_without part pile.id pile g in
    (omega (arith, all, gone), holds_without part pile.id id creep h apart)
taken_if part id creep pile h g apart amount most false is =
    let less = energy_changed part (with_less amount pile) pile g in
    (omega (arith, most, less), holds_still part (with_less amount pile) id creep h apart)

pub energy_picked_up : (part : RoomPart) → IsReady part → (entry : Intent) → energy_in (by_parties Pickup picked_up_by entry part) + 0 ≡ energy_in part
energy_picked_up part ready entry = keeps_parties Pickup picked_up_by entry part (λ creep pile p.
    let amount : ℕ = min pile.energy (free_room (controller_of part) creep) in
    let apart : pile.id ≡ creep.id → ⊥ = λ same. target_apart Pickup 1 entry part creep pile p.targets refl (sym same) in
    let taken = taken_if part creep.id creep pile (under_own part ready entry.actor creep p.there) (under_own part ready entry.target pile p.at) apart amount (omega arith) (amount == pile.energy) refl in
    let more = energy_changed (taken_from pile amount part) (with_more amount creep) creep taken.1 in
    let left = taken.0 in
    omega (arith, left, more))
