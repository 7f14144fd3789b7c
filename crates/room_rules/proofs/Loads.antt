-- What creeps hand over, take and pick up keeps the rules of a room.
use Rattle.std.proofs.Common.{◌≡◌, ℕ, ◌<◌, ◌≤◌, ◌==◌, min, if◌then◌else◌, Bool, true, false, refl, sym, ◌∙◌, arith}
use Rattle.std.proofs.lemmas.Bool.{both_ways, eq-eqb}
use Rattle.game_tables.specs.declared.action.Action.TheVariants.{Transfer, Withdraw, Pickup}
use Rattle.intent_book.specs.declared.intent.Intent.{Intent}
use Rattle.room_table.specs.Stores.{free_room}
use Rattle.room_table.specs.declared.object.Object.{Object}
use Rattle.world_rules.specs.RoomParts.{RoomPart, controller_of}
use Rattle.world_rules.specs.Changes.{with_object, without}
use Rattle.world_rules.specs.Drops.{wanted_of}
use Rattle.world_rules.specs.Loads.{with_more, with_less, transferred_by, transferred, withdrawn_by, withdrawn, taken_from, picked_up_by, picked_up}
use Rattle.world_rules.proofs.Checked.{AreParties}
use Rattle.room_rules.specs.Within.{Stage}
use Rattle.room_rules.specs.RoomRules.{Holds, KeepsRoomRules}
use Rattle.room_rules.proofs.Keeps.{IsSame, keeps_changed, keeps_without}
use Rattle.room_rules.proofs.Falls.{less_range}
use Rattle.room_rules.proofs.Changed.{holds_still, holds_without, keeps_two, PartiesKeep, keeps_parties, target_kind, target_apart}
use Rattle.room_rules.proofs.Amounts.{creep_takes, more_range, store_less, pile_less}

-- an object with another energy is the same
pub same_more : (amount : ℕ) (o : Object) → IsSame o (with_more amount o)
same_more amount o = record { id = refl; kind = refl; x = refl; y = refl; owner = refl; other = refl }

pub same_less : (amount : ℕ) (o : Object) → IsSame o (with_less amount o)
same_less amount o = record { id = refl; kind = refl; x = refl; y = refl; owner = refl; other = refl }

module _ (players : ℕ → Bool) (stage : Stage) where
  abbrev Kept : RoomPart → Type 0
  Kept part = KeepsRoomRules players stage part

  transfer_keeps : (entry : Intent) → PartiesKeep players stage Transfer (transferred_by entry.amount) entry
  transfer_keeps entry part k creep target p =
      let amount : ℕ = min (wanted_of entry.amount creep.energy) (free_room (controller_of part) target) in
      keeps_two players stage part k entry.actor entry.target creep target (with_less amount creep) (with_more amount target) p.there p.at
      (target_apart Transfer 1 entry part creep target p.targets refl) (same_less amount creep) (same_more amount target)
      (less_range players stage creep amount p.kind)
      (more_range stage target (controller_of part) amount target.kind (target_kind Transfer 1 entry part creep target p.targets) (omega arith))

  pub keeps_transferred : (part : RoomPart) → Kept part → (entry : Intent) → Kept (transferred entry part)
  keeps_transferred part k entry = keeps_parties players stage Transfer (transferred_by entry.amount) entry (transfer_keeps entry) part k

  withdraw_keeps : (entry : Intent) → PartiesKeep players stage Withdraw (withdrawn_by entry.amount) entry
  withdraw_keeps entry part k creep store p =
      let amount : ℕ = min (wanted_of entry.amount store.energy) (free_room (controller_of part) creep) in
      keeps_two players stage part k entry.target entry.actor store creep (with_less amount store) (with_more amount creep) p.at p.there
      (λ same. target_apart Withdraw 1 entry part creep store p.targets refl (sym same)) (same_less amount store) (same_more amount creep)
      (store_less stage store amount store.kind (target_kind Withdraw 1 entry part creep store p.targets))
      (more_range stage creep (controller_of part) amount creep.kind (creep_takes creep.kind p.kind) (omega arith))

  pub keeps_withdrawn : (part : RoomPart) → Kept part → (entry : Intent) → Kept (withdrawn entry part)
  keeps_withdrawn part k entry = keeps_parties players stage Withdraw (withdrawn_by entry.amount) entry (withdraw_keeps entry) part k

  -- ---- piles

  -- A pile of which an amount is taken leaves the rules and the creep as they were.
  taken_keeps : (entry : Intent) (part : RoomPart) → Kept part → (creep pile : Object) → AreParties Pickup entry part creep pile → (amount : ℕ) → amount ≤ pile.energy → (b : Bool) → (amount == pile.energy) ≡ b
      → Kept (if b then without pile.id part else with_object (with_less amount pile) part) × Holds (if b then without pile.id part else with_object (with_less amount pile) part) entry.actor creep
  taken_keeps entry part k creep pile p amount most true is =
      let apart : pile.id ≡ entry.actor → ⊥ = λ e. target_apart Pickup 1 entry part creep pile p.targets refl (k.ids entry.actor creep p.there ∙ sym e) in
      (keeps_without players stage part k pile.id, holds_without part pile.id entry.actor creep p.there apart)
  taken_keeps entry part k creep pile p amount most false is =
      let apart : pile.id ≡ entry.actor → ⊥ = λ e. target_apart Pickup 1 entry part creep pile p.targets refl (k.ids entry.actor creep p.there ∙ sym e) in
      let unequal : amount ≡ pile.energy → ⊥ = λ e. both_ways (amount == pile.energy) is (eq-eqb amount pile.energy e) in
      let left : amount < pile.energy = omega (arith, unequal, most) in (
        keeps_changed players stage part k entry.target pile (with_less amount pile) p.at (same_less amount pile) (pile_less stage pile amount pile.kind (target_kind Pickup 1 entry part creep pile p.targets) left),
        holds_still part (with_less amount pile) entry.actor creep p.there apart,
      )

  pick_keeps : (entry : Intent) → PartiesKeep players stage Pickup picked_up_by entry
  pick_keeps entry part k creep pile p =
      let amount : ℕ = min pile.energy (free_room (controller_of part) creep) in
      let taken = taken_keeps entry part k creep pile p amount (omega arith) (amount == pile.energy) refl in
      keeps_changed players stage (taken_from pile amount part) taken.0 entry.actor creep (with_more amount creep) taken.1 (same_more amount creep)
      (more_range stage creep (controller_of part) amount creep.kind (creep_takes creep.kind p.kind) (omega arith))

  pub keeps_picked_up : (part : RoomPart) → Kept part → (entry : Intent) → Kept (picked_up entry part)
  keeps_picked_up part k entry = keeps_parties players stage Pickup picked_up_by entry (pick_keeps entry) part k
