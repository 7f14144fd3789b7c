-- What creeps harvest and repair keeps the rules of a room.
use Rattle.std.proofs.Common.{ℕ, ◌+◌, ◌-◌, ◌*◌, min, Bool, refl, sym, arith}
use Rattle.std.specs.FinMap.{get}
use Rattle.game_tables.specs.declared.action.Action.TheVariants.{Harvest, Repair}
use Rattle.intent_book.specs.declared.intent.Intent.{Intent}
use Rattle.room_table.specs.Stores.{free_room}
use Rattle.room_table.specs.declared.object.Object.{Object}
use Rattle.world_rules.specs.RoomParts.{RoomPart, controller_of}
use Rattle.world_rules.specs.Changes.{with_object}
use Rattle.world_rules.specs.Loads.{with_more, with_less}
use Rattle.world_rules.specs.Work.{live_work, harvested_by, harvested, hits_gained, repair_cost, repaired_by, repaired}
use Rattle.room_rules.specs.Within.{Stage}
use Rattle.room_rules.specs.RoomRules.{KeepsRoomRules}
use Rattle.room_rules.proofs.Keeps.{IsSame}
use Rattle.room_rules.proofs.Falls.{IsOpen, creep_tile, keeps_fallen, less_range, open_still}
use Rattle.room_rules.proofs.Changed.{keeps_two, PartiesKeep, keeps_parties, target_kind, target_apart}
use Rattle.room_rules.proofs.Amounts.{creep_takes, more_range, source_less, hits_range}
use Rattle.room_rules.proofs.Loads.{same_less, same_more}

module _ (players : ℕ → Bool) (stage : Stage) where
  abbrev Kept : RoomPart → Type 0
  Kept part = KeepsRoomRules players stage part

  -- ---- harvest

  harvest_keeps : (entry : Intent) → PartiesKeep players stage Harvest harvested_by entry
  harvest_keeps entry part k creep source p =
      let amount : ℕ = min (2 * live_work creep) source.energy in
      let taken : ℕ = min amount (free_room (controller_of part) creep) in
      let less : Object = with_less amount source in
      let more : Object = with_more taken creep in
      let both : Kept (with_object more (with_object less part)) =
      keeps_two players stage part k entry.target entry.actor source creep less more p.at p.there
      (λ same. target_apart Harvest 1 entry part creep source p.targets refl (sym same)) (same_less amount source) (same_more taken creep)
      (source_less stage source amount source.kind (target_kind Harvest 1 entry part creep source p.targets))
      (more_range stage creep (controller_of part) taken creep.kind (creep_takes creep.kind p.kind) (omega arith)) in
      let once : IsOpen players stage (with_object less part).grounds creep.x creep.y = open_still players stage part less (get part.objects less.id) creep.x creep.y refl (creep_tile players stage part k entry.actor creep p.there p.kind) in
      keeps_fallen players stage (with_object more (with_object less part)) both creep.x creep.y (amount - taken)
      (open_still players stage (with_object less part) more (get (with_object less part).objects more.id) creep.x creep.y refl once)

  pub keeps_harvested : (part : RoomPart) → Kept part → (entry : Intent) → Kept (harvested entry part)
  keeps_harvested part k entry = keeps_parties players stage Harvest harvested_by entry (harvest_keeps entry) part k

  -- ---- repair

  same_hits : (gain : ℕ) (o : Object) → IsSame o (record o { hits = o.hits + gain })
  same_hits gain o = record { id = refl; kind = refl; x = refl; y = refl; owner = refl; other = refl }

  repair_keeps : (entry : Intent) → PartiesKeep players stage Repair repaired_by entry
  repair_keeps entry part k creep building p =
      let gain : ℕ = hits_gained creep building in
      let cost : ℕ = repair_cost gain in
      keeps_two players stage part k entry.actor entry.target creep building (with_less cost creep) (record building { hits = building.hits + gain }) p.there p.at
      (target_apart Repair 3 entry part creep building p.targets refl) (same_less cost creep) (same_hits gain building)
      (less_range players stage creep cost p.kind)
      (hits_range stage building gain building.kind (target_kind Repair 3 entry part creep building p.targets) (omega arith))

  pub keeps_repaired : (part : RoomPart) → Kept part → (entry : Intent) → Kept (repaired entry part)
  keeps_repaired part k entry = keeps_parties players stage Repair repaired_by entry (repair_keeps entry) part k
