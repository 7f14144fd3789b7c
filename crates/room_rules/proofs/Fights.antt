-- What creeps tear down, and a creep that ends itself, keep the rules of a room.
use Rattle.std.proofs.Common.{◌≡◌, ℕ, ◌-◌, min, if◌then◌else◌, Bool, true, false, Option, Some, None, refl, arith}
use Rattle.std.specs.FinMap.{get}
use Rattle.game_tables.specs.Kinds.{is_creep}
use Rattle.game_tables.specs.declared.action.Action.TheVariants.{Dismantle, Suicide}
use Rattle.game_tables.specs.declared.kind.Kind.{Kind}
use Rattle.game_tables.specs.declared.kind.Kind.TheVariants.{Creep}
use Rattle.intent_book.specs.declared.intent.Intent.{Intent}
use Rattle.room_table.specs.Stores.{free_room}
use Rattle.room_table.specs.declared.object.Object.{Object}
use Rattle.world_rules.specs.RoomParts.{RoomPart, controller_of}
use Rattle.world_rules.specs.Changes.{with_object}
use Rattle.world_rules.specs.Checks.{acting, may_take_effect}
use Rattle.world_rules.specs.Fights.{dismantled, dismantled_by, ended, salvage, without_hits}
use Rattle.world_rules.specs.Loads.{with_more}
use Rattle.world_rules.specs.Steps.{by_object}
use Rattle.world_rules.proofs.Checked.{creep_acts}
use Rattle.room_rules.specs.Within.{Stage, within, IsInRangeIn}
use Rattle.room_rules.specs.RoomRules.{KeepsRoomRules}
use Rattle.room_rules.proofs.Keeps.{keeps_changed}
use Rattle.room_rules.proofs.Falls.{creep_tile, keeps_fallen, open_still}
use Rattle.room_rules.proofs.Changed.{PartiesKeep, keeps_parties}
use Rattle.room_rules.proofs.Amounts.{creep_takes, more_range}
use Rattle.room_rules.proofs.Loads.{same_more}

-- ---- dismantling

module _ (players : ℕ → Bool) (stage : Stage) where
  dismantle_keeps : (entry : Intent) → PartiesKeep players stage Dismantle dismantled_by entry
  dismantle_keeps entry part k creep building p =
      let amount : ℕ = salvage creep building in
      let taken : ℕ = min amount (free_room (controller_of part) creep) in
      let more : Object = with_more taken creep in
      let more_keeps : KeepsRoomRules players stage (with_object more part) =
      keeps_changed players stage part k entry.actor creep more p.there (same_more taken creep)
      (more_range stage creep (controller_of part) taken creep.kind (creep_takes creep.kind p.kind) (omega arith)) in
      keeps_fallen players stage (with_object more part) more_keeps creep.x creep.y (amount - taken)
      (open_still players stage part more (get part.objects more.id) creep.x creep.y refl (creep_tile players stage part k entry.actor creep p.there p.kind))

  pub keeps_dismantled : (part : RoomPart) → KeepsRoomRules players stage part → (entry : Intent) → KeepsRoomRules players stage (dismantled entry part)
  keeps_dismantled part k entry = keeps_parties players stage Dismantle dismantled_by entry (dismantle_keeps entry) part k

-- ---- the end of a creep

hitless_range : (k : Kind) (o : Object) → is_creep k ≡ true → IsInRangeIn k within o → IsInRangeIn k within (record o { hits = 0 })
hitless_range Creep o is s = record { owner = s.owner; hits = omega arith; energy = s.energy; timer = s.timer; extra = s.extra; progress = s.progress; other = s.other; other_ticks = s.other_ticks; some_parts = s.some_parts; parts = s.parts }
hitless_range k o is s = absurd (cc)

-- The creep of an entry stands in the room.
pub acting_stands : (part : RoomPart) (entry : Intent) (b : Bool) (creep : Object) → (if b then get part.objects entry.actor else None) ≡ Some creep → (b ≡ true) × (get part.objects entry.actor ≡ Some creep)
acting_stands part entry true creep is = (refl, is)
acting_stands part entry false creep is = absurd (cc)

module _ (players : ℕ → Bool) where
  ended_as : (part : RoomPart) → KeepsRoomRules players within part → (entry : Intent) (found : Option Object) → acting Suicide entry part ≡ found → KeepsRoomRules players within (by_object without_hits part found)
  ended_as part k entry None is = k
  ended_as part k entry (Some creep) is =
      let stands = acting_stands part entry (may_take_effect Suicide entry part) creep is in
      keeps_changed players within part k entry.actor creep (record creep { hits = 0 }) stands.1
      (record { id = refl; kind = refl; x = refl; y = refl; owner = refl; other = refl })
      (hitless_range creep.kind creep (creep_acts Suicide entry part creep stands.1 stands.0))

  -- A creep ends itself only within a tick.
  pub keeps_ended : (part : RoomPart) → KeepsRoomRules players within part → (entry : Intent) → KeepsRoomRules players within (ended entry part)
  keeps_ended part k entry = ended_as part k entry (acting Suicide entry part) refl
