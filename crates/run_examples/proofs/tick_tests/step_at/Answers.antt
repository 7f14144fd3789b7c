use Rattle.std.proofs.Common.{◌≡◌, ◌≤◌, List, Option, Some, None, option_map, slice_get, refl, sym, ap, subst, ◌∙◌}
use Rattle.std.proofs.lemmas.Option.{get_or_from_slice_get}
use Rattle.object_store.specs.declared.world.Room.{Room}
use Rattle.room_table.specs.Tables.{Table}
use Rattle.room_terrain.specs.declared.terrain.Ground.{Ground}
use Rattle.room_rules.specs.Within.{between}
use Rattle.room_step.specs.Stepping.{KeepsItsRules}
use Rattle.room_step.proofs.Whole.{keeps_its_rules}
use Rattle.world_rules.specs.Sound.{serials_bound}
use Rattle.run_examples.proofs.tick_tests.step_at.Goals as goal

-- the room of a place, by its terrain and its table
room_as : (found : Option Room) (grounds : List Ground) (table : Table) → option_map (λ (r : Room). r.terrain) found ≡ Some grounds → option_map (λ (r : Room). r.table) found ≡ Some table
    → (room : Room) × (found ≡ Some room) × (room.terrain ≡ grounds) × (room.table ≡ table)
room_as None grounds table one other = absurd cc
room_as (Some room) grounds table one other = (
  room,
  refl,
  (let same : Some room.terrain ≡ Some grounds = one in cc),
  (let same : Some room.table ≡ Some table = other in cc),
)

pub step_room-requires-clause-index : goal.step_room-requires-clause-index
step_room-requires-clause-index c =
    let found = room_as (slice_get c.args.world.now.rooms c.args.index) c.terrain.result.now c.room.result.now c.terrain.ensures c.room.ensures in
    ap (λ (t : Table). t.index) (sym found.3) ∙ c.requires.sound.places c.args.index found.0 found.1

pub step_room-requires-clause-rules : goal.step_room-requires-clause-rules
step_room-requires-clause-rules c =
    let found = room_as (slice_get c.args.world.now.rooms c.args.index) c.terrain.result.now c.room.result.now c.terrain.ensures c.room.ensures in
    subst (λ (t : Table). KeepsItsRules between c.terrain.result.now t) found.3
    (subst (λ (grounds : List Ground). KeepsItsRules between grounds found.0.table) found.2 (keeps_its_rules c.args.world.now c.requires.sound c.args.index found.0 found.1))

pub step_room-requires-clause-serials : goal.step_room-requires-clause-serials
step_room-requires-clause-serials c =
    let rooms = c.args.world.now.rooms in
    let found = room_as (slice_get rooms c.args.index) c.terrain.result.now c.room.result.now c.terrain.ensures c.room.ensures in
    subst (λ (t : Table). t.next ≤ serials_bound) found.3
    (subst (λ (r : Room). r.table.next ≤ serials_bound) (get_or_from_slice_get rooms c.args.index found.0 found.0 found.1) (c.requires.serials c.args.index found.0 c.requires.index))
