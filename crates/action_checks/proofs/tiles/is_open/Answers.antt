use Rattle.std.proofs.Common.{◌≡◌, ◌&&◌, Bool, true, not, List, slice_get, ap, sym, ◌∙◌}
use Rattle.std.specs.FinMap.{values}
use Rattle.world_rules.specs.RoomParts.{table_part}
use Rattle.room_terrain.specs.Tiles.{tile}
use Rattle.room_table.specs.declared.object.Object.{Object}
use Rattle.room_table.specs.Tables.{is_obstructed}
use Rattle.world_rules.specs.Moves.{is_open_ground}
use Rattle.world_rules.proofs.TableParts.{part_values}
use Rattle.action_checks.proofs.tiles.is_open.Goals as goal

pub returns-then-is_open_ground : goal.returns-then-is_open_ground
returns-then-is_open_ground c =
    let x = c.args.x in
    let y = c.args.y in
    let player = c.args.player in
    let stand : is_open_ground (slice_get c.args.terrain.now (tile x y)) ≡ true = ap is_open_ground c.at.ensures ∙ sym c.is_open_ground.ensures ∙ c.if-is_open_ground.true in
    ap not c.obstructed.ensures
    ∙ ap (λ (objects : List Object). not (is_obstructed x y player objects)) (sym (part_values c.args.terrain.now c.args.room.now c.stands_in_order.ensures.rising))
    ∙ ap (λ (b : Bool). b && not (is_obstructed x y player (values (table_part c.args.terrain.now c.args.room.now).objects))) (sym stand)
