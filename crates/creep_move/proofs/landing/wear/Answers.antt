use Rattle.std.proofs.Common.{◌==◌, sym, ap, subst, ◌∙◌}
use Rattle.std.specs.List.{AllByRecursion}
use Rattle.room_table.specs.declared.object.Object.{Object}
use Rattle.room_table.specs.Tables.{Table, IsOnTile, find_object}
use Rattle.world_rules.proofs.TableParts.{all_found, has_the_id, tiles_replaced}
use Rattle.creep_move.proofs.landing.wear.Goals as goal

pub set-requires-clause-tile : goal.set-requires-clause-tile
set-requires-clause-tile c = let on = all_found IsOnTile (λ o. o.id == c.args.id) c.args.room.now.objects c.in-Some.road.now c.requires.tiles (sym c.in-Some.ensures) in record { column = on.column; row = on.row }

pub set-requires-clause-there : goal.set-requires-clause-there
set-requires-clause-there c =
    let found = sym c.in-Some.ensures in
    (c.in-Some.road.now, ap (λ n. find_object n c.args.room.now.objects) (has_the_id c.args.id c.args.room.now.objects c.in-Some.road.now found) ∙ found)

pub returns-clause-tiles : goal.returns-clause-tiles
returns-clause-tiles c =
    let on = all_found IsOnTile (λ o. o.id == c.args.id) c.args.room.now.objects c.in-Some.road.now c.requires.tiles (sym c.in-Some.ensures) in
    let worn : Object = record c.in-Some.road.now { timer = c.max.result } in
    subst (λ (t : Table). AllByRecursion IsOnTile t.objects) (sym c.set.ensures) (tiles_replaced worn c.args.room.now.objects (record { column = on.column; row = on.row }) c.requires.tiles)
