use Rattle.std.proofs.Common.{◌∙◌, List, set, get_or, ap, sym, subst, arith}
use Rattle.std.specs.List.{AllByRecursion}
use Rattle.object_store.specs.declared.world.Room.{Room}
use Rattle.room_table.specs.Tables.{Table, IsOnTile}
use Rattle.exit_crossing.specs.Crossing.{rested_room}
use Rattle.exit_crossing.proofs.Rested.{rooms_to, none_yet, one_room_more, all_rooms, room_tiles}
use Rattle.exit_crossing.proofs.leaving.rest_rooms.Goals as goal

pub loop-place-init : goal.loop-place-init
loop-place-init c = sym (none_yet c.args.rooms.now)

pub rest_all-requires : goal.rest_all-requires
rest_all-requires c =
    let place = c.loop-place.place in
    let default = c.index-rooms-place.result in
    subst (λ (rooms : List Room). AllByRecursion IsOnTile (get_or rooms place default).table.objects) (sym c.loop-place.invariant) (room_tiles c.args.rooms.now place default c.loop-place-test.true c.requires)

pub loop-place-preserved : goal.loop-place-preserved
loop-place-preserved c =
    let place = c.loop-place.place in
    let default = c.index-rooms-place.result in
    ap (λ (table : Table). set c.loop-place.rooms place (record (get_or c.loop-place.rooms place default) { table = table })) c.rest_all.ensures
    ∙ ap (λ (rooms : List Room). set rooms place (rested_room (get_or rooms place default))) c.loop-place.invariant
    ∙ one_room_more c.args.rooms.now place default c.loop-place-test.true
    ∙ ap (λ n. rooms_to n c.args.rooms.now) (omega arith)

pub returns : goal.returns
returns c = c.loop-place.invariant ∙ all_rooms c.args.rooms.now c.loop-place.place c.loop-place-test.false
