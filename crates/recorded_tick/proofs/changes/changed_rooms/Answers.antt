use Rattle.std.proofs.Common.{arith}
use Rattle.recorded_tick.proofs.Added.{rooms_more}
use Rattle.recorded_tick.proofs.changes.changed_rooms.Goals as goal

pub loop-place-preserved : goal.loop-place-preserved
loop-place-preserved c =
    rooms_more c.args.before.now c.args.after.now c.loop-place.place c.index-before-place.result c.index-after-place.result c.loop-place.tables.items c.add_table.new.tables.items
    c.requires (omega arith) c.index-before-place.is c.index-after-place.is c.loop-place.invariant c.in_ok-add_table.ensures
