use Rattle.std.proofs.Common.{take, length, ◌-◌}
use Rattle.world_rules.specs.RoomParts.{table_part}
use Rattle.room_step.specs.inner.Course.{HasCome, HasGained, intents_in, points_entered}
use Rattle.room_step.proofs.step.enter_all.Given as goal

abbrev pub invariant-loop-entry : goal.invariant-loop-entry
invariant-loop-entry l = record {
  come : HasCome l.ground l.fn.table (intents_in (take l.entry-index l.entries)) (length l.entries - l.entry-index) l.table;
  gained : HasGained (points_entered (table_part l.ground l.fn.table) (intents_in (take l.entry-index l.entries))) l.gained.player l.gained.points;
}
