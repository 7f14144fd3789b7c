use Rattle.std.proofs.Common.{take}
use Rattle.recorded_tick.specs.Recording.{AreChangedRooms}
use Rattle.recorded_tick.proofs.changes.changed_rooms.Given as goal

abbrev pub invariant-loop-place : goal.invariant-loop-place
invariant-loop-place l = AreChangedRooms (take l.place l.before) (take l.place l.after) l.tables.items
