use Rattle.std.proofs.Common.{take}
use Rattle.ruled_tick.specs.inner.Ticked.{AreMoves}
use Rattle.ruled_tick.proofs.rooms.moves_by_room.Given as goal

abbrev pub invariant-loop-entry : goal.invariant-loop-entry
invariant-loop-entry l = AreMoves l.rooms (take l.entry-index l.entries) l.moves.items
