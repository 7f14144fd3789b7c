use Rattle.ruled_tick.proofs.Ticking.{AreEmpty}
use Rattle.ruled_tick.proofs.rooms.no_moves.Given as goal

abbrev pub invariant-loop : goal.invariant-loop
invariant-loop l = AreEmpty l.counter l.moves.items
