use Rattle.std.proofs.Common.{drop}
use Rattle.exit_crossing.proofs.Underway.{Underway}
use Rattle.exit_crossing.proofs.crossing.cross.Given as goal

abbrev pub invariant-loop-crosser : goal.invariant-loop-crosser
invariant-loop-crosser l = Underway l.fn.world l.world l.list (drop l.crosser-index l.list)
