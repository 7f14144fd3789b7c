use Rattle.ruled_tick.specs.inner.Entered.{many_in, widened}
use Rattle.ruled_tick.proofs.Places.{AreChangedTo}
use Rattle.ruled_tick.proofs.act.widen_all.Given as goal

abbrev pub invariant-loop-index : goal.invariant-loop-index
invariant-loop-index l = AreChangedTo (λ index. widened (many_in index l.entries)) l.index l.fn.rooms l.rooms
