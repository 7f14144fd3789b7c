use Rattle.std.proofs.Common.{take}
use Rattle.ruled_tick.specs.inner.Entered.{AreCounts}
use Rattle.ruled_tick.proofs.act.counts_of.Given as goal

abbrev pub invariant-loop-entry : goal.invariant-loop-entry
invariant-loop-entry l = AreCounts l.rooms (take l.entry-index l.entries) l.counts.items
