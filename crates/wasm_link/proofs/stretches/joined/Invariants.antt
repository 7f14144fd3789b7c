use Rattle.std.proofs.Common.{◌-◌, length}
use Rattle.wasm_link.proofs.Joins.{AreJoined}
use Rattle.wasm_link.proofs.stretches.joined.Given as goal

abbrev pub invariant-loop-at : goal.invariant-loop-at
invariant-loop-at l = AreJoined l.intervals l.at l.stretches.items l.last

abbrev pub decreases-loop-at : goal.decreases-loop-at
decreases-loop-at l = length l.intervals - l.at
