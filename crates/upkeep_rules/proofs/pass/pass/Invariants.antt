use Rattle.std.proofs.Common.{length, ◌-◌}
use Rattle.upkeep_rules.specs.inner.Passed.{IsPassedTo}
use Rattle.upkeep_rules.proofs.pass.pass.Given as goal

abbrev pub invariant-loop-place : goal.invariant-loop-place
invariant-loop-place l = IsPassedTo l.fn.step l.fn.room l.place l.room

abbrev pub decreases-loop-place : goal.decreases-loop-place
decreases-loop-place l = length l.room.objects - l.place
