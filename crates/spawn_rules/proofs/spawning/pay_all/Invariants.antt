use Rattle.std.specs.Prelude.{length, ◌-◌}
use Rattle.spawn_rules.specs.inner.Paying.{IsPaidTo}
use Rattle.spawn_rules.proofs.spawning.pay_all.Given as goal

abbrev pub invariant-loop-place : goal.invariant-loop-place
invariant-loop-place l = IsPaidTo l.kind l.owner l.fn.cost l.fn.room l.place l.left l.room

abbrev pub decreases-loop-place : goal.decreases-loop-place
decreases-loop-place l = length l.room.objects - l.place
