use Rattle.std.specs.Prelude.{length, ◌-◌}
use Rattle.upkeep_rules.specs.inner.Filled.{IsFilledTo}
use Rattle.upkeep_rules.proofs.filling.fill_spawns.Given as goal

abbrev pub invariant-loop-place : goal.invariant-loop-place
invariant-loop-place l = IsFilledTo l.fn.room l.place l.known l.room

abbrev pub decreases-loop-place : goal.decreases-loop-place
decreases-loop-place l = length l.room.objects - l.place
