use Rattle.std.specs.Prelude.{◌-◌, ◌^◌}
use Rattle.spawn_rules.specs.inner.Hatching.{next_of, IsHatchedTo}
use Rattle.spawn_rules.proofs.hatching.hatch.Given as goal

abbrev pub invariant-loop-next : goal.invariant-loop-next
invariant-loop-next l = IsHatchedTo l.ground l.fn.room (next_of l.next) l.room

abbrev pub decreases-loop-next : goal.decreases-loop-next
decreases-loop-next l = 2 ^ 64 - next_of l.next
