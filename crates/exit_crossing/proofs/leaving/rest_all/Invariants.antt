use Rattle.std.proofs.Common.{◌≡◌}
use Rattle.exit_crossing.specs.inner.Resting.{rested_to}
use Rattle.exit_crossing.proofs.leaving.rest_all.Given as goal

abbrev pub invariant-loop-place : goal.invariant-loop-place
invariant-loop-place l = l.room ≡ record l.fn.room { objects = rested_to l.place l.fn.room.objects }
