use Rattle.rule_check.specs.inner.Checks.{IsLeast, AnyObject}
use Rattle.rule_check.proofs.Minima.{AnyBelow}
use Rattle.rule_check.proofs.objects.least_object.Given as goal

abbrev pub invariant-loop-room : goal.invariant-loop-room
invariant-loop-room g l = IsLeast (AnyBelow (λ room. AnyObject (g.R.ObjectRule.broken l.rule room) room.objects.now) l.rooms l.room-index) l.least
