use Rattle.rule_check.proofs.Minima.{NoneBelow}
use Rattle.rule_check.proofs.objects.first_object.Given as goal

abbrev pub invariant-loop-object : goal.invariant-loop-object
invariant-loop-object g l = NoneBelow (λ k o. g.R.ObjectRule.broken l.rule l.room o) l.room.objects.now l.object-index
