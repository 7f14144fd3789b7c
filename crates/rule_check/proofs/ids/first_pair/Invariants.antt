use Rattle.rule_check.proofs.Twice.{NoPair}
use Rattle.rule_check.proofs.ids.first_pair.Given as goal

abbrev pub invariant-loop-next : goal.invariant-loop-next
invariant-loop-next l = NoPair l.numbers l.next
