use Rattle.std.proofs.Common.{◌≡◌, ◌++◌}
use Rattle.rule_check.proofs.keeps.list_of.Given as goal

abbrev pub invariant-loop-object : goal.invariant-loop-object
invariant-loop-object l = l.objects.items ++ l.object-iterator ≡ l.fn.table.objects
