use Rattle.std.proofs.Common.{◌+◌}
use Rattle.rule_check.specs.Views.{viewed}
use Rattle.rule_check.specs.inner.Chosen.{IsKeptBelow}
use Rattle.rule_check.proofs.keeps.keep_rules.Given as goal

abbrev pub invariant-loop-rule : goal.invariant-loop-rule
invariant-loop-rule l = IsKeptBelow l.chosen (l.rule-index + 1) (viewed l.rooms l.accounts 0)
