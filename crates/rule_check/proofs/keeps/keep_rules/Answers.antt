use Rattle.std.proofs.Common.{rules}
use Rattle.rule_check.specs.Views.{viewed}
use Rattle.rule_check.proofs.Kept.{chosen_past_ids}
use Rattle.rule_check.proofs.keeps.keep_rules.Goals as goal

pub least_broken-requires-clause-once : goal.least_broken-requires-clause-once
least_broken-requires-clause-once c = chosen_past_ids c.args.chosen _ (viewed c.args.rooms.now c.args.accounts.now 0) (search rules)
