use Rattle.rule_check.proofs.Breaks.{least_counts_kept, least_counts_broken}
use Rattle.rule_check.proofs.first.broken_counts.Goals as goal

pub returns-then-are_within_counts : goal.returns-then-are_within_counts
returns-then-are_within_counts c = least_counts_kept c.args.rooms.now c.args.accounts.now c.if-are_within_counts.ensures

pub returns-else-are_within_counts : goal.returns-else-are_within_counts
returns-else-are_within_counts c = least_counts_broken c.args.rooms.now c.args.accounts.now c.if-are_within_counts.ensures
