use Rattle.std.proofs.Common.{rules}
use Rattle.rule_check.specs.Views.{viewed}
use Rattle.rule_check.proofs.Kept.{past_ids}
use Rattle.rule_check.proofs.Ticks.{first_at_each_tick}
use Rattle.rule_check.proofs.first.first_broken.Goals as goal

pub returns-in-Some-clause-broken : goal.returns-in-Some-clause-broken
returns-in-Some-clause-broken c = first_at_each_tick c.args.rooms.now c.args.accounts.now _ c.in-Some.number (search rules) (rw c.in-Some.is at c.in_ok-number.ensures)

pub least_broken-requires-clause-once : goal.least_broken-requires-clause-once
least_broken-requires-clause-once c = past_ids _ (viewed c.args.rooms.now c.args.accounts.now 0) (search rules)
