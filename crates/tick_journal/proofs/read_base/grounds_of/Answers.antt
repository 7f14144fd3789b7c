use Rattle.tick_journal.proofs.BaseContents.{grounds_none}
use Rattle.tick_journal.proofs.read_base.grounds_of.Goals as goal

pub returns-in_default-clause-malformed : goal.returns-in_default-clause-malformed
returns-in_default-clause-malformed c = λ _ grounds e. grounds_none grounds c.args.numbers.now c.each.number-index e c.each-test.true c.in_default.ensures.none
