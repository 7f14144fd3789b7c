use Rattle.tick_journal.proofs.AccountLists.{behind_last}
use Rattle.tick_journal.proofs.accounts.is_behind.Goals as goal

pub returns-in-Some : goal.returns-in-Some
returns-in-Some c = behind_last c.args.accounts.now c.in-Some.last.now c.args.player c.requires c.in-Some.ensures.value
