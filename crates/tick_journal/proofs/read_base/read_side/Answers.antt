use Rattle.std.proofs.Common.{rules}
use Rattle.tick_journal.proofs.read_base.read_side.Goals as goal

pub returns-clause-found : goal.returns-clause-found
returns-clause-found c = (search rules, search rules)
