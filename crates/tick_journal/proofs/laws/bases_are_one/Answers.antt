use Rattle.tick_journal.proofs.BaseContents.{base_one, as_read_spelled}
use Rattle.tick_journal.proofs.laws.bases_are_one.Goals as goal

pub returns-clause-one : goal.returns-clause-one
returns-clause-one c = base_one

pub returns-clause-as_read : goal.returns-clause-as_read
returns-clause-as_read c = as_read_spelled
