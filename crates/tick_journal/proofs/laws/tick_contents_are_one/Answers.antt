use Rattle.tick_journal.proofs.Ticks.{read_as_written, spelled_one}
use Rattle.tick_journal.proofs.laws.tick_contents_are_one.Goals as goal

pub returns-clause-one : goal.returns-clause-one
returns-clause-one c = spelled_one

pub returns-clause-written : goal.returns-clause-written
returns-clause-written c = read_as_written
