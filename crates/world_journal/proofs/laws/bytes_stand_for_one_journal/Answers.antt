use Rattle.world_journal.proofs.Journals.{journal_once, journal_whole}
use Rattle.world_journal.proofs.laws.bytes_stand_for_one_journal.Goals as goal

pub returns-clause-one : goal.returns-clause-one
returns-clause-one c = journal_once

pub returns-clause-whole : goal.returns-clause-whole
returns-clause-whole c = journal_whole
