use Rattle.world_form.proofs.ReadBack.{written-Lists}
use Rattle.world_form.proofs.Short.{written-IsShort}
use Rattle.world_form.proofs.laws.a_written_world_is_read_back.Goals as goal

pub returns-clause-short : goal.returns-clause-short
returns-clause-short c = written-IsShort

pub returns-clause-listed : goal.returns-clause-listed
returns-clause-listed c = written-Lists
