use Rattle.player_run.proofs.Runs.{emitted_by_bytes, emitted_by_link}
use Rattle.player_run.proofs.laws.emitted_once.Goals as goal

pub returns-clause-linked : goal.returns-clause-linked
returns-clause-linked c = emitted_by_link

pub returns-clause-bytes : goal.returns-clause-bytes
returns-clause-bytes c = emitted_by_bytes
