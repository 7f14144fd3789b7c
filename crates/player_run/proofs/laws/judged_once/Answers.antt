use Rattle.player_run.proofs.Judged.{accepted_once, refused_or_accepted}
use Rattle.player_run.proofs.Refusing.{refused_once}
use Rattle.player_run.proofs.laws.judged_once.Goals as goal

pub returns-clause-accepted : goal.returns-clause-accepted
returns-clause-accepted c = accepted_once

pub returns-clause-one_reason : goal.returns-clause-one_reason
returns-clause-one_reason c = refused_once

pub returns-clause-refused : goal.returns-clause-refused
returns-clause-refused c = refused_or_accepted
