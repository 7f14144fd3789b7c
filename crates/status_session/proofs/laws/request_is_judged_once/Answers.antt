use Rattle.status_session.proofs.Judged.{goes_on_or_ends, ends_once, cut_or_not}
use Rattle.status_session.proofs.laws.request_is_judged_once.Goals as goal

pub returns-clause-goes_on : goal.returns-clause-goes_on
returns-clause-goes_on c = goes_on_or_ends

pub returns-clause-ends : goal.returns-clause-ends
returns-clause-ends c = ends_once

pub returns-clause-cut : goal.returns-clause-cut
returns-clause-cut c = cut_or_not
