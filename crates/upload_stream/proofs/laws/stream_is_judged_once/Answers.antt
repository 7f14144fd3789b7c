use Rattle.upload_stream.proofs.Judged.{uploads_one, not_both, first_one}
use Rattle.upload_stream.proofs.laws.stream_is_judged_once.Goals as goal

pub returns-clause-one : goal.returns-clause-one
returns-clause-one c = uploads_one

pub returns-clause-refused : goal.returns-clause-refused
returns-clause-refused c = not_both

pub returns-clause-first : goal.returns-clause-first
returns-clause-first c = first_one
