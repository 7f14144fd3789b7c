use Rattle.host_calls.proofs.Replying.{reply_unchanged}
use Rattle.host_calls.proofs.laws.desks_answer_once.Goals as goal

pub returns-clause-refused : goal.returns-clause-refused
returns-clause-refused c = reply_unchanged
