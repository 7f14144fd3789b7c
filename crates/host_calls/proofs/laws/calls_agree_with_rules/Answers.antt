use Rattle.host_calls.proofs.Agreeing.{calls_agree}
use Rattle.host_calls.proofs.laws.calls_agree_with_rules.Goals as goal

pub returns : goal.returns
returns c = calls_agree
