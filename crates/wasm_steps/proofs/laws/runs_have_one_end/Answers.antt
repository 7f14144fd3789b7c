use Rattle.wasm_steps.proofs.Ends.{one_end}
use Rattle.wasm_steps.proofs.laws.runs_have_one_end.Goals as goal

pub returns : goal.returns
returns g c = one_end
