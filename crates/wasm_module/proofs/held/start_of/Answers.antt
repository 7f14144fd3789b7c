use Rattle.std.proofs.lemmas.Result.{err_from_is_err_and}
use Rattle.wasm_module.proofs.held.start_of.Goals as goal

pub returns-in_err-index-in-Some-clause-malformed : goal.returns-in_err-index-in-Some-clause-malformed
returns-in_err-index-in-Some-clause-malformed c = let p = err_from_is_err_and c.from_residual.result c.from_residual.ensures.1 in rw (p.1, p.2) (rw c.in-Some.ensures c.in_err-index-in-Some.ensures.malformed)
