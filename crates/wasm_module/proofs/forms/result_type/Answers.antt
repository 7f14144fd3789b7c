use Rattle.std.proofs.Common.{List, subst, sym}
use Rattle.wasm_values.specs.Values.{IsResult}
use Rattle.wasm_values.specs.declared.types.ValType.{ValType}
use Rattle.std.proofs.lemmas.Result.{err_from_is_err_and}
use Rattle.wasm_values.proofs.Results.{result_only, result_not, result_bad}
use Rattle.wasm_module.proofs.forms.result_type.Goals as goal

pub returns-in_err-results-clause-malformed : goal.returns-in_err-results-clause-malformed
returns-in_err-results-clause-malformed c = let p = err_from_is_err_and c.from_residual.result c.from_residual.ensures.1 in rw (p.1, p.2) (λ is. result_bad c.args.cursor.now.0 (c.in_err-results.ensures.malformed is))

pub returns-in-Some-clause-only : goal.returns-in-Some-clause-only
returns-in-Some-clause-only c = result_only c.args.cursor.now.0 c.value_types.new.cursor.0 c.in_ok-results.results _ c.in_ok-results.ensures.only (let P : List ValType → Type 0 = λ z. IsResult z c.in-Some.value in subst P c.as_slice.ensures c.in-Some.ensures.found)

pub returns-clause-malformed : goal.returns-clause-malformed
returns-clause-malformed c = λ _. result_not c.args.cursor.now.0 c.value_types.new.cursor.0 c.in_ok-results.results c.in_ok-results.ensures.only (λ value is. let P : List ValType → Type 0 = λ z. IsResult z value in c.in-None.ensures.none value (subst P (sym c.as_slice.ensures) is))
