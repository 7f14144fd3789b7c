use Rattle.std.proofs.lemmas.Result.{err_from_is_err_and}
use Rattle.wasm_values.specs.Spelling.{SpellsMark, Then, SpellsList}
use Rattle.wasm_values.specs.Values.{SpellsValType, SpellsResult}
use Rattle.wasm_values.proofs.Fronts.{then_begins, then_only, then_none_first, then_none_second}
use Rattle.wasm_values.proofs.Results.{parts_only, parts_none}
use Rattle.wasm_module.proofs.forms.FunctionTypeForm.read.Goals as goal

pub returns-in_err-mark-clause-malformed : goal.returns-in_err-mark-clause-malformed
returns-in_err-mark-clause-malformed c = let p = err_from_is_err_and c.from_residual.result c.from_residual.ensures.1 in rw (p.1, p.2) (λ is. parts_none c.args.cursor.now.0 (then_none_first (SpellsMark 0x60) (Then (SpellsList SpellsValType) SpellsResult) c.args.cursor.now.0 (c.in_err-mark.ensures.malformed is)))

pub returns-in_err-params-clause-malformed : goal.returns-in_err-params-clause-malformed
returns-in_err-params-clause-malformed c = let p = err_from_is_err_and c.from_residual-in_err-params.result c.from_residual-in_err-params.ensures.1 in rw (p.1, p.2) (λ is. parts_none c.args.cursor.now.0 (then_none_second (SpellsMark 0x60) (Then (SpellsList SpellsValType) SpellsResult) c.args.cursor.now.0 c.mark.new.cursor.0 tt c.in_ok-mark.ensures.only (then_none_first (SpellsList SpellsValType) SpellsResult c.mark.new.cursor.0 (c.in_err-params.ensures.malformed is))))

pub returns-in_err-result-clause-malformed : goal.returns-in_err-result-clause-malformed
returns-in_err-result-clause-malformed c = let p = err_from_is_err_and c.from_residual-in_err-result.result c.from_residual-in_err-result.ensures.1 in rw (p.1, p.2) (λ is. parts_none c.args.cursor.now.0 (then_none_second (SpellsMark 0x60) (Then (SpellsList SpellsValType) SpellsResult) c.args.cursor.now.0 c.mark.new.cursor.0 tt c.in_ok-mark.ensures.only (then_none_second (SpellsList SpellsValType) SpellsResult c.mark.new.cursor.0 c.value_types.new.cursor.0 c.in_ok-params.params c.in_ok-params.ensures.only (c.in_err-result.ensures.malformed is))))

pub returns-clause-found : goal.returns-clause-found
returns-clause-found c = then_begins (SpellsMark 0x60) (Then (SpellsList SpellsValType) SpellsResult) c.args.cursor.now.0 c.mark.new.cursor.0 c.result_type.new.cursor.0 tt (c.in_ok-params.params, c.in_ok-result.result) c.in_ok-mark.ensures.found (then_begins (SpellsList SpellsValType) SpellsResult c.mark.new.cursor.0 c.value_types.new.cursor.0 c.result_type.new.cursor.0 c.in_ok-params.params c.in_ok-result.result c.in_ok-params.ensures.found c.in_ok-result.ensures.found)

pub returns-clause-only : goal.returns-clause-only
returns-clause-only c = parts_only c.args.cursor.now.0 c.result_type.new.cursor.0 _ (then_only (SpellsMark 0x60) (Then (SpellsList SpellsValType) SpellsResult) c.args.cursor.now.0 c.mark.new.cursor.0 c.result_type.new.cursor.0 tt (c.in_ok-params.params, c.in_ok-result.result) c.in_ok-mark.ensures.only (then_only (SpellsList SpellsValType) SpellsResult c.mark.new.cursor.0 c.value_types.new.cursor.0 c.result_type.new.cursor.0 c.in_ok-params.params c.in_ok-result.result c.in_ok-params.ensures.only c.in_ok-result.ensures.only))
