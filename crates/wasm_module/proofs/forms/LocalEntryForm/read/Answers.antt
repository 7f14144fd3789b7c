use Rattle.std.proofs.Common.{ap}
use Rattle.std.proofs.lemmas.Result.{err_from_is_err_and}
use Rattle.wasm_values.proofs.Fronts.{then_begins, then_only, then_none_first, then_none_second}
use Rattle.wasm_values.specs.Spelling.{SpellsU32}
use Rattle.wasm_values.specs.Values.{SpellsValType}
use Rattle.wasm_module.proofs.Runs.{local_run_of}
use Rattle.wasm_module.proofs.forms.LocalEntryForm.read.Goals as goal

pub returns-in_err-count-clause-malformed : goal.returns-in_err-count-clause-malformed
returns-in_err-count-clause-malformed c = let p = err_from_is_err_and c.from_residual.result c.from_residual.ensures.1 in rw p.1 (λ _. λ e rest b. then_none_first SpellsU32 SpellsValType c.args.cursor.now.0 c.in_err-count.ensures.bad (e.count, e.value) rest b)

pub returns-in_err-value-clause-malformed : goal.returns-in_err-value-clause-malformed
returns-in_err-value-clause-malformed c = let p = err_from_is_err_and c.from_residual-in_err-value.result c.from_residual-in_err-value.ensures.1 in rw (p.1, p.2) (λ is. λ e rest b. then_none_second SpellsU32 SpellsValType c.args.cursor.now.0 c.leb_u32.new.self.0 c.in_ok-count.count c.in_ok-count.ensures.only (c.in_err-value.ensures.malformed is) (e.count, e.value) rest b)

pub returns-clause-found : goal.returns-clause-found
returns-clause-found c = then_begins SpellsU32 SpellsValType c.args.cursor.now.0 c.leb_u32.new.self.0 c.val_type.new.cursor.0 c.in_ok-count.count c.in_ok-value.value c.in_ok-count.ensures.found c.in_ok-value.ensures.found

pub returns-clause-only : goal.returns-clause-only
returns-clause-only c = λ e more b. let one = then_only SpellsU32 SpellsValType c.args.cursor.now.0 c.leb_u32.new.self.0 c.val_type.new.cursor.0 c.in_ok-count.count c.in_ok-value.value c.in_ok-count.ensures.only c.in_ok-value.ensures.only (e.count, e.value) more b in (ap local_run_of one.0, one.1)
