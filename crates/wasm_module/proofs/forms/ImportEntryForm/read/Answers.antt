use Rattle.std.proofs.Common.{ap}
use Rattle.std.proofs.lemmas.Result.{err_from_is_err_and}
use Rattle.wasm_values.proofs.Fronts.{then_begins, then_only, then_none_first, then_none_second}
use Rattle.wasm_values.specs.Spelling.{Then}
use Rattle.wasm_values.specs.Values.{SpellsName, SpellsImportDesc}
use Rattle.wasm_values.proofs.Spelled.{import_of}
use Rattle.wasm_module.proofs.forms.ImportEntryForm.read.Goals as goal

pub returns-in_err-module-clause-malformed : goal.returns-in_err-module-clause-malformed
returns-in_err-module-clause-malformed c = let p = err_from_is_err_and c.from_residual.result c.from_residual.ensures.1 in rw (p.1, p.2) (λ is. λ e rest b. then_none_first SpellsName (Then SpellsName SpellsImportDesc) c.args.cursor.now.0 (c.in_err-module.ensures.malformed is) (e.module, (e.name, e.desc)) rest b)

pub returns-in_err-name-clause-malformed : goal.returns-in_err-name-clause-malformed
returns-in_err-name-clause-malformed c = let p = err_from_is_err_and c.from_residual-in_err-name.result c.from_residual-in_err-name.ensures.1 in rw (p.1, p.2) (λ is. λ e rest b. then_none_second SpellsName (Then SpellsName SpellsImportDesc) c.args.cursor.now.0 c.name.new.cursor.0 c.in_ok-module.module c.in_ok-module.ensures.only (then_none_first SpellsName SpellsImportDesc c.name.new.cursor.0 (c.in_err-name.ensures.malformed is)) (e.module, (e.name, e.desc)) rest b)

pub returns-in_err-desc-clause-malformed : goal.returns-in_err-desc-clause-malformed
returns-in_err-desc-clause-malformed c = let p = err_from_is_err_and c.from_residual-in_err-desc.result c.from_residual-in_err-desc.ensures.1 in rw (p.1, p.2) (λ is. λ e rest b. then_none_second SpellsName (Then SpellsName SpellsImportDesc) c.args.cursor.now.0 c.name.new.cursor.0 c.in_ok-module.module c.in_ok-module.ensures.only (then_none_second SpellsName SpellsImportDesc c.name.new.cursor.0 c.name-2.new.cursor.0 c.in_ok-name.name c.in_ok-name.ensures.only (c.in_err-desc.ensures.malformed is)) (e.module, (e.name, e.desc)) rest b)

pub returns-clause-found : goal.returns-clause-found
returns-clause-found c = then_begins SpellsName (Then SpellsName SpellsImportDesc) c.args.cursor.now.0 c.name.new.cursor.0 c.import_desc.new.cursor.0 c.in_ok-module.module (c.in_ok-name.name, c.in_ok-desc.desc) c.in_ok-module.ensures.found (then_begins SpellsName SpellsImportDesc c.name.new.cursor.0 c.name-2.new.cursor.0 c.import_desc.new.cursor.0 c.in_ok-name.name c.in_ok-desc.desc c.in_ok-name.ensures.found c.in_ok-desc.ensures.found)

pub returns-clause-only : goal.returns-clause-only
returns-clause-only c = λ e more b. let one = then_only SpellsName (Then SpellsName SpellsImportDesc) c.args.cursor.now.0 c.name.new.cursor.0 c.import_desc.new.cursor.0 c.in_ok-module.module (c.in_ok-name.name, c.in_ok-desc.desc) c.in_ok-module.ensures.only (then_only SpellsName SpellsImportDesc c.name.new.cursor.0 c.name-2.new.cursor.0 c.import_desc.new.cursor.0 c.in_ok-name.name c.in_ok-desc.desc c.in_ok-name.ensures.only c.in_ok-desc.ensures.only) (e.module, (e.name, e.desc)) more b in (ap import_of one.0, one.1)
