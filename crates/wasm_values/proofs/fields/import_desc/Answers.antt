use Rattle.std.proofs.lemmas.Result.{err_from_is_err_and}
use Rattle.wasm_values.proofs.Tags.{tag_found, tag_only, tag_none}
use Rattle.wasm_values.proofs.Spelled.{import_func, import_table, import_memory, import_global}
use Rattle.wasm_values.proofs.fields.import_desc.Goals as goal

pub returns-in_err-index-in-0-clause-malformed : goal.returns-in_err-index-in-0-clause-malformed
returns-in_err-index-in-0-clause-malformed c = let p = err_from_is_err_and c.from_residual-in_err-index-in-0.result c.from_residual-in_err-index-in-0.ensures.1 in rw p.1 (λ _. tag_none import_func c.in_ok-tag.ensures.found c.in-0.is c.in_err-index-in-0.ensures.bad)

pub returns-in_ok-index-in-0-clause-found : goal.returns-in_ok-index-in-0-clause-found
returns-in_ok-index-in-0-clause-found c = tag_found import_func c.in_ok-tag.ensures.found c.in-0.is c.leb_u32.new.self.0 c.in_ok-index-in-0.index c.in_ok-index-in-0.ensures.found

pub returns-in_ok-index-in-0-clause-only : goal.returns-in_ok-index-in-0-clause-only
returns-in_ok-index-in-0-clause-only c = tag_only import_func c.in_ok-tag.ensures.found c.in-0.is c.leb_u32.new.self.0 c.in_ok-index-in-0.index c.in_ok-index-in-0.ensures.only

pub returns-in_err-limits-in-1-clause-malformed : goal.returns-in_err-limits-in-1-clause-malformed
returns-in_err-limits-in-1-clause-malformed c = let p = err_from_is_err_and c.from_residual-in_err-limits-in-1.result c.from_residual-in_err-limits-in-1.ensures.1 in rw (p.1, p.2) (λ is. tag_none import_table c.in_ok-tag.ensures.found c.in-1.is (c.in_err-limits-in-1.ensures.malformed is))

pub returns-in_ok-limits-in-1-clause-found : goal.returns-in_ok-limits-in-1-clause-found
returns-in_ok-limits-in-1-clause-found c = tag_found import_table c.in_ok-tag.ensures.found c.in-1.is c.table_type.new.cursor.0 c.in_ok-limits-in-1.limits c.in_ok-limits-in-1.ensures.found

pub returns-in_ok-limits-in-1-clause-only : goal.returns-in_ok-limits-in-1-clause-only
returns-in_ok-limits-in-1-clause-only c = tag_only import_table c.in_ok-tag.ensures.found c.in-1.is c.table_type.new.cursor.0 c.in_ok-limits-in-1.limits c.in_ok-limits-in-1.ensures.only

pub returns-in_err-limits-in-2-clause-malformed : goal.returns-in_err-limits-in-2-clause-malformed
returns-in_err-limits-in-2-clause-malformed c = let p = err_from_is_err_and c.from_residual-in_err-limits-in-2.result c.from_residual-in_err-limits-in-2.ensures.1 in rw (p.1, p.2) (λ is. tag_none import_memory c.in_ok-tag.ensures.found c.in-2.is (c.in_err-limits-in-2.ensures.malformed is))

pub returns-in_ok-limits-in-2-clause-found : goal.returns-in_ok-limits-in-2-clause-found
returns-in_ok-limits-in-2-clause-found c = tag_found import_memory c.in_ok-tag.ensures.found c.in-2.is c.bounds.new.cursor.0 c.in_ok-limits-in-2.limits c.in_ok-limits-in-2.ensures.found

pub returns-in_ok-limits-in-2-clause-only : goal.returns-in_ok-limits-in-2-clause-only
returns-in_ok-limits-in-2-clause-only c = tag_only import_memory c.in_ok-tag.ensures.found c.in-2.is c.bounds.new.cursor.0 c.in_ok-limits-in-2.limits c.in_ok-limits-in-2.ensures.only

pub returns-in_err-kind-in-3-clause-malformed : goal.returns-in_err-kind-in-3-clause-malformed
returns-in_err-kind-in-3-clause-malformed c = let p = err_from_is_err_and c.from_residual-in_err-kind-in-3.result c.from_residual-in_err-kind-in-3.ensures.1 in rw (p.1, p.2) (λ is. tag_none import_global c.in_ok-tag.ensures.found c.in-3.is (c.in_err-kind-in-3.ensures.malformed is))

pub returns-in_ok-kind-in-3-clause-found : goal.returns-in_ok-kind-in-3-clause-found
returns-in_ok-kind-in-3-clause-found c = tag_found import_global c.in_ok-tag.ensures.found c.in-3.is c.global_type.new.cursor.0 c.in_ok-kind-in-3.kind c.in_ok-kind-in-3.ensures.found

pub returns-in_ok-kind-in-3-clause-only : goal.returns-in_ok-kind-in-3-clause-only
returns-in_ok-kind-in-3-clause-only c = tag_only import_global c.in_ok-tag.ensures.found c.in-3.is c.global_type.new.cursor.0 c.in_ok-kind-in-3.kind c.in_ok-kind-in-3.ensures.only
