use Rattle.std.proofs.lemmas.Result.{err_from_is_err_and}
use Rattle.wasm_values.proofs.Tags.{tag_found, tag_only, tag_none}
use Rattle.wasm_values.proofs.Spelled.{export_func, export_table, export_memory, export_global}
use Rattle.wasm_values.proofs.fields.export_desc.Goals as goal

pub returns-in_err-index-in-0-clause-malformed : goal.returns-in_err-index-in-0-clause-malformed
returns-in_err-index-in-0-clause-malformed c = let p = err_from_is_err_and c.from_residual-in_err-index-in-0.result c.from_residual-in_err-index-in-0.ensures.1 in rw p.1 (λ _. tag_none export_func c.in_ok-tag.ensures.found c.in-0.is c.in_err-index-in-0.ensures.bad)

pub returns-in_ok-index-in-0-clause-found : goal.returns-in_ok-index-in-0-clause-found
returns-in_ok-index-in-0-clause-found c = tag_found export_func c.in_ok-tag.ensures.found c.in-0.is c.leb_u32.new.self.0 c.in_ok-index-in-0.index c.in_ok-index-in-0.ensures.found

pub returns-in_ok-index-in-0-clause-only : goal.returns-in_ok-index-in-0-clause-only
returns-in_ok-index-in-0-clause-only c = tag_only export_func c.in_ok-tag.ensures.found c.in-0.is c.leb_u32.new.self.0 c.in_ok-index-in-0.index c.in_ok-index-in-0.ensures.only

pub returns-in_err-index-in-1-clause-malformed : goal.returns-in_err-index-in-1-clause-malformed
returns-in_err-index-in-1-clause-malformed c = let p = err_from_is_err_and c.from_residual-in_err-index-in-1.result c.from_residual-in_err-index-in-1.ensures.1 in rw p.1 (λ _. tag_none export_table c.in_ok-tag.ensures.found c.in-1.is c.in_err-index-in-1.ensures.bad)

pub returns-in_ok-index-in-1-clause-found : goal.returns-in_ok-index-in-1-clause-found
returns-in_ok-index-in-1-clause-found c = tag_found export_table c.in_ok-tag.ensures.found c.in-1.is c.leb_u32-in-1.new.self.0 c.in_ok-index-in-1.index c.in_ok-index-in-1.ensures.found

pub returns-in_ok-index-in-1-clause-only : goal.returns-in_ok-index-in-1-clause-only
returns-in_ok-index-in-1-clause-only c = tag_only export_table c.in_ok-tag.ensures.found c.in-1.is c.leb_u32-in-1.new.self.0 c.in_ok-index-in-1.index c.in_ok-index-in-1.ensures.only

pub returns-in_err-index-in-2-clause-malformed : goal.returns-in_err-index-in-2-clause-malformed
returns-in_err-index-in-2-clause-malformed c = let p = err_from_is_err_and c.from_residual-in_err-index-in-2.result c.from_residual-in_err-index-in-2.ensures.1 in rw p.1 (λ _. tag_none export_memory c.in_ok-tag.ensures.found c.in-2.is c.in_err-index-in-2.ensures.bad)

pub returns-in_ok-index-in-2-clause-found : goal.returns-in_ok-index-in-2-clause-found
returns-in_ok-index-in-2-clause-found c = tag_found export_memory c.in_ok-tag.ensures.found c.in-2.is c.leb_u32-in-2.new.self.0 c.in_ok-index-in-2.index c.in_ok-index-in-2.ensures.found

pub returns-in_ok-index-in-2-clause-only : goal.returns-in_ok-index-in-2-clause-only
returns-in_ok-index-in-2-clause-only c = tag_only export_memory c.in_ok-tag.ensures.found c.in-2.is c.leb_u32-in-2.new.self.0 c.in_ok-index-in-2.index c.in_ok-index-in-2.ensures.only

pub returns-in_err-index-in-3-clause-malformed : goal.returns-in_err-index-in-3-clause-malformed
returns-in_err-index-in-3-clause-malformed c = let p = err_from_is_err_and c.from_residual-in_err-index-in-3.result c.from_residual-in_err-index-in-3.ensures.1 in rw p.1 (λ _. tag_none export_global c.in_ok-tag.ensures.found c.in-3.is c.in_err-index-in-3.ensures.bad)

pub returns-in_ok-index-in-3-clause-found : goal.returns-in_ok-index-in-3-clause-found
returns-in_ok-index-in-3-clause-found c = tag_found export_global c.in_ok-tag.ensures.found c.in-3.is c.leb_u32-in-3.new.self.0 c.in_ok-index-in-3.index c.in_ok-index-in-3.ensures.found

pub returns-in_ok-index-in-3-clause-only : goal.returns-in_ok-index-in-3-clause-only
returns-in_ok-index-in-3-clause-only c = tag_only export_global c.in_ok-tag.ensures.found c.in-3.is c.leb_u32-in-3.new.self.0 c.in_ok-index-in-3.index c.in_ok-index-in-3.ensures.only
