use Rattle.std.proofs.lemmas.Result.{err_from_is_err_and}
use Rattle.wasm_values.proofs.Lists.{bytes_begins, bytes_only, bytes_none, bytes_short}
use Rattle.wasm_values.proofs.fields.counted.Goals as goal

pub returns-in_err-count-clause-malformed : goal.returns-in_err-count-clause-malformed
returns-in_err-count-clause-malformed c = let p = err_from_is_err_and c.from_residual.result c.from_residual.ensures.1 in rw p.1 (λ _. bytes_none c.args.cursor.now.0 c.in_err-count.ensures.bad)

pub returns-in_err-content-clause-malformed : goal.returns-in_err-content-clause-malformed
returns-in_err-content-clause-malformed c = let p = err_from_is_err_and c.from_residual-in_err-content.result c.from_residual-in_err-content.ensures.1 in rw p.1 (λ _. bytes_short c.args.cursor.now.0 c.leb_u32.new.self.0 c.in_ok-count.count c.in_ok-count.ensures.only c.in_err-content.ensures.short)

pub returns-clause-found : goal.returns-clause-found
returns-clause-found c = bytes_begins c.args.cursor.now.0 c.leb_u32.new.self.0 c.take.new.self.0 c.in_ok-content.content.now c.in_ok-count.count c.in_ok-count.ensures.found c.in_ok-content.ensures.found c.in_ok-content.ensures.count

pub returns-clause-only : goal.returns-clause-only
returns-clause-only c = bytes_only c.args.cursor.now.0 c.leb_u32.new.self.0 c.take.new.self.0 c.in_ok-content.content.now c.in_ok-count.count c.in_ok-count.ensures.only c.in_ok-content.ensures.found c.in_ok-content.ensures.count
