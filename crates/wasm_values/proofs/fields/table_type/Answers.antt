use Rattle.std.proofs.lemmas.Result.{err_from_is_err_and}
use Rattle.wasm_values.proofs.Fronts.{then_begins, then_only, then_none_first, then_none_second}
use Rattle.std.proofs.Common.{ap}
use Rattle.wasm_values.specs.Spelling.{SpellsMark}
use Rattle.wasm_values.specs.Values.{SpellsBounds}
use Rattle.wasm_values.proofs.fields.table_type.Goals as goal

pub returns-in_err-mark-clause-malformed : goal.returns-in_err-mark-clause-malformed
returns-in_err-mark-clause-malformed c = let p = err_from_is_err_and c.from_residual.result c.from_residual.ensures.1 in rw (p.1, p.2) (λ is. λ value rest b. then_none_first (SpellsMark 0x70) SpellsBounds c.args.cursor.now.0 (c.in_err-mark.ensures.malformed is) (tt, value) rest b)

pub returns-in_err-limits-clause-malformed : goal.returns-in_err-limits-clause-malformed
returns-in_err-limits-clause-malformed c = let p = err_from_is_err_and c.from_residual-in_err-limits.result c.from_residual-in_err-limits.ensures.1 in rw (p.1, p.2) (λ is. λ value rest b. then_none_second (SpellsMark 0x70) SpellsBounds c.args.cursor.now.0 c.mark.new.cursor.0 tt c.in_ok-mark.ensures.only (c.in_err-limits.ensures.malformed is) (tt, value) rest b)

pub returns-clause-found : goal.returns-clause-found
returns-clause-found c = then_begins (SpellsMark 0x70) SpellsBounds c.args.cursor.now.0 c.mark.new.cursor.0 c.bounds.new.cursor.0 tt c.in_ok-limits.limits c.in_ok-mark.ensures.found c.in_ok-limits.ensures.found

pub returns-clause-only : goal.returns-clause-only
returns-clause-only c = λ other more b. let one = then_only (SpellsMark 0x70) SpellsBounds c.args.cursor.now.0 c.mark.new.cursor.0 c.bounds.new.cursor.0 tt c.in_ok-limits.limits c.in_ok-mark.ensures.only c.in_ok-limits.ensures.only (tt, other) more b in (ap (λ z. z.1) one.0, one.1)
