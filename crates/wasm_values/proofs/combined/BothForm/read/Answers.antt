use Rattle.std.proofs.lemmas.Result.{err_from_is_err_and}
use Rattle.wasm_values.proofs.Fronts.{then_begins, then_only, then_none_first, then_none_second}
use Rattle.wasm_values.proofs.combined.BothForm.read.Goals as goal

pub returns-in_err-first-clause-malformed : goal.returns-in_err-first-clause-malformed
returns-in_err-first-clause-malformed g c = let p = err_from_is_err_and c.from_residual.result c.from_residual.ensures.1 in rw (p.1, p.2) (λ is. then_none_first g.A.Form.spells g.B.Form.spells c.args.cursor.now.0 (c.in_err-first.ensures.malformed is))

pub returns-in_err-second-clause-malformed : goal.returns-in_err-second-clause-malformed
returns-in_err-second-clause-malformed g c = let p = err_from_is_err_and c.from_residual-in_err-second.result c.from_residual-in_err-second.ensures.1 in rw (p.1, p.2) (λ is. then_none_second g.A.Form.spells g.B.Form.spells c.args.cursor.now.0 c.read.new.cursor.0 (g.A.Form.seen c.in_ok-first.first) c.in_ok-first.ensures.only (c.in_err-second.ensures.malformed is))

pub returns-clause-found : goal.returns-clause-found
returns-clause-found g c = then_begins g.A.Form.spells g.B.Form.spells c.args.cursor.now.0 c.read.new.cursor.0 c.read-2.new.cursor.0 (g.A.Form.seen c.in_ok-first.first) (g.B.Form.seen c.in_ok-second.second) c.in_ok-first.ensures.found c.in_ok-second.ensures.found

pub returns-clause-only : goal.returns-clause-only
returns-clause-only g c = then_only g.A.Form.spells g.B.Form.spells c.args.cursor.now.0 c.read.new.cursor.0 c.read-2.new.cursor.0 (g.A.Form.seen c.in_ok-first.first) (g.B.Form.seen c.in_ok-second.second) c.in_ok-first.ensures.only c.in_ok-second.ensures.only
