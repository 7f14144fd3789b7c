use Rattle.std.proofs.Common.{[], ◌∷◌, length}
use Rattle.wasm_values.specs.inner.Opens.{ClosesAlike, opens}
use Rattle.wasm_values.specs.declared.skim.Open.TheVariants.{Block}
use Rattle.wasm_values.proofs.skim.skim_expression.Given as goal

abbrev pub invariant-each : goal.invariant-each
invariant-each l = ClosesAlike (Block ∷ []) l.fn.cursor.0 (opens l.next l.outer.items) l.cursor.0

abbrev pub decreases-each : goal.decreases-each
decreases-each l = length l.cursor.0
