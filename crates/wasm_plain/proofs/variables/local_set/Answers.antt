use Rattle.std.proofs.Common.{◌≤◌, length, sym, ap, subst, ◌∙◌, arith}
use Rattle.wasm_stack.specs.Held.{Held, without}
use Rattle.wasm_stack.specs.Standing.{held}
use Rattle.wasm_plain.proofs.Locals.{set_found, set_done}
use Rattle.wasm_plain.proofs.variables.local_set.Goals as goal

pub operand-value-requires : goal.operand-value-requires
operand-value-requires c = omega (arith, (set_found c.requires.1).1)

pub set_local-requires : goal.set_local-requires
set_local-requires c = (set_found c.requires.1).0

pub discard-requires : goal.discard-requires
discard-requires c = subst (λ (z : Held). 1 ≤ length z.operands) (sym c.set_local.ensures) (set_found c.requires.1).1

pub returns : goal.returns
returns c = λ store.
    set_done c.requires.1 store (held c.discard.new.self) c.operand-value.result c.operand-value.ensures (c.discard.ensures ∙ ap (λ (z : Held). without 1 z) c.set_local.ensures)
