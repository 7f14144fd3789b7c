use Rattle.std.proofs.Common.{arith}
use Rattle.wasm_stack.specs.Standing.{held}
use Rattle.wasm_plain.proofs.Globals.{set_found, set_done}
use Rattle.wasm_plain.proofs.variables.global_set.Goals as goal

pub operand-value-requires : goal.operand-value-requires
operand-value-requires c = omega (arith, (set_found c.args.globals.now c.requires.1 c.requires.2).1)

pub set-requires : goal.set-requires
set-requires c = (set_found c.args.globals.now c.requires.1 c.requires.2).0

pub discard-requires : goal.discard-requires
discard-requires c = (set_found c.args.globals.now c.requires.1 c.requires.2).1

pub returns : goal.returns
returns c = λ store is.
    set_done c.args.globals.now c.requires.1 c.requires.2 store is (held c.discard.new.self) c.set.new.self c.operand-value.result c.operand-value.ensures c.set.ensures c.discard.ensures
