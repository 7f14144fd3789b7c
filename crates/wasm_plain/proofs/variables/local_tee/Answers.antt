use Rattle.std.proofs.Common.{arith}
use Rattle.wasm_stack.specs.Standing.{held}
use Rattle.wasm_plain.proofs.Locals.{tee_found, tee_done}
use Rattle.wasm_plain.proofs.variables.local_tee.Goals as goal

pub operand-kept-requires : goal.operand-kept-requires
operand-kept-requires c = omega (arith, (tee_found c.requires.1).1)

pub set_local-requires : goal.set_local-requires
set_local-requires c = (tee_found c.requires.1).0

pub returns : goal.returns
returns c = λ store. tee_done c.requires.1 store (held c.set_local.new.self) c.operand-kept.result c.operand-kept.ensures c.set_local.ensures
