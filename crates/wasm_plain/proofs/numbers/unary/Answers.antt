use Rattle.std.proofs.Common.{arith}
use Rattle.wasm_stack.specs.Standing.{held}
use Rattle.wasm_plain.proofs.Results.{unary_found, unary_done}
use Rattle.wasm_plain.proofs.numbers.unary.Goals as goal

pub operand-operand-requires : goal.operand-operand-requires
operand-operand-requires c = omega (arith, (unary_found c.requires.is_next.1 c.requires.group).0)

pub unary-requires-clause-operand : goal.unary-requires-clause-operand
unary-requires-clause-operand c = λ h. omega (arith, c.operand-operand.ensures, (unary_found c.requires.is_next.1 c.requires.group).1 h)

pub replace-requires-clause-within : goal.replace-requires-clause-within
replace-requires-clause-within c = (unary_found c.requires.is_next.1 c.requires.group).0

pub returns : goal.returns
returns c = λ store.
    unary_done c.requires.is_next.1 store (held c.replace.new.self) c.requires.group c.operand-operand.result c.unary.result c.operand-operand.ensures c.unary.ensures.value c.unary.ensures.range (omega arith) c.replace.ensures
