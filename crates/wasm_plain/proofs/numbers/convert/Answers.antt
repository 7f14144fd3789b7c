use Rattle.std.proofs.Common.{arith}
use Rattle.wasm_stack.specs.Standing.{held}
use Rattle.wasm_plain.proofs.Results.{convert_found, convert_done}
use Rattle.wasm_plain.proofs.numbers.convert.Goals as goal

pub operand-operand-requires : goal.operand-operand-requires
operand-operand-requires c = omega (arith, (convert_found c.requires.is_next.1 c.requires.group).0)

pub convert-requires-clause-operand : goal.convert-requires-clause-operand
convert-requires-clause-operand c = λ h. omega (arith, c.operand-operand.ensures, (convert_found c.requires.is_next.1 c.requires.group).1 h)

pub replace-requires-clause-within : goal.replace-requires-clause-within
replace-requires-clause-within c = (convert_found c.requires.is_next.1 c.requires.group).0

pub returns : goal.returns
returns c = λ store.
    convert_done c.requires.is_next.1 store (held c.replace.new.self) c.requires.group c.operand-operand.result c.convert.result c.operand-operand.ensures c.convert.ensures.value c.convert.ensures.range (omega arith) c.replace.ensures
