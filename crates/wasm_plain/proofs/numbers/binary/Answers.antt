use Rattle.std.proofs.Common.{refl, arith}
use Rattle.wasm_stack.specs.Standing.{held}
use Rattle.wasm_plain.proofs.Results.{binary_found, binary_done, divides_by_zero, overflows}
use Rattle.wasm_plain.proofs.numbers.binary.Goals as goal

pub operand-second-requires : goal.operand-second-requires
operand-second-requires c = omega (arith, (binary_found c.requires.is_next.1 c.requires.group).0)

pub operand-first-requires : goal.operand-first-requires
operand-first-requires c = (binary_found c.requires.is_next.1 c.requires.group).0

pub binary-requires-clause-first : goal.binary-requires-clause-first
binary-requires-clause-first c = λ h. omega (arith, c.operand-first.ensures, (binary_found c.requires.is_next.1 c.requires.group).2 h)

pub binary-requires-clause-second : goal.binary-requires-clause-second
binary-requires-clause-second c = λ h. omega (arith, c.operand-second.ensures, (binary_found c.requires.is_next.1 c.requires.group).1 h)

pub replace-requires-clause-within : goal.replace-requires-clause-within
replace-requires-clause-within c = (binary_found c.requires.is_next.1 c.requires.group).0

pub returns-in-Ok : goal.returns-in-Ok
returns-in-Ok c = λ store.
    binary_done c.requires.is_next.1 store (held c.replace.new.self) c.requires.group c.operand-first.result c.operand-second.result c.in-Ok.value c.operand-second.ensures c.operand-first.ensures c.in-Ok.ensures.value c.in-Ok.ensures.range (grind (arith, c.binary.type_inv)) c.replace.ensures

pub returns-in-Err-DivideByZero : goal.returns-in-Err-DivideByZero
returns-in-Err-DivideByZero c = λ store.
    divides_by_zero c.requires.is_next.1 store (held c.args.stack.now) c.requires.group c.operand-first.result c.operand-second.result c.operand-second.ensures c.operand-first.ensures c.in-Err-DivideByZero.ensures.value (c.in-Err-DivideByZero.ensures.by_zero c.in-Err-DivideByZero.field-0-is).1 refl

pub returns-in-Err-Overflow : goal.returns-in-Err-Overflow
returns-in-Err-Overflow c = λ store.
    overflows c.requires.is_next.1 store (held c.args.stack.now) c.requires.group c.operand-first.result c.operand-second.result c.operand-second.ensures c.operand-first.ensures c.in-Err-Overflow.ensures.value (c.in-Err-Overflow.ensures.overflow c.in-Err-Overflow.field-0-is) refl
