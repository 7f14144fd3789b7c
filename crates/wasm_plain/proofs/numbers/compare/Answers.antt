use Rattle.std.proofs.Common.{arith}
use Rattle.wasm_stack.specs.Standing.{held}
use Rattle.wasm_plain.proofs.Results.{compare_found, compare_done}
use Rattle.wasm_plain.proofs.numbers.compare.Goals as goal

pub operand-second-requires : goal.operand-second-requires
operand-second-requires c = omega (arith, (compare_found c.requires.is_next.1 c.requires.group c.requires.two).0)

pub operand-first-requires : goal.operand-first-requires
operand-first-requires c = (compare_found c.requires.is_next.1 c.requires.group c.requires.two).0

pub compare-requires-clause-first : goal.compare-requires-clause-first
compare-requires-clause-first c = λ h. omega (arith, c.operand-first.ensures, (compare_found c.requires.is_next.1 c.requires.group c.requires.two).2 h)

pub compare-requires-clause-second : goal.compare-requires-clause-second
compare-requires-clause-second c = λ h. omega (arith, c.operand-second.ensures, (compare_found c.requires.is_next.1 c.requires.group c.requires.two).1 h)

pub replace-requires-clause-within : goal.replace-requires-clause-within
replace-requires-clause-within c = (compare_found c.requires.is_next.1 c.requires.group c.requires.two).0

pub returns : goal.returns
returns c = λ store.
    compare_done c.requires.is_next.1 store (held c.replace.new.self) c.requires.group c.requires.two c.operand-first.result c.operand-second.result c.compare.result c.from.result c.operand-second.ensures c.operand-first.ensures c.compare.ensures c.from.ensures c.replace.ensures
