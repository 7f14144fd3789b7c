use Rattle.std.proofs.Common.{arith}
use Rattle.wasm_stack.specs.Standing.{held}
use Rattle.wasm_plain.proofs.Results.{test_found, test_done}
use Rattle.wasm_plain.proofs.Signatures.{compares_first}
use Rattle.wasm_plain.proofs.numbers.test.Goals as goal

pub operand-operand-requires : goal.operand-operand-requires
operand-operand-requires c = omega (arith, (test_found c.requires.is_next.1 c.requires.group).0)

pub compare-requires-clause-group : goal.compare-requires-clause-group
compare-requires-clause-group c = compares_first c.args.op c.requires.group

pub compare-requires-clause-first : goal.compare-requires-clause-first
compare-requires-clause-first c = λ h. omega (arith, c.operand-operand.ensures, (test_found c.requires.is_next.1 c.requires.group).1 h)

pub replace-requires-clause-within : goal.replace-requires-clause-within
replace-requires-clause-within c = (test_found c.requires.is_next.1 c.requires.group).0

pub returns : goal.returns
returns c = λ store.
    test_done c.requires.is_next.1 store (held c.replace.new.self) c.requires.group c.operand-operand.result c.compare.result c.from.result c.operand-operand.ensures c.compare.ensures c.from.ensures c.replace.ensures
