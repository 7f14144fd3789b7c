use Rattle.std.proofs.Common.{arith}
use Rattle.wasm_values.proofs.Opcodes.{middle_none, plain_only}
use Rattle.wasm_values.proofs.leaves.leaf.Goals as goal

pub returns-in_default-clause-malformed : goal.returns-in_default-clause-malformed
returns-in_default-clause-malformed c = λ _. middle_none c.args.code c.args.cursor.now.0 (omega arith) (omega arith)

pub returns-in-Some-clause-only : goal.returns-in-Some-clause-only
returns-in-Some-clause-only c = plain_only c.args.code c.args.cursor.now.0 _ (omega arith) c.in-Some.ensures.found
