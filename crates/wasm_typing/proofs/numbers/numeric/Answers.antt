use Rattle.std.proofs.Common.{sym, ◌∙◌}
use Rattle.wasm_typing.specs.inner.Tables.{signature_view}
use Rattle.wasm_typing.proofs.Images.{never}
use Rattle.wasm_typing.proofs.Applied.{numeric_applied, binary_applied, unary_applied}
use Rattle.wasm_typing.proofs.Instructions.{no_numeric}
use Rattle.wasm_typing.proofs.Ranges.{signature_is}
use Rattle.wasm_typing.proofs.numbers.numeric.Goals as goal

pub returns-in_default : goal.returns-in_default
returns-in_default c = λ cx labels. never _ (no_numeric (signature_is c.args.op ∙ sym c.in_default.ensures))

pub returns-then-operation : goal.returns-then-operation
returns-then-operation c = numeric_applied c.apply.result c.args.op (signature_view c.in-Some.operation) c.args.operands.now c.apply.new.self (signature_is c.args.op ∙ sym c.in-Some.ensures) (binary_applied c.apply.result c.in-Some.operation c.args.operands.now c.apply.new.self c.if-operation.true c.apply.ensures)

pub returns : goal.returns
returns c = numeric_applied c.apply-2.result c.args.op (signature_view c.in-Some.operation) c.args.operands.now c.apply-2.new.self (signature_is c.args.op ∙ sym c.in-Some.ensures) (unary_applied c.apply-2.result c.in-Some.operation c.args.operands.now c.apply-2.new.self c.if-operation.false c.apply-2.ensures)
