use Rattle.std.proofs.Common.{reverse}
use Rattle.wasm_values.specs.Syntax.{call}
use Rattle.wasm_typing.specs.Typing.{types_of, call_typed}
use Rattle.wasm_typing.specs.inner.Scopes.{scope_view}
use Rattle.wasm_typing.proofs.Images.{never}
use Rattle.wasm_typing.proofs.Applied.{any_applied}
use Rattle.wasm_typing.proofs.Instructions.{only_call, no_call}
use Rattle.wasm_typing.proofs.calls.call.Goals as goal

pub returns-in_default : goal.returns-in_default
returns-in_default c = λ labels. never _ (no_call c.in_default.ensures)

pub returns : goal.returns
returns c =
    let t = c.in-Some.kind.now in
    any_applied c.apply.result (scope_view c.args.scope.now) (call c.args.func) (reverse t.params) (types_of t.result) c.args.operands.now c.apply.new.self
    (λ labels. call_typed t c.in-Some.ensures) (λ labels. only_call t c.in-Some.ensures) (rw c.as_slice.ensures at c.apply.ensures)
