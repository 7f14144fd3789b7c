use Rattle.std.proofs.Common.{sym, [], ◌∷◌}
use Rattle.wasm_values.specs.Syntax.{local_set}
use Rattle.wasm_typing.specs.Typing.{local_set_typed}
use Rattle.wasm_typing.specs.inner.Scopes.{scope_view}
use Rattle.wasm_typing.proofs.Images.{never}
use Rattle.wasm_typing.proofs.Applied.{any_applied}
use Rattle.wasm_typing.proofs.Instructions.{only_local_set, no_local_set}
use Rattle.wasm_typing.proofs.variables.local_set.Goals as goal

pub returns-in_default : goal.returns-in_default
returns-in_default c = λ labels. never _ (no_local_set (sym c.in_default.ensures))

pub returns : goal.returns
returns c = any_applied c.apply.result (scope_view c.args.scope.now) (local_set c.args.index) (c.in-Some.value ∷ []) [] c.args.operands.now c.apply.new.self (λ labels. local_set_typed (sym c.in-Some.ensures)) (λ labels. only_local_set (sym c.in-Some.ensures)) c.apply.ensures
