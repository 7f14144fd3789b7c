use Rattle.std.proofs.Common.{sym, [], ◌∷◌}
use Rattle.wasm_values.specs.Syntax.{global_get}
use Rattle.wasm_typing.specs.Typing.{global_get_typed}
use Rattle.wasm_typing.specs.inner.Scopes.{scope_view}
use Rattle.wasm_typing.proofs.Images.{never}
use Rattle.wasm_typing.proofs.Applied.{any_applied}
use Rattle.wasm_typing.proofs.Instructions.{only_global_get, no_global_get}
use Rattle.wasm_typing.proofs.variables.global_get.Goals as goal

pub returns-in_default : goal.returns-in_default
returns-in_default c = λ labels. never _ (no_global_get (sym c.in_default.ensures))

pub returns : goal.returns
returns c =
    let g = c.in-Some.found in
    let found = sym c.in-Some.ensures in
    any_applied c.apply.result (scope_view c.args.scope.now) (global_get c.args.index) [] (g.value ∷ []) c.args.operands.now c.apply.new.self (λ labels. global_get_typed g found) (λ labels. only_global_get g found) c.apply.ensures
