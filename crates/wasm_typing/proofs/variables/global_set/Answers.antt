use Rattle.std.proofs.Common.{sym, [], ◌∷◌}
use Rattle.wasm_values.specs.Syntax.{global_set}
use Rattle.wasm_typing.specs.Typing.{global_set_typed}
use Rattle.wasm_typing.specs.inner.Scopes.{scope_view}
use Rattle.wasm_typing.proofs.Images.{never}
use Rattle.wasm_typing.proofs.Applied.{any_applied, not_true, not_false}
use Rattle.wasm_typing.proofs.Instructions.{only_global_set, no_global_set, constant_global_set}
use Rattle.wasm_typing.proofs.variables.global_set.Goals as goal

pub returns-in_default : goal.returns-in_default
returns-in_default c = λ labels. never _ (no_global_set (sym c.in_default.ensures))

pub returns-then-not-found : goal.returns-then-not-found
returns-then-not-found c = λ labels. never _ (constant_global_set c.in-Some.found (sym c.in-Some.ensures) (not_true c.in-Some.found.mutable c.if-not-found.true))

pub returns : goal.returns
returns c =
    let g = c.in-Some.found in
    let found = sym c.in-Some.ensures in
    any_applied c.apply.result (scope_view c.args.scope.now) (global_set c.args.index) (g.value ∷ []) [] c.args.operands.now c.apply.new.self (λ labels. global_set_typed g found (not_false g.mutable c.if-not-found.false)) (λ labels. only_global_set g found) c.apply.ensures
