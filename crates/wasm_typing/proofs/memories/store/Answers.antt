use Rattle.std.proofs.Common.{sym, ◌∙◌}
use Rattle.wasm_typing.specs.inner.Scopes.{scope_view}
use Rattle.wasm_typing.specs.inner.Tables.{access_view}
use Rattle.wasm_typing.proofs.Images.{never}
use Rattle.wasm_typing.proofs.Applied.{store_applied}
use Rattle.wasm_typing.proofs.Instructions.{no_store, bad_store}
use Rattle.wasm_typing.proofs.Ranges.{store_is}
use Rattle.wasm_typing.proofs.memories.store.Goals as goal

pub returns-in_default : goal.returns-in_default
returns-in_default c = λ labels offset. never _ (no_store (store_is c.args.op ∙ sym c.in_default.ensures))

pub returns-then-not-allows : goal.returns-then-not-allows
returns-then-not-allows c = λ labels offset. never _ (bad_store (access_view c.in-Some.access) (store_is c.args.op ∙ sym c.in-Some.ensures) c.if-not-allows.ensures)

pub returns : goal.returns
returns c =
    let can = c.if-not-allows.ensures in
    store_applied c.apply.result (scope_view c.args.scope.now) c.args.op c.args.align (access_view c.in-Some.access) c.args.operands.now c.apply.new.self (store_is c.args.op ∙ sym c.in-Some.ensures) can.0 can.1 c.apply.ensures
