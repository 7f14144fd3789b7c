use Rattle.wasm_typing.specs.inner.Scopes.{scope_view}
use Rattle.wasm_typing.specs.inner.Tables.{access_view}
use Rattle.wasm_typing.proofs.Images.{never}
use Rattle.wasm_typing.proofs.Applied.{load_applied}
use Rattle.wasm_typing.proofs.Instructions.{no_load, bad_load}
use Rattle.wasm_typing.proofs.Ranges.{load_found, load_none}
use Rattle.wasm_typing.proofs.memories.load.Goals as goal

pub returns-in_default : goal.returns-in_default
returns-in_default c = λ labels offset. never _ (no_load (load_none c.args.op c.in_default.ensures))

pub returns-then-not-allows : goal.returns-then-not-allows
returns-then-not-allows c =
    let found = load_found c.args.op (access_view c.in-Some.access) c.in-Some.ensures in
    λ labels offset. never _ (bad_load (record (access_view c.in-Some.access) { signed = found.0 }) found.1 c.if-not-allows.ensures)

pub returns : goal.returns
returns c =
    let can = c.if-not-allows.ensures in
    let found = load_found c.args.op (access_view c.in-Some.access) c.in-Some.ensures in
    load_applied c.apply.result (scope_view c.args.scope.now) c.args.op c.args.align (record (access_view c.in-Some.access) { signed = found.0 }) c.args.operands.now c.apply.new.self found.1 can.0 can.1 c.apply.ensures
