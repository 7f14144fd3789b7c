use Rattle.std.proofs.Common.{[], ◌∷◌, reverse}
use Rattle.std.proofs.lemmas.Option.{slice_get_past}
use Rattle.wasm_values.specs.Syntax.{call_indirect}
use Rattle.wasm_values.specs.declared.types.ValType.TheVariants.{I32}
use Rattle.wasm_typing.specs.Typing.{types_of, call_indirect_typed}
use Rattle.wasm_typing.specs.inner.Scopes.{scope_view}
use Rattle.wasm_typing.proofs.Stacks.{stop_first}
use Rattle.wasm_typing.proofs.Images.{never, only_none}
use Rattle.wasm_typing.proofs.Applied.{any_applied, applied_later, found_at}
use Rattle.wasm_typing.proofs.Instructions.{only_call_indirect, no_call_indirect, no_table}
use Rattle.wasm_typing.proofs.calls.call_indirect.Goals as goal

pub returns-then-not-has_table : goal.returns-then-not-has_table
returns-then-not-has_table c = λ labels. never _ (no_table c.if-not-has_table.ensures)

pub returns-in_default : goal.returns-in_default
returns-in_default c = λ labels. never _ (no_call_indirect (slice_get_past (scope_view c.args.scope.now).types c.args.index c.in_default.ensures.lookup.3))

pub returns-then-not-pop_types : goal.returns-then-not-pop_types
returns-then-not-pop_types c =
    let cx = scope_view c.args.scope.now in
    let t = c.in-Some.kind.now in
    let found = found_at cx.types c.args.index t c.in-Some.ensures.lookup.3.0 c.in-Some.ensures.lookup.1 in
    λ labels. only_none (only_call_indirect t found) (stop_first (reverse t.params) c.if-not-pop_types.ensures)

pub returns : goal.returns
returns c =
    let cx = scope_view c.args.scope.now in
    let t = c.in-Some.kind.now in
    let found = found_at cx.types c.args.index t c.in-Some.ensures.lookup.3.0 c.in-Some.ensures.lookup.1 in
    let later = applied_later c.apply.result (I32 ∷ []) (reverse t.params) (types_of t.result) c.args.operands.now c.pop_types.new.self c.apply.new.self c.if-not-pop_types.ensures (rw c.as_slice.ensures at c.apply.ensures) in
    any_applied c.apply.result cx (call_indirect c.args.index) (I32 ∷ reverse t.params) (types_of t.result) c.args.operands.now c.apply.new.self
    (λ labels. call_indirect_typed t c.if-not-has_table.ensures found) (λ labels. only_call_indirect t found) later
