use Rattle.std.proofs.Common.{◌≡◌, Some, slice_get, ap, ◌∙◌}
use Rattle.wasm_values.specs.Syntax.{Ops}
use Rattle.wasm_values.specs.View.{items_view}
use Rattle.wasm_steps.specs.Program.{defined}
use Rattle.wasm_stack.specs.Held.{running}
use Rattle.wasm_stack.specs.Standing.{held}
use Rattle.wasm_machine.specs.Machine.{base_of, program_of}
use Rattle.wasm_machine.proofs.Called.{same_found}
use Rattle.wasm_machine.proofs.Invoked.{same_more, same_body, always_fits, never_full, invoked_as, invoked_typed}
use Rattle.wasm_machine.proofs.machine.Machine.invoke.Goals as goal

pub unreachable-requires-then-not-call : goal.unreachable-requires-then-not-call
unreachable-requires-then-not-call g c =
    let linked = c.args.linked.now in
    let entry = c.requires.entry in
    let callee = c.in-Defined.ensures in
    let same = same_found entry.known callee.1 ∙ callee.2.1 in
    let known : slice_get (program_of linked).functions c.args.func ≡ Some (defined entry.type c.in-Defined.more (items_view c.in-Defined.body.now)) =
    entry.known ∙ ap (λ n. Some (defined entry.type n entry.body)) (same_more same) ∙ ap (λ (z : Ops). Some (defined entry.type c.in-Defined.more z)) (same_body same) in
    never_full c.call.result (always_fits (program_of linked) c.args.func (base_of linked) entry.type c.in-Defined.more (items_view c.in-Defined.body.now) (held c.reset.new.self) c.call.result
    c.requires.typed known c.reset.ensures c.call.ensures.room.1) c.if-not-call.true

pub run_from-requires-clause-sound : goal.run_from-requires-clause-sound
run_from-requires-clause-sound g c =
    let linked = c.args.linked.now in
    let entry = c.requires.entry in
    let callee = c.in-Defined.ensures in
    let same = same_found entry.known callee.1 ∙ callee.2.1 in
    let known : slice_get (program_of linked).functions c.args.func ≡ Some (defined entry.type c.in-Defined.more (items_view c.in-Defined.body.now)) =
    entry.known ∙ ap (λ n. Some (defined entry.type n entry.body)) (same_more same) ∙ ap (λ (z : Ops). Some (defined entry.type c.in-Defined.more z)) (same_body same) in
    record {
      thread = invoked_typed (program_of linked) c.args.func (base_of linked) entry.type c.in-Defined.more (items_view c.in-Defined.body.now) (held c.reset.new.self) (held c.call.new.self) c.call.result
          c.requires.typed known entry.params entry.result c.reset.ensures c.call.ensures.room.1 c.call.ensures.called;
      store = c.requires.stored;
    }

pub returns-clause-ends : goal.returns-clause-ends
returns-clause-ends g c =
    let linked = c.args.linked.now in
    let entry = c.requires.entry in
    let callee = c.in-Defined.ensures in
    let same = same_found entry.known callee.1 ∙ callee.2.1 in
    let known : slice_get (program_of linked).functions c.args.func ≡ Some (defined entry.type c.in-Defined.more (items_view c.in-Defined.body.now)) =
    entry.known ∙ ap (λ n. Some (defined entry.type n entry.body)) (same_more same) ∙ ap (λ (z : Ops). Some (defined entry.type c.in-Defined.more z)) (same_body same) in
    let body = items_view c.in-Defined.body.now in
    let invoked = invoked_as (program_of linked) c.args.func (base_of linked) entry.type c.in-Defined.more body (held c.reset.new.self) (held c.call.new.self) c.call.result
    c.requires.typed known c.reset.ensures c.call.ensures.room.1 c.call.ensures.called in
    (running body (held c.call.new.self), invoked, c.run_from.ensures.ends)
