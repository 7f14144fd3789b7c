use Rattle.std.proofs.Common.{◌≡◌, ◌≢◌, Bool, true, false, None, Some, get_or, slice_get, refl, sym, ap, ◌∙◌, arith}
use Rattle.wasm_values.specs.Syntax.{no_ops, next, call_indirect}
use Rattle.wasm_steps.specs.Program.{Function, type_of}
use Rattle.wasm_steps.specs.Steps.{Finds, finds_end, finds_empty, finds_other}
use Rattle.wasm_soundness.proofs.Calls.{call_indirect_on, table_names}
use Rattle.wasm_stack.specs.Held.{running}
use Rattle.wasm_stack.specs.Standing.{held}
use Rattle.wasm_stack.specs.View.{ops_at}
use Rattle.wasm_machine.specs.Machine.{base_of, program_of}
use Rattle.wasm_machine.proofs.Called.{same_found, stopped_unfound, ran_by_index, stopped_by_index, room_for_index, may_call}
use Rattle.wasm_machine.proofs.calls.call_by_index.Goals as goal

wrong : (answered : Bool) → answered ≡ true → answered ≡ false → ⊥
wrong answered e f = cc

pub operand-entry-requires : goal.operand-entry-requires
operand-entry-requires g c =
    let s = c.requires.sound in
    omega (arith, (call_indirect_on (running (ops_at c.args.here) (held c.args.stack.now)) (program_of c.args.linked.now) s.0 c.args.index c.requires.typed s.2.store s.2.thread).0)

pub overflow_cast-entry : goal.overflow_cast-entry
overflow_cast-entry g c =
    let s = c.requires.sound in
    let on = call_indirect_on (running (ops_at c.args.here) (held c.args.stack.now)) (program_of c.args.linked.now) s.0 c.args.index c.requires.typed s.2.store s.2.thread in
    record { fits = omega (arith, on.1, c.operand-entry.ensures) }

pub returns-in-None-clause-runs : goal.returns-in-None-clause-runs
returns-in-None-clause-runs g c = λ store table memory sound.
    let on = call_indirect_on (running (ops_at c.args.here) (held c.args.stack.now)) (program_of c.args.linked.now) store c.args.index c.requires.typed sound.store sound.thread in
    let place = get_or (held c.args.stack.now).operands 0 0 in
    let none : slice_get store.table place ≡ None = ap (λ z. slice_get z place) table ∙ ap (λ n. slice_get c.args.table.now n) (sym c.operand-entry.ensures) ∙ sym c.in-None.ensures.entry in
    stopped_unfound (program_of c.args.linked.now) c.args.index (ops_at c.args.here) (held c.args.stack.now) store c.args.pages.now c.args.host.now _ on.0 memory (finds_end none)

pub returns-in-Some-None-clause-runs : goal.returns-in-Some-None-clause-runs
returns-in-Some-None-clause-runs g c = λ store table memory sound.
    let on = call_indirect_on (running (ops_at c.args.here) (held c.args.stack.now)) (program_of c.args.linked.now) store c.args.index c.requires.typed sound.store sound.thread in
    let place = get_or (held c.args.stack.now).operands 0 0 in
    let none : slice_get store.table place ≡ Some None = ap (λ z. slice_get z place) table ∙ ap (λ n. slice_get c.args.table.now n) (sym c.operand-entry.ensures) ∙ sym c.in-Some-None.ensures.entry ∙ ap Some c.in-Some-None.field-0-is in
    stopped_unfound (program_of c.args.linked.now) c.args.index (ops_at c.args.here) (held c.args.stack.now) store c.args.pages.now c.args.host.now _ on.0 memory (finds_empty none)

pub has_type-requires-clause-index : goal.has_type-requires-clause-index
has_type-requires-clause-index g c =
    let s = c.requires.sound in
    (call_indirect_on (running (ops_at c.args.here) (held c.args.stack.now)) (program_of c.args.linked.now) s.0 c.args.index c.requires.typed s.2.store s.2.thread).2

pub returns-then-not-has_type-clause-runs : goal.returns-then-not-has_type-clause-runs
returns-then-not-has_type-clause-runs g c = λ store table memory sound.
    let program = program_of c.args.linked.now in
    let on = call_indirect_on (running (ops_at c.args.here) (held c.args.stack.now)) program store c.args.index c.requires.typed sound.store sound.thread in
    let place = get_or (held c.args.stack.now).operands 0 0 in
    let names : slice_get store.table place ≡ Some (Some c.in-Some-Some.func) = ap (λ z. slice_get z place) table ∙ ap (λ n. slice_get c.args.table.now n) (sym c.operand-entry.ensures) ∙ sym c.in-Some-Some.ensures.entry ∙ ap Some c.in-Some-Some.field-0-is in
    let known = table_names program store place c.in-Some-Some.func c.requires.typed sound.store names in
    let other : slice_get program.types c.args.index ≢ Some (type_of known.0) = λ same.
    wrong c.has_type.result (c.has_type.ensures.1 (λ (f : Function) k. same ∙ ap (λ (z : Function). Some (type_of z)) (same_found known.1 k))) c.if-not-has_type.true in
    stopped_unfound program c.args.index (ops_at c.args.here) (held c.args.stack.now) store c.args.pages.now c.args.host.now _ on.0 memory (finds_other names known.1 other)

pub discard-requires : goal.discard-requires
discard-requires g c =
    let s = c.requires.sound in
    (call_indirect_on (running (ops_at c.args.here) (held c.args.stack.now)) (program_of c.args.linked.now) s.0 c.args.index c.requires.typed s.2.store s.2.thread).0

pub call_function-requires-clause-ready : goal.call_function-requires-clause-ready
call_function-requires-clause-ready g c = λ found known.
    let s = c.requires.sound in
    let program = program_of c.args.linked.now in
    let on = call_indirect_on (running (ops_at c.args.here) (held c.args.stack.now)) program s.0 c.args.index c.requires.typed s.2.store s.2.thread in
    let place = c.operand-entry.result in
    let names : slice_get s.0.table place ≡ Some (Some c.in-Some-Some.func) = ap (λ z. slice_get z place) s.1 ∙ sym c.in-Some-Some.ensures.entry ∙ ap Some c.in-Some-Some.field-0-is in
    let type = c.has_type.ensures.0 c.if-not-has_type.false found known in
    may_call (base_of c.args.linked.now) (next (call_indirect c.args.index) (ops_at c.args.here)) (ops_at c.args.here) found (held c.args.stack.now) (held c.discard.new.self) c.discard.ensures s.2.thread.room (on.3 place c.in-Some-Some.func found names known type)

pub push_within-requires : goal.push_within-requires
push_within-requires g c =
    let s = c.requires.sound in
    let program = program_of c.args.linked.now in
    let on = call_indirect_on (running (ops_at c.args.here) (held c.args.stack.now)) program s.0 c.args.index c.requires.typed s.2.store s.2.thread in
    let place = c.operand-entry.result in
    let names : slice_get s.0.table place ≡ Some (Some c.in-Some-Some.func) = ap (λ z. slice_get z place) s.1 ∙ sym c.in-Some-Some.ensures.entry ∙ ap Some c.in-Some-Some.field-0-is in
    let known = table_names program s.0 place c.in-Some-Some.func c.requires.typed s.2.store names in
    let fails = c.in-Err.ensures.runs known.0 (record s.0 { memory = c.args.pages.now }) known.1 refl no_ops in
    room_for_index (held c.args.stack.now) (held c.call_function.new.stack) (ops_at c.args.here) (next (call_indirect c.args.index) (ops_at c.args.here)) on.0 s.2.thread.room (fails.1 ∙ c.discard.ensures)

pub returns-in-Ok-clause-runs : goal.returns-in-Ok-clause-runs
returns-in-Ok-clause-runs g c = λ store table memory sound.
    let program = program_of c.args.linked.now in
    let on = call_indirect_on (running (ops_at c.args.here) (held c.args.stack.now)) program store c.args.index c.requires.typed sound.store sound.thread in
    let place = c.operand-entry.result in
    let names : slice_get store.table place ≡ Some (Some c.in-Some-Some.func) = ap (λ z. slice_get z place) table ∙ sym c.in-Some-Some.ensures.entry ∙ ap Some c.in-Some-Some.field-0-is in
    let known = table_names program store place c.in-Some-Some.func c.requires.typed sound.store names in
    let type = c.has_type.ensures.0 c.if-not-has_type.false known.0 known.1 in
    let finds : Finds program store c.args.index place known.0 = record { func = c.in-Some-Some.func; held = names; known = known.1; typed = type } in
    ran_by_index program g.H.Host.answers (base_of c.args.linked.now) c.args.index place (ops_at c.args.here) known.0 (held c.args.stack.now) (held c.discard.new.self) _ store _ c.args.host.now _ c.in-Ok.place
    sound on.0 c.operand-entry.ensures c.discard.ensures finds (on.3 place c.in-Some-Some.func known.0 names known.1 type)
    (c.in-Ok.ensures.runs known.0 store known.1 memory) (c.in-Ok.ensures.typed known.0 known.1)

pub returns-in-Err-clause-runs : goal.returns-in-Err-clause-runs
returns-in-Err-clause-runs g c = λ store table memory sound.
    let program = program_of c.args.linked.now in
    let on = call_indirect_on (running (ops_at c.args.here) (held c.args.stack.now)) program store c.args.index c.requires.typed sound.store sound.thread in
    let place = c.operand-entry.result in
    let names : slice_get store.table place ≡ Some (Some c.in-Some-Some.func) = ap (λ z. slice_get z place) table ∙ sym c.in-Some-Some.ensures.entry ∙ ap Some c.in-Some-Some.field-0-is in
    let known = table_names program store place c.in-Some-Some.func c.requires.typed sound.store names in
    let type = c.has_type.ensures.0 c.if-not-has_type.false known.0 known.1 in
    let finds : Finds program store c.args.index place known.0 = record { func = c.in-Some-Some.func; held = names; known = known.1; typed = type } in
    stopped_by_index program g.H.Host.answers (base_of c.args.linked.now) c.args.index place (ops_at c.args.here) known.0 (held c.args.stack.now) (held c.discard.new.self) (held c.call_function.new.stack) store _ c.args.host.now _ c.in-Err.trap (held c.push_within.new.self)
    on.0 c.operand-entry.ensures c.discard.ensures finds (c.in-Err.ensures.runs known.0 store known.1 memory) c.push_within.ensures
