use Rattle.std.proofs.Common.{rules, w32, w64, SFits, true, inl, refl, sym, ap, ◌∙◌}
use mir.Val.{to_z, of_z}
use Rattle.std.proofs.lemmas.Int.{to_z-of_z}
use Rattle.std.proofs.lemmas.Option.{slice_get_within}
use Rattle.wasm_values.specs.Syntax.{Op, Ops, next, no_ops, unreachable, nop, block, loop, if_else, br, br_if, br_table, return, call, call_indirect, drop_value, select, local_get, local_set, local_tee, global_get, global_set, load, store, memory_size, memory_grow, i32_const, i64_const, numeric}
use Rattle.wasm_values.specs.View.{instr_view, instrs_view}
use Rattle.wasm_values.proofs.Views.{view_block, view_br, view_br_if, view_br_table, view_call, view_call_indirect, view_drop_value, view_float_const, view_float_memory, view_float_plain, view_global_get, view_global_set, view_i32_const, view_i64_const, view_if, view_load, view_local_get, view_local_set, view_local_tee, view_loop, view_memory_grow, view_memory_size, view_nop, view_numeric, view_return, view_select, view_store, view_unreachable}
use Rattle.wasm_steps.specs.Plain.{fails_unreachable}
use Rattle.wasm_soundness.proofs.Plain.{no_float_memory, no_float_const, no_float_plain}
use Rattle.wasm_soundness.proofs.Branches.{br_on}
use Rattle.wasm_soundness.proofs.Calls.{call_on}
use Rattle.wasm_stack.specs.Held.{running, opened}
use Rattle.wasm_stack.specs.Standing.{held}
use Rattle.wasm_stack.specs.View.{ops_at, rest_of}
use Rattle.wasm_link.specs.Callee.{store_view}
use Rattle.wasm_machine.specs.Machine.{base_of, program_of}
use Rattle.wasm_machine.proofs.Rooms.{can_branch}
use Rattle.wasm_machine.proofs.Executed.{ran_block, ran_loop, ran_br, ran_br_table, ran_return, arm_done, arm_stopped, arm_onward, arm_ran, arm_executes, typed_as, done_nop, ran_choice, ran_if_branch}
use Rattle.wasm_machine.proofs.Called.{same_found, ran_call, may_call_here}
use Rattle.wasm_machine.proofs.execute.execute.Goals as goal

pub branch-stack-requires : goal.branch-stack-requires
branch-stack-requires g c =
    let on = br_on (running (ops_at c.args.here) (held c.args.stack.now)) c.in-Br.to (typed_as (ap instr_view c.in-Br.is ∙ view_br c.in-Br.to) c.requires.sound) in
    can_branch c.in-Br.to (ops_at c.args.here) no_ops (held c.args.stack.now) (held c.args.stack.now) on.0 refl

pub call_function-requires-clause-known : goal.call_function-requires-clause-known
call_function-requires-clause-known g c =
    let on = call_on (running (ops_at c.args.here) (held c.args.stack.now)) (program_of c.args.linked.now) c.in-Call.func c.requires.typed (typed_as (ap instr_view c.in-Call.is ∙ view_call c.in-Call.func) c.requires.sound) in
    slice_get_within _ c.in-Call.func on.0 on.1

pub call_function-requires-clause-ready : goal.call_function-requires-clause-ready
call_function-requires-clause-ready g c = λ found known.
    let p = typed_as (ap instr_view c.in-Call.is ∙ view_call c.in-Call.func) c.requires.sound in
    let on = call_on (running (ops_at c.args.here) (held c.args.stack.now)) (program_of c.args.linked.now) c.in-Call.func c.requires.typed p in
    may_call_here (base_of c.args.linked.now) (next (call c.in-Call.func) (ops_at c.args.here)) (ops_at c.args.here) on.0 found (held c.args.stack.now) (same_found on.1 known) p.room on.2

pub returns-in-Unreachable-clause-executes : goal.returns-in-Unreachable-clause-executes
returns-in-Unreachable-clause-executes g c =
    arm_stopped (program_of c.args.linked.now) unreachable (instr_view c.args.instr.now) (ops_at c.args.here) (held c.args.stack.now) (held c.args.stack.now) (store_view c.args.stored.now) (store_view c.args.stored.now) c.args.host.now _ (ap instr_view c.in-Unreachable.is ∙ view_unreachable) (record { cause = inl fails_unreachable; held = refl; stored = refl })

pub returns-in-Nop-clause-executes : goal.returns-in-Nop-clause-executes
returns-in-Nop-clause-executes g c =
    let e = ap instr_view c.in-Nop.is ∙ view_nop in
    arm_done (program_of c.args.linked.now) g.H.Host.answers (base_of c.args.linked.now) nop (instr_view c.args.instr.now) (ops_at c.args.here) (held c.args.stack.now) (held c.args.stack.now) (store_view c.args.stored.now) (store_view c.args.stored.now) c.args.host.now e c.requires.sound (done_nop (held c.args.stack.now) (store_view c.args.stored.now) (typed_as e c.requires.sound).room)

pub returns-in-Block-clause-executes : goal.returns-in-Block-clause-executes
returns-in-Block-clause-executes g c =
    arm_ran (program_of c.args.linked.now) g.H.Host.answers (base_of c.args.linked.now) (block c.in-Block.kind (instrs_view c.in-Block.body)) (instr_view c.args.instr.now) (ops_at c.args.here) (instrs_view c.in-Block.body) _ (held c.args.stack.now) _ _ (store_view c.args.stored.now) (store_view c.args.stored.now) c.args.host.now c.args.host.now (ap instr_view c.in-Block.is ∙ view_block c.in-Block.kind c.in-Block.body) c.requires.sound (ran_block c.in-Block.kind (instrs_view c.in-Block.body) (ops_at c.args.here) (held c.args.stack.now) (store_view c.args.stored.now) c.args.host.now) c.enter_block.ensures.inside c.enter_block.ensures.opened

pub returns-in-Loop-clause-executes : goal.returns-in-Loop-clause-executes
returns-in-Loop-clause-executes g c =
    arm_ran (program_of c.args.linked.now) g.H.Host.answers (base_of c.args.linked.now) (loop c.in-Loop.field-0 (instrs_view c.in-Loop.body)) (instr_view c.args.instr.now) (ops_at c.args.here) (instrs_view c.in-Loop.body) _ (held c.args.stack.now) _ _ (store_view c.args.stored.now) (store_view c.args.stored.now) c.args.host.now c.args.host.now (ap instr_view c.in-Loop.is ∙ view_loop c.in-Loop.field-0 c.in-Loop.body) c.requires.sound (ran_loop c.in-Loop.field-0 (instrs_view c.in-Loop.body) (ops_at c.args.here) (held c.args.stack.now) (store_view c.args.stored.now) c.args.host.now) c.enter_loop.ensures.inside (c.enter_loop.ensures.opened ∙ ap (λ (z : Ops). opened 0 z (rest_of true c.args.again) (held c.args.stack.now)) (c.requires.again ∙ ap (λ (z : Op). next z (ops_at c.args.here)) (ap instr_view c.in-Loop.is ∙ view_loop c.in-Loop.field-0 c.in-Loop.body)) ∙ ap (λ (z : Ops). opened 0 (next (loop c.in-Loop.field-0 (instrs_view c.in-Loop.body)) (ops_at c.args.here)) z (held c.args.stack.now)) (sym c.requires.behind))

pub returns-in-Br-clause-executes : goal.returns-in-Br-clause-executes
returns-in-Br-clause-executes g c =
    arm_ran (program_of c.args.linked.now) g.H.Host.answers (base_of c.args.linked.now) (br c.in-Br.to) (instr_view c.args.instr.now) (ops_at c.args.here) _ _ (held c.args.stack.now) _ _ (store_view c.args.stored.now) (store_view c.args.stored.now) c.args.host.now c.args.host.now (ap instr_view c.in-Br.is ∙ view_br c.in-Br.to) c.requires.sound (λ sound. ran_br c.in-Br.to (ops_at c.args.here) (ops_at c.branch-stack.result) (held c.args.stack.now) (held c.branch-stack.new.self) (store_view c.args.stored.now) c.args.host.now sound c.branch-stack.ensures) refl refl

pub returns-in-BrTable-clause-executes : goal.returns-in-BrTable-clause-executes
returns-in-BrTable-clause-executes g c =
    arm_ran (program_of c.args.linked.now) g.H.Host.answers (base_of c.args.linked.now) (br_table c.in-BrTable.several c.in-BrTable.last) (instr_view c.args.instr.now) (ops_at c.args.here) _ _ (held c.args.stack.now) _ _ (store_view c.args.stored.now) (store_view c.args.stored.now) c.args.host.now c.args.host.now (ap instr_view c.in-BrTable.is ∙ view_br_table c.in-BrTable.several c.in-BrTable.last) c.requires.sound (λ sound. ran_br_table c.in-BrTable.several c.in-BrTable.last (ops_at c.args.here) (ops_at c.branch_by_index.result) (held c.args.stack.now) (held c.branch_by_index.new.stack) (store_view c.args.stored.now) c.args.host.now sound c.branch_by_index.ensures) refl refl

pub returns-in-Return-clause-executes : goal.returns-in-Return-clause-executes
returns-in-Return-clause-executes g c =
    arm_ran (program_of c.args.linked.now) g.H.Host.answers (base_of c.args.linked.now) return (instr_view c.args.instr.now) (ops_at c.args.here) _ _ (held c.args.stack.now) _ _ (store_view c.args.stored.now) (store_view c.args.stored.now) c.args.host.now c.args.host.now (ap instr_view c.in-Return.is ∙ view_return) c.requires.sound (λ sound. ran_return (ops_at c.args.here) (ops_at c.leave_function.result) (held c.args.stack.now) (held c.leave_function.new.stack) (store_view c.args.stored.now) c.args.host.now sound c.leave_function.ensures) refl refl

pub returns-in-If-clause-executes : goal.returns-in-If-clause-executes
returns-in-If-clause-executes g c =
    arm_ran (program_of c.args.linked.now) g.H.Host.answers (base_of c.args.linked.now) (if_else c.in-If.kind (instrs_view c.in-If.first) (instrs_view c.in-If.second)) (instr_view c.args.instr.now) (ops_at c.args.here) _ _ (held c.args.stack.now) _ _ (store_view c.args.stored.now) (store_view c.args.stored.now) c.args.host.now c.args.host.now (ap instr_view c.in-If.is ∙ view_if c.in-If.kind c.in-If.first c.in-If.second) c.requires.sound (λ sound. ran_choice c.in-If.kind (instrs_view c.in-If.first) (instrs_view c.in-If.second) (ops_at c.args.here) (ops_at c.enter_choice.result) (held c.args.stack.now) (held c.enter_choice.new.stack) (store_view c.args.stored.now) c.args.host.now sound c.enter_choice.ensures.inside c.enter_choice.ensures.opened) refl refl

pub returns-in-BrIf-clause-executes : goal.returns-in-BrIf-clause-executes
returns-in-BrIf-clause-executes g c =
    arm_ran (program_of c.args.linked.now) g.H.Host.answers (base_of c.args.linked.now) (br_if c.in-BrIf.to) (instr_view c.args.instr.now) (ops_at c.args.here) _ _ (held c.args.stack.now) _ _ (store_view c.args.stored.now) (store_view c.args.stored.now) c.args.host.now c.args.host.now (ap instr_view c.in-BrIf.is ∙ view_br_if c.in-BrIf.to) c.requires.sound (λ sound. ran_if_branch c.in-BrIf.to (ops_at c.args.here) (ops_at c.branch_if.result) (held c.args.stack.now) (held c.branch_if.new.stack) (store_view c.args.stored.now) c.args.host.now sound c.branch_if.ensures.taken c.branch_if.ensures.passed) refl refl

pub returns-in-Call-clause-executes : goal.returns-in-Call-clause-executes
returns-in-Call-clause-executes g c =
    arm_executes (program_of c.args.linked.now) g.H.Host.answers (base_of c.args.linked.now) (call c.in-Call.func) (instr_view c.args.instr.now) (ops_at c.args.here) (held c.args.stack.now) _ (store_view c.args.stored.now) _ c.args.host.now _ _ (ap instr_view c.in-Call.is ∙ view_call c.in-Call.func) c.requires.sound (λ sound.
    let on = call_on (running (ops_at c.args.here) (held c.args.stack.now)) (program_of c.args.linked.now) c.in-Call.func c.requires.typed sound.thread in
    ran_call (program_of c.args.linked.now) g.H.Host.answers (base_of c.args.linked.now) c.in-Call.func (ops_at c.args.here) on.0 (held c.args.stack.now) _ (store_view c.args.stored.now) _ c.args.host.now _ _ sound on.1 on.2 (c.call_function.ensures.runs on.0 (store_view c.args.stored.now) on.1 refl) (c.call_function.ensures.typed on.0 on.1))

pub returns-in-CallIndirect-clause-executes : goal.returns-in-CallIndirect-clause-executes
returns-in-CallIndirect-clause-executes g c =
    arm_executes (program_of c.args.linked.now) g.H.Host.answers (base_of c.args.linked.now) (call_indirect c.in-CallIndirect.index) (instr_view c.args.instr.now) (ops_at c.args.here) (held c.args.stack.now) _ (store_view c.args.stored.now) _ c.args.host.now _ _ (ap instr_view c.in-CallIndirect.is ∙ view_call_indirect c.in-CallIndirect.index) c.requires.sound (λ sound. c.call_by_index.ensures.runs (store_view c.args.stored.now) refl refl sound)

pub returns-in-Drop-clause-executes : goal.returns-in-Drop-clause-executes
returns-in-Drop-clause-executes g c =
    arm_done (program_of c.args.linked.now) g.H.Host.answers (base_of c.args.linked.now) drop_value (instr_view c.args.instr.now) (ops_at c.args.here) (held c.args.stack.now) _ (store_view c.args.stored.now) _ c.args.host.now (ap instr_view c.in-Drop.is ∙ view_drop_value) c.requires.sound (c.drop_value.ensures (store_view c.args.stored.now))

pub returns-in-Select-clause-executes : goal.returns-in-Select-clause-executes
returns-in-Select-clause-executes g c =
    arm_done (program_of c.args.linked.now) g.H.Host.answers (base_of c.args.linked.now) select (instr_view c.args.instr.now) (ops_at c.args.here) (held c.args.stack.now) _ (store_view c.args.stored.now) _ c.args.host.now (ap instr_view c.in-Select.is ∙ view_select) c.requires.sound (c.select.ensures (store_view c.args.stored.now))

pub returns-in-LocalSet-clause-executes : goal.returns-in-LocalSet-clause-executes
returns-in-LocalSet-clause-executes g c =
    arm_done (program_of c.args.linked.now) g.H.Host.answers (base_of c.args.linked.now) (local_set c.in-LocalSet.local) (instr_view c.args.instr.now) (ops_at c.args.here) (held c.args.stack.now) _ (store_view c.args.stored.now) _ c.args.host.now (ap instr_view c.in-LocalSet.is ∙ view_local_set c.in-LocalSet.local) c.requires.sound (c.local_set.ensures (store_view c.args.stored.now))

pub returns-in-LocalTee-clause-executes : goal.returns-in-LocalTee-clause-executes
returns-in-LocalTee-clause-executes g c =
    arm_done (program_of c.args.linked.now) g.H.Host.answers (base_of c.args.linked.now) (local_tee c.in-LocalTee.local) (instr_view c.args.instr.now) (ops_at c.args.here) (held c.args.stack.now) _ (store_view c.args.stored.now) _ c.args.host.now (ap instr_view c.in-LocalTee.is ∙ view_local_tee c.in-LocalTee.local) c.requires.sound (c.local_tee.ensures (store_view c.args.stored.now))

pub returns-in-GlobalSet-clause-executes : goal.returns-in-GlobalSet-clause-executes
returns-in-GlobalSet-clause-executes g c =
    arm_done (program_of c.args.linked.now) g.H.Host.answers (base_of c.args.linked.now) (global_set c.in-GlobalSet.global) (instr_view c.args.instr.now) (ops_at c.args.here) (held c.args.stack.now) _ (store_view c.args.stored.now) _ c.args.host.now (ap instr_view c.in-GlobalSet.is ∙ view_global_set c.in-GlobalSet.global) c.requires.sound (c.global_set.ensures (store_view c.args.stored.now) refl)

pub returns-in-MemoryGrow-clause-executes : goal.returns-in-MemoryGrow-clause-executes
returns-in-MemoryGrow-clause-executes g c =
    arm_done (program_of c.args.linked.now) g.H.Host.answers (base_of c.args.linked.now) memory_grow (instr_view c.args.instr.now) (ops_at c.args.here) (held c.args.stack.now) _ (store_view c.args.stored.now) _ c.args.host.now (ap instr_view c.in-MemoryGrow.is ∙ view_memory_grow) c.requires.sound (c.memory_grow.ensures (store_view c.args.stored.now) refl)

pub returns-in-LocalGet-clause-executes : goal.returns-in-LocalGet-clause-executes
returns-in-LocalGet-clause-executes g c =
    arm_onward (program_of c.args.linked.now) g.H.Host.answers (base_of c.args.linked.now) (local_get c.in-LocalGet.local) (instr_view c.args.instr.now) c.args.here (held c.args.stack.now) _ (store_view c.args.stored.now) _ c.args.host.now c.local_get.result c.onward.result (ap instr_view c.in-LocalGet.is ∙ view_local_get c.in-LocalGet.local) c.requires.sound (c.local_get.ensures (store_view c.args.stored.now)) c.onward.ensures

pub returns-in-GlobalGet-clause-executes : goal.returns-in-GlobalGet-clause-executes
returns-in-GlobalGet-clause-executes g c =
    arm_onward (program_of c.args.linked.now) g.H.Host.answers (base_of c.args.linked.now) (global_get c.in-GlobalGet.global) (instr_view c.args.instr.now) c.args.here (held c.args.stack.now) _ (store_view c.args.stored.now) _ c.args.host.now c.global_get.result c.onward-in-GlobalGet.result (ap instr_view c.in-GlobalGet.is ∙ view_global_get c.in-GlobalGet.global) c.requires.sound (c.global_get.ensures (store_view c.args.stored.now) refl) c.onward-in-GlobalGet.ensures

pub returns-in-Load-clause-executes : goal.returns-in-Load-clause-executes
returns-in-Load-clause-executes g c =
    arm_onward (program_of c.args.linked.now) g.H.Host.answers (base_of c.args.linked.now) (load c.in-Load.op c.in-Load.align c.in-Load.offset) (instr_view c.args.instr.now) c.args.here (held c.args.stack.now) _ (store_view c.args.stored.now) _ c.args.host.now c.load.result c.onward-in-Load.result (ap instr_view c.in-Load.is ∙ view_load c.in-Load.op c.in-Load.align c.in-Load.offset) c.requires.sound (c.load.ensures (store_view c.args.stored.now) refl) c.onward-in-Load.ensures

pub returns-in-Store-clause-executes : goal.returns-in-Store-clause-executes
returns-in-Store-clause-executes g c =
    arm_onward (program_of c.args.linked.now) g.H.Host.answers (base_of c.args.linked.now) (store c.in-Store.op c.in-Store.align c.in-Store.offset) (instr_view c.args.instr.now) c.args.here (held c.args.stack.now) _ (store_view c.args.stored.now) _ c.args.host.now c.store.result c.onward-in-Store.result (ap instr_view c.in-Store.is ∙ view_store c.in-Store.op c.in-Store.align c.in-Store.offset) c.requires.sound (c.store.ensures (store_view c.args.stored.now) refl) c.onward-in-Store.ensures

pub returns-in-MemorySize-clause-executes : goal.returns-in-MemorySize-clause-executes
returns-in-MemorySize-clause-executes g c =
    arm_onward (program_of c.args.linked.now) g.H.Host.answers (base_of c.args.linked.now) memory_size (instr_view c.args.instr.now) c.args.here (held c.args.stack.now) _ (store_view c.args.stored.now) _ c.args.host.now c.memory_size.result c.onward-in-MemorySize.result (ap instr_view c.in-MemorySize.is ∙ view_memory_size) c.requires.sound (c.memory_size.ensures (store_view c.args.stored.now) refl) c.onward-in-MemorySize.ensures

pub returns-in-I32Const-clause-executes : goal.returns-in-I32Const-clause-executes
returns-in-I32Const-clause-executes g c =
    let fits : SFits w32 c.in-I32Const.number = search rules in
    arm_onward (program_of c.args.linked.now) g.H.Host.answers (base_of c.args.linked.now) (i32_const (to_z w32 (of_z w32 c.in-I32Const.number))) (instr_view c.args.instr.now) c.args.here (held c.args.stack.now) _ (store_view c.args.stored.now) _ c.args.host.now c.i32_const.result c.onward-in-I32Const.result (ap instr_view c.in-I32Const.is ∙ view_i32_const c.in-I32Const.number ∙ ap i32_const (sym (to_z-of_z w32 c.in-I32Const.number fits))) c.requires.sound (c.i32_const.ensures (store_view c.args.stored.now)) c.onward-in-I32Const.ensures

pub returns-in-I64Const-clause-executes : goal.returns-in-I64Const-clause-executes
returns-in-I64Const-clause-executes g c =
    let fits : SFits w64 c.in-I64Const.number = search rules in
    arm_onward (program_of c.args.linked.now) g.H.Host.answers (base_of c.args.linked.now) (i64_const (to_z w64 (of_z w64 c.in-I64Const.number))) (instr_view c.args.instr.now) c.args.here (held c.args.stack.now) _ (store_view c.args.stored.now) _ c.args.host.now c.i64_const.result c.onward-in-I64Const.result (ap instr_view c.in-I64Const.is ∙ view_i64_const c.in-I64Const.number ∙ ap i64_const (sym (to_z-of_z w64 c.in-I64Const.number fits))) c.requires.sound (c.i64_const.ensures (store_view c.args.stored.now)) c.onward-in-I64Const.ensures

pub returns-in-Numeric-clause-executes : goal.returns-in-Numeric-clause-executes
returns-in-Numeric-clause-executes g c =
    arm_onward (program_of c.args.linked.now) g.H.Host.answers (base_of c.args.linked.now) (numeric c.in-Numeric.op) (instr_view c.args.instr.now) c.args.here (held c.args.stack.now) _ (store_view c.args.stored.now) _ c.args.host.now c.numeric.result c.onward-in-Numeric.result (ap instr_view c.in-Numeric.is ∙ view_numeric c.in-Numeric.op) c.requires.sound (c.numeric.ensures (store_view c.args.stored.now)) c.onward-in-Numeric.ensures

pub unreachable-requires : goal.unreachable-requires
unreachable-requires g c =
    absurd (no_float_memory (running (ops_at c.args.here) (held c.args.stack.now)) _ _ _ (typed_as (ap instr_view c.in-FloatMemory.is ∙ view_float_memory _ _ _) c.requires.sound))

pub unreachable-requires-in-FloatConst : goal.unreachable-requires-in-FloatConst
unreachable-requires-in-FloatConst g c =
    absurd (no_float_const (running (ops_at c.args.here) (held c.args.stack.now)) _ (typed_as (ap instr_view c.in-FloatConst.is ∙ view_float_const _) c.requires.sound))

pub unreachable-requires-in-FloatPlain : goal.unreachable-requires-in-FloatPlain
unreachable-requires-in-FloatPlain g c =
    absurd (no_float_plain (running (ops_at c.args.here) (held c.args.stack.now)) _ (typed_as (ap instr_view c.in-FloatPlain.is ∙ view_float_plain _) c.requires.sound))
