use Rattle.std.proofs.Common.{rules, arith, ◌≡◌, refl, [], ◌∷◌, ap, sym, ◌∙◌, ◌≤◌, drop}
use Rattle.std.proofs.lemmas.Result.{IfOk-weaker}
use Rattle.wasm_values.specs.Syntax.{nesting, ops_nesting, i32_const, i64_const}
use Rattle.wasm_values.specs.View.{instr_view, items_view, instrs_view}
use Rattle.wasm_values.specs.declared.types.ValType.TheVariants.{I32, I64}
use Rattle.wasm_values.proofs.Views.{view_br_if, view_call, view_call_indirect, view_global_get, view_global_set, view_load, view_local_get, view_local_set, view_local_tee, view_memory_grow, view_memory_size, view_numeric, view_select, view_store, view_instrs, view_unreachable, view_nop, view_i32_const, view_i64_const, view_drop_value, view_return, view_block, view_loop, view_if, view_br, view_br_table, view_float_memory, view_float_const, view_float_plain}
use Rattle.wasm_typing.specs.Typing.{i32_const_typed, i64_const_typed}
use Rattle.wasm_typing.proofs.Images.{only_none, never}
use Rattle.wasm_typing.proofs.Instructions.{only_i32_const, only_i64_const, only_if, nop_image, unreachable_image, no_float_memory, no_float_const, no_float_plain}
use Rattle.wasm_typing.proofs.Seen.{checks_seen, image_seen, none_seen, applied, block_image, loop_image, block_none, loop_none, if_image, if_none_1, if_none_2, list_more, list_stop, list_end, nesting_at, body_yes, body_no, body_stops, left_as_before, whatever}
use Rattle.wasm_typing.proofs.check.+check.Goals as goal

pub list-loop-at-preserved : goal.list-loop-at-preserved
list-loop-at-preserved t c =
    let i = c.loop-at.invariant in
    let image = rw c.if-not-branch.false at c.in_ok-instr.ensures.typed in
    record {
      labels = c.in_ok-instr.ensures.labels c.if-not-branch.false ∙ i.labels;
      onward = list_more c.as_slice-items.result.now c.loop-at.at c.index-items-at.result c.index-items-at.is (omega (arith, c.loop-at-test.true)) i.labels i.onward image;
    }

pub list-returns-then-not-branch-clause-typed : goal.list-returns-then-not-branch-clause-typed
list-returns-then-not-branch-clause-typed t c =
    let i = c.loop-at.invariant in
    let none = rw c.if-not-branch.true at c.in_ok-instr.ensures.typed in
    rw (view_instrs, ← c.as_slice-items.ensures) (list_stop c.as_slice-items.result.now c.loop-at.at c.index-items-at.result c.index-items-at.is (omega (arith, c.loop-at-test.true)) i.labels i.onward none)

pub list-instr-requires : goal.list-instr-requires
list-instr-requires t c =
    let low : nesting (instr_view c.index-items-at.result) ≤ ops_nesting (items_view c.as_slice-items.result.now) = nesting_at c.as_slice-items.result.now c.loop-at.at c.index-items-at.result c.index-items-at.is (omega (arith, c.loop-at-test.true)) in
    let h = c.decreases in
    let same : ops_nesting (instrs_view c.args.instrs.now) ≡ ops_nesting (items_view c.as_slice-items.result.now) = ap ops_nesting (view_instrs c.args.instrs.now ∙ ap items_view (sym c.as_slice-items.ensures)) in
    (omega (arith, low, same, h), tt)

pub list-returns-clause-typed : goal.list-returns-clause-typed
list-returns-clause-typed t c = rw (view_instrs, ← c.as_slice-items.ensures) (list_end c.as_slice-items.result.now c.loop-at.at (search rules) c.loop-at.invariant.onward)

pub instr-returns-in-Unreachable-clause-typed : goal.instr-returns-in-Unreachable-clause-typed
instr-returns-in-Unreachable-clause-typed t c = image_seen (ap instr_view c.in-Unreachable.is ∙ view_unreachable) (unreachable_image c.set_open.ensures)

pub instr-returns-in-Nop-clause-typed : goal.instr-returns-in-Nop-clause-typed
instr-returns-in-Nop-clause-typed t c = image_seen (ap instr_view c.in-Nop.is ∙ view_nop) (nop_image _)

pub instr-returns-in-I32Const-clause-typed : goal.instr-returns-in-I32Const-clause-typed
instr-returns-in-I32Const-clause-typed t c = applied _ _ _ _ (i32_const c.in-I32Const.field-0) [] (I32 ∷ []) _ _ (ap instr_view c.in-I32Const.is ∙ view_i32_const c.in-I32Const.field-0) i32_const_typed only_i32_const c.apply.ensures

pub instr-returns-in-I64Const-clause-typed : goal.instr-returns-in-I64Const-clause-typed
instr-returns-in-I64Const-clause-typed t c = applied _ _ _ _ (i64_const c.in-I64Const.field-0) [] (I64 ∷ []) _ _ (ap instr_view c.in-I64Const.is ∙ view_i64_const c.in-I64Const.field-0) i64_const_typed only_i64_const c.apply-in-I64Const.ensures

pub instr-returns-in-Drop-clause-typed : goal.instr-returns-in-Drop-clause-typed
instr-returns-in-Drop-clause-typed t c = checks_seen _ _ _ _ _ _ _ (ap instr_view c.in-Drop.is ∙ view_drop_value) (c.drop_one.ensures _ _)

pub instr-returns-in-Return-clause-typed : goal.instr-returns-in-Return-clause-typed
instr-returns-in-Return-clause-typed t c = checks_seen _ _ _ _ _ _ _ (ap instr_view c.in-Return.is ∙ view_return) (c.leave_function.ensures _)

pub instr-returns-then-not-branch-clause-typed : goal.instr-returns-then-not-branch-clause-typed
instr-returns-then-not-branch-clause-typed t c = none_seen (ap instr_view c.in-Block.is ∙ view_block c.in-Block.kind c.in-Block.body) (block_none _ (rw c.if-not-branch.true at c.in_ok-nested-in-Block.ensures))

pub instr-returns-in_ok-push_kind-in-Block-clause-typed : goal.instr-returns-in_ok-push_kind-in-Block-clause-typed
instr-returns-in_ok-push_kind-in-Block-clause-typed t c =
    let b = rw c.if-not-branch.false at c.in_ok-nested-in-Block.ensures in
    image_seen (ap instr_view c.in-Block.is ∙ view_block c.in-Block.kind c.in-Block.body) (block_image b.0 b.2 c.in_ok-push_kind-in-Block.ensures)

pub instr-returns-then-not-branch-2-clause-typed : goal.instr-returns-then-not-branch-2-clause-typed
instr-returns-then-not-branch-2-clause-typed t c = none_seen (ap instr_view c.in-Loop.is ∙ view_loop c.in-Loop.kind c.in-Loop.body) (loop_none _ (rw c.if-not-branch-2.true at c.in_ok-nested-in-Loop.ensures))

pub instr-returns-in_ok-push_kind-in-Loop-clause-typed : goal.instr-returns-in_ok-push_kind-in-Loop-clause-typed
instr-returns-in_ok-push_kind-in-Loop-clause-typed t c =
    let b = rw c.if-not-branch-2.false at c.in_ok-nested-in-Loop.ensures in
    image_seen (ap instr_view c.in-Loop.is ∙ view_loop c.in-Loop.kind c.in-Loop.body) (loop_image b.0 b.2 c.in_ok-push_kind-in-Loop.ensures)

pub instr-returns-in_ok-push_kind-in-If-clause-typed : goal.instr-returns-in_ok-push_kind-in-If-clause-typed
instr-returns-in_ok-push_kind-in-If-clause-typed t c =
    let a = rw c.if-not-branch-3.false at c.in_ok-nested-in-If.ensures in
    let b = rw c.if-not-branch-4.false at c.in_ok-nested-in-If-2.ensures in
    image_seen (ap instr_view c.in-If.is ∙ view_if c.in-If.kind c.in-If.first c.in-If.second) (if_image c.if-not-pop_types.ensures a.0 a.1 a.2 b.0 b.2 c.in_ok-push_kind-in-If.ensures)

pub instr-returns-then-not-pop_types-clause-typed : goal.instr-returns-then-not-pop_types-clause-typed
instr-returns-then-not-pop_types-clause-typed t c = none_seen (ap instr_view c.in-If.is ∙ view_if c.in-If.kind c.in-If.first c.in-If.second) (only_none only_if c.if-not-pop_types.ensures)

pub instr-returns-then-not-branch-3-clause-typed : goal.instr-returns-then-not-branch-3-clause-typed
instr-returns-then-not-branch-3-clause-typed t c = none_seen (ap instr_view c.in-If.is ∙ view_if c.in-If.kind c.in-If.first c.in-If.second) (if_none_1 _ (rw c.if-not-branch-3.true at c.in_ok-nested-in-If.ensures))

pub instr-returns-then-not-branch-4-clause-typed : goal.instr-returns-then-not-branch-4-clause-typed
instr-returns-then-not-branch-4-clause-typed t c =
    let a = rw c.if-not-branch-3.false at c.in_ok-nested-in-If.ensures in
    none_seen (ap instr_view c.in-If.is ∙ view_if c.in-If.kind c.in-If.first c.in-If.second) (if_none_2 _ a.1 (rw c.if-not-branch-4.true at c.in_ok-nested-in-If-2.ensures))

pub nested-returns : goal.nested-returns
nested-returns t c =
    let r = rw c.if-not-branch.false at c.in_ok-list.ensures.typed in
    let e = c.if-not-ends.ensures in
    let now = c.args.operands.now in (
      body_yes c.in_ok-push.ensures c.enter-outer.ensures.inside r e.0,
      c.pop.ensures ∙ ap (λ z. drop 1 z) (c.in_ok-list.ensures.labels c.if-not-branch.false ∙ c.in_ok-push.ensures),
      left_as_before now c.leave.new.self c.enter-outer.result.is_open (c.leave.ensures now.1 now.2 (ap (λ z. z.1) e.1) (ap (λ z. z.2) e.1 ∙ r.kept ∙ ap (λ z. z.2) c.enter-outer.ensures.inside) c.enter-outer.ensures.outer.0) c.enter-outer.ensures.outer.1,
    )

pub nested-returns-then-not-ends : goal.nested-returns-then-not-ends
nested-returns-then-not-ends t c = body_no c.in_ok-push.ensures c.enter-outer.ensures.inside (rw c.if-not-branch.false at c.in_ok-list.ensures.typed) c.if-not-ends.ensures

pub nested-returns-then-not-branch : goal.nested-returns-then-not-branch
nested-returns-then-not-branch t c = body_stops c.in_ok-push.ensures c.enter-outer.ensures.inside (rw c.if-not-branch.true at c.in_ok-list.ensures.typed)

pub instr-returns-in-Br-clause-typed : goal.instr-returns-in-Br-clause-typed
instr-returns-in-Br-clause-typed t c = checks_seen _ _ _ _ _ _ _ (ap instr_view c.in-Br.is ∙ view_br c.in-Br.label) (c.br.ensures _)

pub instr-returns-in-BrTable-clause-typed : goal.instr-returns-in-BrTable-clause-typed
instr-returns-in-BrTable-clause-typed t c = checks_seen _ _ _ _ _ _ _ (ap instr_view c.in-BrTable.is ∙ view_br_table c.in-BrTable.several c.in-BrTable.last) (rw c.as_slice.ensures at c.br_table.ensures _)

pub instr-returns-in-FloatMemory-clause-typed : goal.instr-returns-in-FloatMemory-clause-typed
instr-returns-in-FloatMemory-clause-typed t c = none_seen (ap instr_view c.in-FloatMemory.is ∙ view_float_memory _ _ _) (never _ no_float_memory)

pub instr-returns-in-FloatConst-clause-typed : goal.instr-returns-in-FloatConst-clause-typed
instr-returns-in-FloatConst-clause-typed t c = none_seen (ap instr_view c.in-FloatConst.is ∙ view_float_const _) (never _ no_float_const)

pub instr-returns-in-FloatPlain-clause-typed : goal.instr-returns-in-FloatPlain-clause-typed
instr-returns-in-FloatPlain-clause-typed t c = none_seen (ap instr_view c.in-FloatPlain.is ∙ view_float_plain _) (never _ no_float_plain)

pub instr-returns-in-BrIf-clause-typed : goal.instr-returns-in-BrIf-clause-typed
instr-returns-in-BrIf-clause-typed t c = IfOk-weaker c.br_if.result _ _ (λ b h. checks_seen _ _ _ _ _ _ b (ap instr_view c.in-BrIf.is ∙ view_br_if _) (h _)) c.br_if.ensures

pub instr-returns-in-BrIf-clause-labels : goal.instr-returns-in-BrIf-clause-labels
instr-returns-in-BrIf-clause-labels t c = whatever c.br_if.result (λ b yes. refl)

pub instr-returns-in-Call-clause-typed : goal.instr-returns-in-Call-clause-typed
instr-returns-in-Call-clause-typed t c = IfOk-weaker c.call.result _ _ (λ b h. checks_seen _ _ _ _ _ _ b (ap instr_view c.in-Call.is ∙ view_call _) (h _)) c.call.ensures

pub instr-returns-in-Call-clause-labels : goal.instr-returns-in-Call-clause-labels
instr-returns-in-Call-clause-labels t c = whatever c.call.result (λ b yes. refl)

pub instr-returns-in-CallIndirect-clause-typed : goal.instr-returns-in-CallIndirect-clause-typed
instr-returns-in-CallIndirect-clause-typed t c = IfOk-weaker c.call_indirect.result _ _ (λ b h. checks_seen _ _ _ _ _ _ b (ap instr_view c.in-CallIndirect.is ∙ view_call_indirect _) (h _)) c.call_indirect.ensures

pub instr-returns-in-CallIndirect-clause-labels : goal.instr-returns-in-CallIndirect-clause-labels
instr-returns-in-CallIndirect-clause-labels t c = whatever c.call_indirect.result (λ b yes. refl)

pub instr-returns-in-Select-clause-typed : goal.instr-returns-in-Select-clause-typed
instr-returns-in-Select-clause-typed t c = IfOk-weaker c.select.result _ _ (λ b h. checks_seen _ _ _ _ _ _ b (ap instr_view c.in-Select.is ∙ view_select) (h _ _)) c.select.ensures

pub instr-returns-in-Select-clause-labels : goal.instr-returns-in-Select-clause-labels
instr-returns-in-Select-clause-labels t c = whatever c.select.result (λ b yes. refl)

pub instr-returns-in-LocalGet-clause-typed : goal.instr-returns-in-LocalGet-clause-typed
instr-returns-in-LocalGet-clause-typed t c = IfOk-weaker c.local_get.result _ _ (λ b h. checks_seen _ _ _ _ _ _ b (ap instr_view c.in-LocalGet.is ∙ view_local_get _) (h _)) c.local_get.ensures

pub instr-returns-in-LocalGet-clause-labels : goal.instr-returns-in-LocalGet-clause-labels
instr-returns-in-LocalGet-clause-labels t c = whatever c.local_get.result (λ b yes. refl)

pub instr-returns-in-LocalSet-clause-typed : goal.instr-returns-in-LocalSet-clause-typed
instr-returns-in-LocalSet-clause-typed t c = IfOk-weaker c.local_set.result _ _ (λ b h. checks_seen _ _ _ _ _ _ b (ap instr_view c.in-LocalSet.is ∙ view_local_set _) (h _)) c.local_set.ensures

pub instr-returns-in-LocalSet-clause-labels : goal.instr-returns-in-LocalSet-clause-labels
instr-returns-in-LocalSet-clause-labels t c = whatever c.local_set.result (λ b yes. refl)

pub instr-returns-in-LocalTee-clause-typed : goal.instr-returns-in-LocalTee-clause-typed
instr-returns-in-LocalTee-clause-typed t c = IfOk-weaker c.local_tee.result _ _ (λ b h. checks_seen _ _ _ _ _ _ b (ap instr_view c.in-LocalTee.is ∙ view_local_tee _) (h _)) c.local_tee.ensures

pub instr-returns-in-LocalTee-clause-labels : goal.instr-returns-in-LocalTee-clause-labels
instr-returns-in-LocalTee-clause-labels t c = whatever c.local_tee.result (λ b yes. refl)

pub instr-returns-in-GlobalGet-clause-typed : goal.instr-returns-in-GlobalGet-clause-typed
instr-returns-in-GlobalGet-clause-typed t c = IfOk-weaker c.global_get.result _ _ (λ b h. checks_seen _ _ _ _ _ _ b (ap instr_view c.in-GlobalGet.is ∙ view_global_get _) (h _)) c.global_get.ensures

pub instr-returns-in-GlobalGet-clause-labels : goal.instr-returns-in-GlobalGet-clause-labels
instr-returns-in-GlobalGet-clause-labels t c = whatever c.global_get.result (λ b yes. refl)

pub instr-returns-in-GlobalSet-clause-typed : goal.instr-returns-in-GlobalSet-clause-typed
instr-returns-in-GlobalSet-clause-typed t c = IfOk-weaker c.global_set.result _ _ (λ b h. checks_seen _ _ _ _ _ _ b (ap instr_view c.in-GlobalSet.is ∙ view_global_set _) (h _)) c.global_set.ensures

pub instr-returns-in-GlobalSet-clause-labels : goal.instr-returns-in-GlobalSet-clause-labels
instr-returns-in-GlobalSet-clause-labels t c = whatever c.global_set.result (λ b yes. refl)

pub instr-returns-in-Load-clause-typed : goal.instr-returns-in-Load-clause-typed
instr-returns-in-Load-clause-typed t c = IfOk-weaker c.load.result _ _ (λ b h. checks_seen _ _ _ _ _ _ b (ap instr_view c.in-Load.is ∙ view_load _ _ _) (h _ _)) c.load.ensures

pub instr-returns-in-Load-clause-labels : goal.instr-returns-in-Load-clause-labels
instr-returns-in-Load-clause-labels t c = whatever c.load.result (λ b yes. refl)

pub instr-returns-in-Store-clause-typed : goal.instr-returns-in-Store-clause-typed
instr-returns-in-Store-clause-typed t c = IfOk-weaker c.store.result _ _ (λ b h. checks_seen _ _ _ _ _ _ b (ap instr_view c.in-Store.is ∙ view_store _ _ _) (h _ _)) c.store.ensures

pub instr-returns-in-Store-clause-labels : goal.instr-returns-in-Store-clause-labels
instr-returns-in-Store-clause-labels t c = whatever c.store.result (λ b yes. refl)

pub instr-returns-in-MemorySize-clause-typed : goal.instr-returns-in-MemorySize-clause-typed
instr-returns-in-MemorySize-clause-typed t c = IfOk-weaker c.memory_size.result _ _ (λ b h. checks_seen _ _ _ _ _ _ b (ap instr_view c.in-MemorySize.is ∙ view_memory_size) (h _)) c.memory_size.ensures

pub instr-returns-in-MemorySize-clause-labels : goal.instr-returns-in-MemorySize-clause-labels
instr-returns-in-MemorySize-clause-labels t c = whatever c.memory_size.result (λ b yes. refl)

pub instr-returns-in-MemoryGrow-clause-typed : goal.instr-returns-in-MemoryGrow-clause-typed
instr-returns-in-MemoryGrow-clause-typed t c = IfOk-weaker c.memory_grow.result _ _ (λ b h. checks_seen _ _ _ _ _ _ b (ap instr_view c.in-MemoryGrow.is ∙ view_memory_grow) (h _)) c.memory_grow.ensures

pub instr-returns-in-MemoryGrow-clause-labels : goal.instr-returns-in-MemoryGrow-clause-labels
instr-returns-in-MemoryGrow-clause-labels t c = whatever c.memory_grow.result (λ b yes. refl)

pub instr-returns-in-Numeric-clause-typed : goal.instr-returns-in-Numeric-clause-typed
instr-returns-in-Numeric-clause-typed t c = IfOk-weaker c.numeric.result _ _ (λ b h. checks_seen _ _ _ _ _ _ b (ap instr_view c.in-Numeric.is ∙ view_numeric _) (h _ _)) c.numeric.ensures

pub instr-returns-in-Numeric-clause-labels : goal.instr-returns-in-Numeric-clause-labels
instr-returns-in-Numeric-clause-labels t c = whatever c.numeric.result (λ b yes. refl)

pub instr-returns-in-I32Const-clause-labels : goal.instr-returns-in-I32Const-clause-labels
instr-returns-in-I32Const-clause-labels t c = whatever c.apply.result (λ b yes. refl)

pub instr-returns-in-I64Const-clause-labels : goal.instr-returns-in-I64Const-clause-labels
instr-returns-in-I64Const-clause-labels t c = whatever c.apply-in-I64Const.result (λ b yes. refl)
