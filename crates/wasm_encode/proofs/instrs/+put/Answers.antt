use Rattle.std.proofs.Common.{◌≡◌, ◌+◌, suc, map, take, ap, ◌∙◌, refl, arith}
use Rattle.std.proofs.lemmas.List.{take_all}
use Rattle.std.proofs.lemmas.Result.{on_ok_weaker}
use Rattle.wasm_values.specs.View.{instr_view, instrs_view}
use Rattle.wasm_values.specs.Spelling.{SpellsU32, SpellsMark, SpellsEach}
use Rattle.wasm_values.specs.Syntax.{block, loop, if_else}
use Rattle.wasm_values.specs.Instructions.{SpellsOp}
use Rattle.wasm_encode.specs.inner.Gains.{IsSpelled}
use Rattle.wasm_encode.proofs.Heights.{op_height, ops_height, item_height}
use Rattle.wasm_values.proofs.Views.{view_unreachable, view_nop, view_return, view_drop_value, view_select, view_memory_size, view_memory_grow, view_br, view_br_if, view_call, view_call_indirect, view_local_get, view_local_set, view_local_tee, view_global_get, view_global_set, view_numeric, view_float_plain, view_load, view_store, view_float_memory, view_block, view_loop, view_if}
use Rattle.wasm_encode.proofs.Shortest.{gains_then, gains_mark, gains_none, gains_item, item_spelled}
use Rattle.wasm_encode.proofs.Tagged.{gains_tagged}
use Rattle.wasm_encode.proofs.Ops.{unreachable_tagged, nop_tagged, return_tagged, drop_tagged, select_tagged, br_tagged, br_if_tagged, call_tagged, call_indirect_tagged, local_get_tagged, local_set_tagged, local_tee_tagged, global_get_tagged, global_set_tagged, memory_size_tagged, memory_grow_tagged, block_tagged, loop_tagged}
use Rattle.wasm_encode.proofs.Blocks.{instrs_spelled, gains_instrs, nest_spelled, gains_nest, if_spelled, first_branch, second_branch, gains_if_one, gains_if_both, gains_opcode, gains_load, gains_store, gains_float_memory, gains_numeric, gains_float_plain}
use Rattle.wasm_encode.proofs.instrs.+put.Goals as goal
use Rattle.wasm_encode.proofs.instrs.+put.Goals.{put_instr-then-len-gt0+in_ok-put_plain-in-If+in_ok-put_instrs-in-If-2, put_instr-else-len-gt0}

pub put_instr-returns-in-Unreachable : goal.put_instr-returns-in-Unreachable
put_instr-returns-in-Unreachable t c = on_ok_weaker c.put_plain.result (λ e. gains_opcode unreachable_tagged (instr_view c.args.instr.now) c.args.out.now.items c.put_plain.new.out.items (ap instr_view c.in-Unreachable.is ∙ view_unreachable) e) c.put_plain.ensures

pub put_instr-returns-in-Nop : goal.put_instr-returns-in-Nop
put_instr-returns-in-Nop t c = on_ok_weaker c.put_plain-in-Nop.result (λ e. gains_opcode nop_tagged (instr_view c.args.instr.now) c.args.out.now.items c.put_plain-in-Nop.new.out.items (ap instr_view c.in-Nop.is ∙ view_nop) e) c.put_plain-in-Nop.ensures

pub put_instr-returns-in-Return : goal.put_instr-returns-in-Return
put_instr-returns-in-Return t c = on_ok_weaker c.put_plain-in-Return.result (λ e. gains_opcode return_tagged (instr_view c.args.instr.now) c.args.out.now.items c.put_plain-in-Return.new.out.items (ap instr_view c.in-Return.is ∙ view_return) e) c.put_plain-in-Return.ensures

pub put_instr-returns-in-Drop : goal.put_instr-returns-in-Drop
put_instr-returns-in-Drop t c = on_ok_weaker c.put_plain-in-Drop.result (λ e. gains_opcode drop_tagged (instr_view c.args.instr.now) c.args.out.now.items c.put_plain-in-Drop.new.out.items (ap instr_view c.in-Drop.is ∙ view_drop_value) e) c.put_plain-in-Drop.ensures

pub put_instr-returns-in-Select : goal.put_instr-returns-in-Select
put_instr-returns-in-Select t c = on_ok_weaker c.put_plain-in-Select.result (λ e. gains_opcode select_tagged (instr_view c.args.instr.now) c.args.out.now.items c.put_plain-in-Select.new.out.items (ap instr_view c.in-Select.is ∙ view_select) e) c.put_plain-in-Select.ensures

pub put_instr-returns-in-Br : goal.put_instr-returns-in-Br
put_instr-returns-in-Br t c = on_ok_weaker c.put_index.result (λ index. gains_tagged br_tagged c.in-Br.label (instr_view c.args.instr.now) c.args.out.now.items _ c.put_index.new.out.items (ap instr_view c.in-Br.is ∙ view_br c.in-Br.label) refl index) c.put_index.ensures

pub put_instr-returns-in-BrIf : goal.put_instr-returns-in-BrIf
put_instr-returns-in-BrIf t c = on_ok_weaker c.put_index-in-BrIf.result (λ index. gains_tagged br_if_tagged c.in-BrIf.label (instr_view c.args.instr.now) c.args.out.now.items _ c.put_index-in-BrIf.new.out.items (ap instr_view c.in-BrIf.is ∙ view_br_if c.in-BrIf.label) refl index) c.put_index-in-BrIf.ensures

pub put_instr-returns-in-Call : goal.put_instr-returns-in-Call
put_instr-returns-in-Call t c = on_ok_weaker c.put_index-in-Call.result (λ index. gains_tagged call_tagged c.in-Call.func (instr_view c.args.instr.now) c.args.out.now.items _ c.put_index-in-Call.new.out.items (ap instr_view c.in-Call.is ∙ view_call c.in-Call.func) refl index) c.put_index-in-Call.ensures

pub put_instr-returns-in-LocalGet : goal.put_instr-returns-in-LocalGet
put_instr-returns-in-LocalGet t c = on_ok_weaker c.put_index-in-LocalGet.result (λ index. gains_tagged local_get_tagged c.in-LocalGet.local (instr_view c.args.instr.now) c.args.out.now.items _ c.put_index-in-LocalGet.new.out.items (ap instr_view c.in-LocalGet.is ∙ view_local_get c.in-LocalGet.local) refl index) c.put_index-in-LocalGet.ensures

pub put_instr-returns-in-LocalSet : goal.put_instr-returns-in-LocalSet
put_instr-returns-in-LocalSet t c = on_ok_weaker c.put_index-in-LocalSet.result (λ index. gains_tagged local_set_tagged c.in-LocalSet.local (instr_view c.args.instr.now) c.args.out.now.items _ c.put_index-in-LocalSet.new.out.items (ap instr_view c.in-LocalSet.is ∙ view_local_set c.in-LocalSet.local) refl index) c.put_index-in-LocalSet.ensures

pub put_instr-returns-in-LocalTee : goal.put_instr-returns-in-LocalTee
put_instr-returns-in-LocalTee t c = on_ok_weaker c.put_index-in-LocalTee.result (λ index. gains_tagged local_tee_tagged c.in-LocalTee.local (instr_view c.args.instr.now) c.args.out.now.items _ c.put_index-in-LocalTee.new.out.items (ap instr_view c.in-LocalTee.is ∙ view_local_tee c.in-LocalTee.local) refl index) c.put_index-in-LocalTee.ensures

pub put_instr-returns-in-GlobalGet : goal.put_instr-returns-in-GlobalGet
put_instr-returns-in-GlobalGet t c = on_ok_weaker c.put_index-in-GlobalGet.result (λ index. gains_tagged global_get_tagged c.in-GlobalGet.global (instr_view c.args.instr.now) c.args.out.now.items _ c.put_index-in-GlobalGet.new.out.items (ap instr_view c.in-GlobalGet.is ∙ view_global_get c.in-GlobalGet.global) refl index) c.put_index-in-GlobalGet.ensures

pub put_instr-returns-in-GlobalSet : goal.put_instr-returns-in-GlobalSet
put_instr-returns-in-GlobalSet t c = on_ok_weaker c.put_index-in-GlobalSet.result (λ index. gains_tagged global_set_tagged c.in-GlobalSet.global (instr_view c.args.instr.now) c.args.out.now.items _ c.put_index-in-GlobalSet.new.out.items (ap instr_view c.in-GlobalSet.is ∙ view_global_set c.in-GlobalSet.global) refl index) c.put_index-in-GlobalSet.ensures

pub put_instr-returns-in_ok-put_index-in-CallIndirect : goal.put_instr-returns-in_ok-put_index-in-CallIndirect
put_instr-returns-in_ok-put_index-in-CallIndirect t c = on_ok_weaker c.put_plain-in-CallIndirect.result (λ e. gains_tagged call_indirect_tagged (c.in-CallIndirect.kind, tt) (instr_view c.args.instr.now) c.args.out.now.items _ c.put_plain-in-CallIndirect.new.out.items (ap instr_view c.in-CallIndirect.is ∙ view_call_indirect c.in-CallIndirect.kind) refl (gains_then SpellsU32 (SpellsMark 0x00) c.in-CallIndirect.kind tt _ c.put_index-in-CallIndirect.new.out.items c.put_plain-in-CallIndirect.new.out.items c.in_ok-put_index-in-CallIndirect.ensures (gains_mark 0x00 c.put_index-in-CallIndirect.new.out.items c.put_plain-in-CallIndirect.new.out.items e))) c.put_plain-in-CallIndirect.ensures

pub put_instr-returns-in_ok-put_plain-in-MemorySize : goal.put_instr-returns-in_ok-put_plain-in-MemorySize
put_instr-returns-in_ok-put_plain-in-MemorySize t c = on_ok_weaker c.put_plain-in-MemorySize-2.result (λ e. gains_tagged memory_size_tagged tt (instr_view c.args.instr.now) c.args.out.now.items c.put_plain-in-MemorySize.new.out.items c.put_plain-in-MemorySize-2.new.out.items (ap instr_view c.in-MemorySize.is ∙ view_memory_size) c.in_ok-put_plain-in-MemorySize.ensures (gains_mark 0x00 c.put_plain-in-MemorySize.new.out.items c.put_plain-in-MemorySize-2.new.out.items e)) c.put_plain-in-MemorySize-2.ensures

pub put_instr-returns-in_ok-put_plain-in-MemoryGrow : goal.put_instr-returns-in_ok-put_plain-in-MemoryGrow
put_instr-returns-in_ok-put_plain-in-MemoryGrow t c = on_ok_weaker c.put_plain-in-MemoryGrow-2.result (λ e. gains_tagged memory_grow_tagged tt (instr_view c.args.instr.now) c.args.out.now.items c.put_plain-in-MemoryGrow.new.out.items c.put_plain-in-MemoryGrow-2.new.out.items (ap instr_view c.in-MemoryGrow.is ∙ view_memory_grow) c.in_ok-put_plain-in-MemoryGrow.ensures (gains_mark 0x00 c.put_plain-in-MemoryGrow.new.out.items c.put_plain-in-MemoryGrow-2.new.out.items e)) c.put_plain-in-MemoryGrow-2.ensures

pub put_instr-returns-in-Load : goal.put_instr-returns-in-Load
put_instr-returns-in-Load t c = on_ok_weaker c.put_memory.result (λ both. gains_load c.in-Load.op c.in-Load.align c.in-Load.offset (instr_view c.args.instr.now) c.args.out.now.items c.put_memory.new.out.items (ap instr_view c.in-Load.is ∙ view_load c.in-Load.op c.in-Load.align c.in-Load.offset) c.requires both) c.put_memory.ensures

pub put_instr-returns-in-Store : goal.put_instr-returns-in-Store
put_instr-returns-in-Store t c = on_ok_weaker c.put_memory-in-Store.result (λ both. gains_store c.in-Store.op c.in-Store.align c.in-Store.offset (instr_view c.args.instr.now) c.args.out.now.items c.put_memory-in-Store.new.out.items (ap instr_view c.in-Store.is ∙ view_store c.in-Store.op c.in-Store.align c.in-Store.offset) c.requires both) c.put_memory-in-Store.ensures

pub put_instr-returns-in-FloatMemory : goal.put_instr-returns-in-FloatMemory
put_instr-returns-in-FloatMemory t c = on_ok_weaker c.put_memory-in-FloatMemory.result (λ both. gains_float_memory c.in-FloatMemory.op c.in-FloatMemory.align c.in-FloatMemory.offset (instr_view c.args.instr.now) c.args.out.now.items c.put_memory-in-FloatMemory.new.out.items (ap instr_view c.in-FloatMemory.is ∙ view_float_memory c.in-FloatMemory.op c.in-FloatMemory.align c.in-FloatMemory.offset) c.requires both) c.put_memory-in-FloatMemory.ensures

pub put_instr-returns-in-Numeric : goal.put_instr-returns-in-Numeric
put_instr-returns-in-Numeric t c = on_ok_weaker c.put_plain-in-Numeric.result (λ e. gains_numeric c.in-Numeric.op (instr_view c.args.instr.now) c.args.out.now.items c.put_plain-in-Numeric.new.out.items (ap instr_view c.in-Numeric.is ∙ view_numeric c.in-Numeric.op) c.requires e) c.put_plain-in-Numeric.ensures

pub put_instr-returns-in-FloatPlain : goal.put_instr-returns-in-FloatPlain
put_instr-returns-in-FloatPlain t c = on_ok_weaker c.put_plain-in-FloatPlain.result (λ e. gains_float_plain c.in-FloatPlain.op (instr_view c.args.instr.now) c.args.out.now.items c.put_plain-in-FloatPlain.new.out.items (ap instr_view c.in-FloatPlain.is ∙ view_float_plain c.in-FloatPlain.op) c.requires e) c.put_plain-in-FloatPlain.ensures

pub put_instr-put_instrs-requires : goal.put_instr-put_instrs-requires
put_instr-put_instrs-requires t c =
    let body = instrs_view c.in-Block.body in
    let view : instr_view c.args.instr.now ≡ block c.in-Block.kind body = ap instr_view c.in-Block.is ∙ view_block c.in-Block.kind c.in-Block.body in
    let height : op_height (instr_view c.args.instr.now) ≡ suc (ops_height body) = ap op_height view in
    (omega (arith, height), nest_spelled block_tagged c.in-Block.kind body (instr_view c.args.instr.now) view c.requires)

pub put_instr-put_instrs-requires-in-Loop : goal.put_instr-put_instrs-requires-in-Loop
put_instr-put_instrs-requires-in-Loop t c =
    let body = instrs_view c.in-Loop.body in
    let view : instr_view c.args.instr.now ≡ loop c.in-Loop.kind body = ap instr_view c.in-Loop.is ∙ view_loop c.in-Loop.kind c.in-Loop.body in
    let height : op_height (instr_view c.args.instr.now) ≡ suc (ops_height body) = ap op_height view in
    (omega (arith, height), nest_spelled loop_tagged c.in-Loop.kind body (instr_view c.args.instr.now) view c.requires)

pub put_instr-put_instrs-requires-in-If : goal.put_instr-put_instrs-requires-in-If
put_instr-put_instrs-requires-in-If t c =
    let first = instrs_view c.in-If.first in
    let second = instrs_view c.in-If.second in
    let view : instr_view c.args.instr.now ≡ if_else c.in-If.kind first second = ap instr_view c.in-If.is ∙ view_if c.in-If.kind c.in-If.first c.in-If.second in
    let height : op_height (instr_view c.args.instr.now) ≡ suc (ops_height first + ops_height second) = ap op_height view in
    (omega (arith, height), first_branch first second (if_spelled c.in-If.kind first second (instr_view c.args.instr.now) view c.requires))

pub put_instr-put_instrs-requires-then-len-gt0 : goal.put_instr-put_instrs-requires-then-len-gt0
put_instr-put_instrs-requires-then-len-gt0 t c =
    let first = instrs_view c.in-If.first in
    let second = instrs_view c.in-If.second in
    let view : instr_view c.args.instr.now ≡ if_else c.in-If.kind first second = ap instr_view c.in-If.is ∙ view_if c.in-If.kind c.in-If.first c.in-If.second in
    let height : op_height (instr_view c.args.instr.now) ≡ suc (ops_height first + ops_height second) = ap op_height view in
    (omega (arith, height), second_branch first second (if_spelled c.in-If.kind first second (instr_view c.args.instr.now) view c.requires))

pub put_instr-returns-in_ok-put_instrs-in-Block : goal.put_instr-returns-in_ok-put_instrs-in-Block
put_instr-returns-in_ok-put_instrs-in-Block t c = on_ok_weaker c.put_plain-in-Block.result (λ e. gains_nest block_tagged c.in-Block.kind (instrs_view c.in-Block.body) (instr_view c.args.instr.now) c.args.out.now.items c.put_typed.new.out.items c.put_instrs.new.out.items c.put_plain-in-Block.new.out.items (ap instr_view c.in-Block.is ∙ view_block c.in-Block.kind c.in-Block.body) c.in_ok-put_typed-in-Block.ensures c.in_ok-put_instrs-in-Block.ensures e) c.put_plain-in-Block.ensures

pub put_instr-returns-in_ok-put_instrs-in-Loop : goal.put_instr-returns-in_ok-put_instrs-in-Loop
put_instr-returns-in_ok-put_instrs-in-Loop t c = on_ok_weaker c.put_plain-in-Loop.result (λ e. gains_nest loop_tagged c.in-Loop.kind (instrs_view c.in-Loop.body) (instr_view c.args.instr.now) c.args.out.now.items c.put_typed-in-Loop.new.out.items c.put_instrs-in-Loop.new.out.items c.put_plain-in-Loop.new.out.items (ap instr_view c.in-Loop.is ∙ view_loop c.in-Loop.kind c.in-Loop.body) c.in_ok-put_typed-in-Loop.ensures c.in_ok-put_instrs-in-Loop.ensures e) c.put_plain-in-Loop.ensures

pub put_instr-returns-after-len-gt0 : goal.put_instr-returns-after-len-gt0
put_instr-returns-after-len-gt0 t c =
    let first = instrs_view c.in-If.first in
    let view = ap instr_view c.in-If.is ∙ view_if c.in-If.kind c.in-If.first c.in-If.second in
    on_ok_weaker c.put_plain-in-If.result (λ e. elim c.if-len-gt0.branch [ put_instr-then-len-gt0+in_ok-put_plain-in-If+in_ok-put_instrs-in-If-2 w ↦ gains_if_both c.in-If.kind first c.in-If.second (instr_view c.args.instr.now) c.args.out.now.items c.put_typed-in-If.new.out.items c.put_instrs-in-If.new.out.items w.put_plain-then-len-gt0.new.out.items w.put_instrs-then-len-gt0.new.out.items c.put_plain-in-If.new.out.items view (omega (arith, w.if-len-gt0.true)) c.in_ok-put_typed-in-If.ensures c.in_ok-put_instrs-in-If.ensures w.in_ok-put_plain-in-If.ensures w.in_ok-put_instrs-in-If-2.ensures (rw w.out-is at e) | put_instr-else-len-gt0 w ↦ gains_if_one c.in-If.kind first c.in-If.second (instr_view c.args.instr.now) c.args.out.now.items c.put_typed-in-If.new.out.items c.put_instrs-in-If.new.out.items c.put_plain-in-If.new.out.items view (omega (arith, w.if-len-gt0.false)) c.in_ok-put_typed-in-If.ensures c.in_ok-put_instrs-in-If.ensures (rw w.out-is at e) ]) c.put_plain-in-If.ensures

pub put_instrs-loop-instr-init : goal.put_instrs-loop-instr-init
put_instrs-loop-instr-init t c = gains_none SpellsOp c.args.out.now.items

pub put_instrs-put_instr-requires : goal.put_instrs-put_instr-requires
put_instrs-put_instr-requires t c =
    let list = c.as_slice-instr-items.result.now in
    let height = item_height c.args.instrs.now list c.loop-instr.instr-index c.instr-item.result c.as_slice-instr-items.ensures c.loop-instr-test.true c.instr-item.is in
    let all : IsSpelled (SpellsEach SpellsOp) (map instr_view list) = rw c.as_slice-instr-items.ensures (instrs_spelled c.args.instrs.now c.requires) in
    (omega (arith, height), item_spelled SpellsOp instr_view list c.loop-instr.instr-index c.instr-item.result all c.loop-instr-test.true c.instr-item.is)

pub put_instrs-loop-instr-preserved : goal.put_instrs-loop-instr-preserved
put_instrs-loop-instr-preserved t c = gains_item SpellsOp instr_view c.as_slice-instr-items.result.now c.loop-instr.instr-index c.instr-item.result c.args.out.now.items c.loop-instr.out.items c.put_instr.new.out.items c.loop-instr-test.true c.instr-item.is c.loop-instr.invariant c.in_ok-put_instr.ensures

pub put_instrs-returns : goal.put_instrs-returns
put_instrs-returns t c =
    let list = c.as_slice-instr-items.result.now in
    let whole : take c.loop-instr.instr-index list ≡ list = take_all c.loop-instr.instr-index list (omega (arith, c.loop-instr-test.false)) in
    gains_instrs c.args.instrs.now c.args.out.now.items c.loop-instr.out.items (rw (whole, c.as_slice-instr-items.ensures) at c.loop-instr.invariant)
