-- What each variant of an instruction stands for.
use Rattle.std.proofs.Common.{◌≡◌, ℕ, ℤ, List, ap, sym, ◌∙◌, Option, w32, w64}
use Rattle.std.proofs.lemmas.Int.{to_z-of_z}
use mir.Val.{to_z, of_z}
use Rattle.std.proofs.Common.{SFits}
use Rattle.wasm_values.specs.Syntax.{Op, Ops, unreachable, nop, block, loop, if_else, br, br_if, br_table, return, call, call_indirect, drop_value, select, local_get, local_set, local_tee, global_get, global_set, load, store, memory_size, memory_grow, i32_const, i64_const, numeric, float_memory, float_const, float_plain}
use Rattle.wasm_values.specs.View.{instr_view, op_step, instrs_step, instrs_view, items_view}
use Rattle.wasm_values.specs.declared.types.ValType.{ValType}
use Rattle.wasm_values.specs.declared.instr.FloatBytes.{FloatBytes}
use Rattle.wasm_values.specs.declared.instr.Instr.TheOpen.{Instr-F}
use Rattle.wasm_values.specs.declared.instr.Instr.TheFolds.{fold-roll-Instr, fold_out-Instrs}
use Rattle.wasm_values.specs.declared.instr.Instr.TheVariants as code
use Rattle.wasm_values.specs.declared.instr.Instrs.{Instrs}

pub view_unreachable : instr_view code.Unreachable ≡ unreachable
view_unreachable = ap instr_view (sym code.rolls-Unreachable) ∙ fold-roll-Instr Op Ops op_step instrs_step Instr-F.Unreachable

pub view_nop : instr_view code.Nop ≡ nop
view_nop = ap instr_view (sym code.rolls-Nop) ∙ fold-roll-Instr Op Ops op_step instrs_step Instr-F.Nop

pub view_return : instr_view code.Return ≡ return
view_return = ap instr_view (sym code.rolls-Return) ∙ fold-roll-Instr Op Ops op_step instrs_step Instr-F.Return

pub view_drop_value : instr_view code.Drop ≡ drop_value
view_drop_value = ap instr_view (sym code.rolls-Drop) ∙ fold-roll-Instr Op Ops op_step instrs_step Instr-F.Drop

pub view_select : instr_view code.Select ≡ select
view_select = ap instr_view (sym code.rolls-Select) ∙ fold-roll-Instr Op Ops op_step instrs_step Instr-F.Select

pub view_memory_size : instr_view code.MemorySize ≡ memory_size
view_memory_size = ap instr_view (sym code.rolls-MemorySize) ∙ fold-roll-Instr Op Ops op_step instrs_step Instr-F.MemorySize

pub view_memory_grow : instr_view code.MemoryGrow ≡ memory_grow
view_memory_grow = ap instr_view (sym code.rolls-MemoryGrow) ∙ fold-roll-Instr Op Ops op_step instrs_step Instr-F.MemoryGrow

pub view_br : (n : ℕ) → instr_view (code.Br n) ≡ br n
view_br n = ap instr_view (sym (code.rolls-Br n)) ∙ fold-roll-Instr Op Ops op_step instrs_step (Instr-F.Br n)

pub view_br_if : (n : ℕ) → instr_view (code.BrIf n) ≡ br_if n
view_br_if n = ap instr_view (sym (code.rolls-BrIf n)) ∙ fold-roll-Instr Op Ops op_step instrs_step (Instr-F.BrIf n)

pub view_call : (n : ℕ) → instr_view (code.Call n) ≡ call n
view_call n = ap instr_view (sym (code.rolls-Call n)) ∙ fold-roll-Instr Op Ops op_step instrs_step (Instr-F.Call n)

pub view_call_indirect : (n : ℕ) → instr_view (code.CallIndirect n) ≡ call_indirect n
view_call_indirect n = ap instr_view (sym (code.rolls-CallIndirect n)) ∙ fold-roll-Instr Op Ops op_step instrs_step (Instr-F.CallIndirect n)

pub view_local_get : (n : ℕ) → instr_view (code.LocalGet n) ≡ local_get n
view_local_get n = ap instr_view (sym (code.rolls-LocalGet n)) ∙ fold-roll-Instr Op Ops op_step instrs_step (Instr-F.LocalGet n)

pub view_local_set : (n : ℕ) → instr_view (code.LocalSet n) ≡ local_set n
view_local_set n = ap instr_view (sym (code.rolls-LocalSet n)) ∙ fold-roll-Instr Op Ops op_step instrs_step (Instr-F.LocalSet n)

pub view_local_tee : (n : ℕ) → instr_view (code.LocalTee n) ≡ local_tee n
view_local_tee n = ap instr_view (sym (code.rolls-LocalTee n)) ∙ fold-roll-Instr Op Ops op_step instrs_step (Instr-F.LocalTee n)

pub view_global_get : (n : ℕ) → instr_view (code.GlobalGet n) ≡ global_get n
view_global_get n = ap instr_view (sym (code.rolls-GlobalGet n)) ∙ fold-roll-Instr Op Ops op_step instrs_step (Instr-F.GlobalGet n)

pub view_global_set : (n : ℕ) → instr_view (code.GlobalSet n) ≡ global_set n
view_global_set n = ap instr_view (sym (code.rolls-GlobalSet n)) ∙ fold-roll-Instr Op Ops op_step instrs_step (Instr-F.GlobalSet n)

pub view_numeric : (n : ℕ) → instr_view (code.Numeric n) ≡ numeric n
view_numeric n = ap instr_view (sym (code.rolls-Numeric n)) ∙ fold-roll-Instr Op Ops op_step instrs_step (Instr-F.Numeric n)

pub view_float_plain : (n : ℕ) → instr_view (code.FloatPlain n) ≡ float_plain n
view_float_plain n = ap instr_view (sym (code.rolls-FloatPlain n)) ∙ fold-roll-Instr Op Ops op_step instrs_step (Instr-F.FloatPlain n)

pub view_i32_const : (z : ℤ) → instr_view (code.I32Const z) ≡ i32_const z
view_i32_const z = ap instr_view (sym (code.rolls-I32Const z)) ∙ fold-roll-Instr Op Ops op_step instrs_step (Instr-F.I32Const z)

pub view_i64_const : (z : ℤ) → instr_view (code.I64Const z) ≡ i64_const z
view_i64_const z = ap instr_view (sym (code.rolls-I64Const z)) ∙ fold-roll-Instr Op Ops op_step instrs_step (Instr-F.I64Const z)

pub view_float_const : (b : FloatBytes) → instr_view (code.FloatConst b) ≡ float_const b
view_float_const b = ap instr_view (sym (code.rolls-FloatConst b)) ∙ fold-roll-Instr Op Ops op_step instrs_step (Instr-F.FloatConst b)

pub view_br_table : (ls : List ℕ) (n : ℕ) → instr_view (code.BrTable ls n) ≡ br_table ls n
view_br_table ls n = ap instr_view (sym (code.rolls-BrTable ls n)) ∙ fold-roll-Instr Op Ops op_step instrs_step (Instr-F.BrTable ls n)

pub view_load : (op : ℕ) (align : ℕ) (offset : ℕ) → instr_view (code.Load op align offset) ≡ load op align offset
view_load op align offset = ap instr_view (sym (code.rolls-Load op align offset)) ∙ fold-roll-Instr Op Ops op_step instrs_step (Instr-F.Load op align offset)

pub view_store : (op : ℕ) (align : ℕ) (offset : ℕ) → instr_view (code.Store op align offset) ≡ store op align offset
view_store op align offset = ap instr_view (sym (code.rolls-Store op align offset)) ∙ fold-roll-Instr Op Ops op_step instrs_step (Instr-F.Store op align offset)

pub view_float_memory : (op : ℕ) (align : ℕ) (offset : ℕ) → instr_view (code.FloatMemory op align offset) ≡ float_memory op align offset
view_float_memory op align offset = ap instr_view (sym (code.rolls-FloatMemory op align offset)) ∙ fold-roll-Instr Op Ops op_step instrs_step (Instr-F.FloatMemory op align offset)

pub view_block : (kind : Option ValType) (is : Instrs) → instr_view (code.Block kind is) ≡ block kind (instrs_view is)
view_block kind is = ap instr_view (sym (code.rolls-Block kind is)) ∙ fold-roll-Instr Op Ops op_step instrs_step (Instr-F.Block kind is)

pub view_loop : (kind : Option ValType) (is : Instrs) → instr_view (code.Loop kind is) ≡ loop kind (instrs_view is)
view_loop kind is = ap instr_view (sym (code.rolls-Loop kind is)) ∙ fold-roll-Instr Op Ops op_step instrs_step (Instr-F.Loop kind is)

pub view_if : (kind : Option ValType) (is js : Instrs) → instr_view (code.If kind is js) ≡ if_else kind (instrs_view is) (instrs_view js)
view_if kind is js = ap instr_view (sym (code.rolls-If kind is js)) ∙ fold-roll-Instr Op Ops op_step instrs_step (Instr-F.If kind is js)

-- a list of instructions stands for what each stands for
pub view_instrs : (is : Instrs) → instrs_view is ≡ items_view is.list
view_instrs is = fold_out-Instrs Op Ops op_step instrs_step is

-- signed constants are kept as their bits
pub view_signed_32 : (z : ℤ) → SFits w32 z → instr_view (code.I32Const (to_z w32 (of_z w32 z))) ≡ i32_const z
view_signed_32 z fits = ap (λ n. instr_view (code.I32Const n)) (to_z-of_z w32 z fits) ∙ view_i32_const z

pub view_signed_64 : (z : ℤ) → SFits w64 z → instr_view (code.I64Const (to_z w64 (of_z w64 z))) ≡ i64_const z
view_signed_64 z fits = ap (λ n. instr_view (code.I64Const n)) (to_z-of_z w64 z fits) ∙ view_i64_const z
