-- The instructions that a tree in the code stands for.
use Rattle.std.specs.Prelude.{List, [], ◌∷◌, map}
use Rattle.wasm_values.specs.Syntax.{Op, Ops, unreachable, nop, block, loop, if_else, br, br_if}
use Rattle.wasm_values.specs.Syntax.{br_table, return, call, call_indirect, drop_value, select}
use Rattle.wasm_values.specs.Syntax.{local_get, local_set, local_tee, global_get, global_set, load}
use Rattle.wasm_values.specs.Syntax.{store, memory_size, memory_grow, i32_const, i64_const, numeric}
use Rattle.wasm_values.specs.Syntax.{float_memory, float_const, float_plain, no_ops, next}
use Rattle.wasm_values.specs.declared.instr.Instr.{Instr}
use Rattle.wasm_values.specs.declared.instr.Instr.TheFolds.{fold-Instr, fold-Instrs}
use Rattle.wasm_values.specs.declared.instr.Instr.TheOpen.{Instr-F, Instrs-F}
use Rattle.wasm_values.specs.declared.instr.Instrs.{Instrs}

abbrev pub ops_of : List Op → Ops
ops_of [] = no_ops
ops_of (op ∷ ops) = next op (ops_of ops)

-- One level, with the instructions inside already seen.
abbrev pub op_step : Instr-F Op Ops → Op
op_step Instr-F.Unreachable = unreachable
op_step Instr-F.Nop = nop
op_step (Instr-F.Block kind ops) = block kind ops
op_step (Instr-F.Loop kind ops) = loop kind ops
op_step (Instr-F.If kind first second) = if_else kind first second
op_step (Instr-F.Br label) = br label
op_step (Instr-F.BrIf label) = br_if label
op_step (Instr-F.BrTable labels last) = br_table labels last
op_step Instr-F.Return = return
op_step (Instr-F.Call func) = call func
op_step (Instr-F.CallIndirect kind) = call_indirect kind
op_step Instr-F.Drop = drop_value
op_step Instr-F.Select = select
op_step (Instr-F.LocalGet local) = local_get local
op_step (Instr-F.LocalSet local) = local_set local
op_step (Instr-F.LocalTee local) = local_tee local
op_step (Instr-F.GlobalGet global) = global_get global
op_step (Instr-F.GlobalSet global) = global_set global
op_step (Instr-F.Load op align offset) = load op align offset
op_step (Instr-F.Store op align offset) = store op align offset
op_step Instr-F.MemorySize = memory_size
op_step Instr-F.MemoryGrow = memory_grow
op_step (Instr-F.I32Const number) = i32_const number
op_step (Instr-F.I64Const number) = i64_const number
op_step (Instr-F.Numeric op) = numeric op
op_step (Instr-F.FloatMemory op align offset) = float_memory op align offset
op_step (Instr-F.FloatConst bytes) = float_const bytes
op_step (Instr-F.FloatPlain op) = float_plain op

abbrev pub instrs_step : Instrs-F Op Ops → Ops
instrs_step instrs = ops_of instrs.list

-- The instruction that a value of `Instr` stands for.
abbrev pub instr_view : Instr → Op
instr_view = fold-Instr Op Ops op_step instrs_step

abbrev pub items_view : List Instr → Ops
items_view items = ops_of (map instr_view items)

-- The instructions that a value of `Instrs` stands for.
abbrev pub instrs_view : Instrs → Ops
instrs_view = fold-Instrs Op Ops op_step instrs_step
