-- Instructions as the standard has them: WebAssembly Core 1.0, chapter 2.4.
use Rattle.std.specs.Prelude.{ℕ, suc, ℤ, max, List, Option}
use Rattle.wasm_values.specs.declared.types.ValType.{ValType}
use Rattle.wasm_values.specs.declared.instr.FloatBytes.{FloatBytes}

-- An instruction, and instructions in order. Loads, stores and operations carry their opcode; memory
-- instructions carry the alignment and the offset behind it.
mutual
  pub data Op : Type 0 where
    unreachable : Op
    nop : Op
    block : Option ValType → Ops → Op
    loop : Option ValType → Ops → Op
    if_else : Option ValType → Ops → Ops → Op
    br : ℕ → Op
    br_if : ℕ → Op
    br_table : List ℕ → ℕ → Op
    return : Op
    call : ℕ → Op
    call_indirect : ℕ → Op
    drop_value : Op
    select : Op
    local_get : ℕ → Op
    local_set : ℕ → Op
    local_tee : ℕ → Op
    global_get : ℕ → Op
    global_set : ℕ → Op
    load : ℕ → ℕ → ℕ → Op
    store : ℕ → ℕ → ℕ → Op
    memory_size : Op
    memory_grow : Op
    i32_const : ℤ → Op
    i64_const : ℤ → Op
    numeric : ℕ → Op
    float_memory : ℕ → ℕ → ℕ → Op
    float_const : FloatBytes → Op
    float_plain : ℕ → Op

  pub data Ops : Type 0 where
    no_ops : Ops
    next : Op → Ops → Ops

-- How deep blocks, loops and ifs stand within one another.
abbrev mutual
  pub nesting : Op → ℕ
  nesting (block kind ops) = suc (ops_nesting ops)
  nesting (loop kind ops) = suc (ops_nesting ops)
  nesting (if_else kind first second) = suc (max (ops_nesting first) (ops_nesting second))
  nesting _ = 0

  pub ops_nesting : Ops → ℕ
  ops_nesting no_ops = 0
  ops_nesting (next op ops) = max (nesting op) (ops_nesting ops)
