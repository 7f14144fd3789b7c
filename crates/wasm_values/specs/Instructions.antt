-- Which bytes spell instructions: WebAssembly Core 1.0, chapter 5.4, with a case for each row of its tables.
-- Instructions on floats are leaves that keep their opcode and their bytes.
use Rattle.std.specs.Prelude.{◌≡◌, ℕ, ℤ, ◌^◌, ◌<◌, Bool, List, [], ◌∷◌, ◌++◌, Option, Some}
use Rattle.byteorder.specs.Endian.{little_bytes}
use Rattle.byte_fields.specs.Leb.{SpellsSigned}
use Rattle.wasm_values.specs.Spelling.{SpellsU32, Then, SpellsMark, SpellsList}
use Rattle.wasm_values.specs.Values.{SpellsBlockType}
use Rattle.wasm_values.specs.Opcodes.{meaning, loads, stores, unary, binary, moves_float}
use Rattle.wasm_values.specs.Opcodes.{works_on_floats}
use Rattle.wasm_values.specs.Syntax.{Op, Ops, unreachable, nop, block, loop, if_else, br, br_if}
use Rattle.wasm_values.specs.Syntax.{br_table, return, call, call_indirect, drop_value, select}
use Rattle.wasm_values.specs.Syntax.{local_get, local_set, local_tee, global_get, global_set, load}
use Rattle.wasm_values.specs.Syntax.{store, memory_size, memory_grow, i32_const, i64_const, numeric}
use Rattle.wasm_values.specs.Syntax.{float_memory, float_const, float_plain, no_ops, next}
use Rattle.wasm_values.specs.declared.types.ValType.{ValType}
use Rattle.wasm_values.specs.declared.instr.FloatBytes.TheVariants.{Four, Eight}

-- The opcodes of the loads of integers.
pub data IsLoad : ℕ → Type 0 where
  load_row : {op bytes : ℕ} {value : ValType} {signed : Bool} → meaning op ≡ Some (loads value bytes signed)
      → IsLoad op

-- The opcodes of the stores of integers.
pub data IsStore : ℕ → Type 0 where
  store_row : {op bytes : ℕ} {value : ValType} → meaning op ≡ Some (stores value bytes) → IsStore op

-- The opcodes of the loads and stores of floats.
abbrev pub IsFloatMemory : ℕ → Type 0
IsFloatMemory op = meaning op ≡ Some moves_float

-- The loads and stores by their opcodes, with an alignment and an offset.
pub data IsMemory : ℕ → ℕ → ℕ → Op → Type 0 where
  is_load : {op align offset : ℕ} → IsLoad op → IsMemory op align offset (load op align offset)
  is_store : {op align offset : ℕ} → IsStore op → IsMemory op align offset (store op align offset)
  is_float_memory : {op align offset : ℕ} → IsFloatMemory op
      → IsMemory op align offset (float_memory op align offset)

-- The opcodes of the operations on integers.
pub data IsNumeric : ℕ → Type 0 where
  unary_row : {op : ℕ} {from to : ValType} → meaning op ≡ Some (unary from to) → IsNumeric op
  binary_row : {op : ℕ} {from to : ValType} → meaning op ≡ Some (binary from to) → IsNumeric op

-- The opcodes of the operations that take or give a float.
abbrev pub IsFloatPlain : ℕ → Type 0
IsFloatPlain op = meaning op ≡ Some works_on_floats

mutual
  -- The bytes spell the instruction.
  pub data SpellsOp : List ℕ → Op → Type 0 where
    spells_unreachable : SpellsOp (0x00 ∷ []) unreachable
    spells_nop : SpellsOp (0x01 ∷ []) nop
    spells_block : {type bytes : List ℕ} {kind : Option ValType} {ops : Ops}
        → SpellsBlockType type kind
        → SpellsOps bytes ops
        → SpellsOp (0x02 ∷ (type ++ (bytes ++ 0x0b ∷ []))) (block kind ops)
    spells_loop : {type bytes : List ℕ} {kind : Option ValType} {ops : Ops}
        → SpellsBlockType type kind
        → SpellsOps bytes ops
        → SpellsOp (0x03 ∷ (type ++ (bytes ++ 0x0b ∷ []))) (loop kind ops)
    spells_if : {type bytes : List ℕ} {kind : Option ValType} {first : Ops}
        → SpellsBlockType type kind
        → SpellsOps bytes first
        → SpellsOp (0x04 ∷ (type ++ (bytes ++ 0x0b ∷ []))) (if_else kind first no_ops)
    spells_if_else : {type bytes more : List ℕ} {kind : Option ValType} {first second : Ops}
        → SpellsBlockType type kind
        → SpellsOps bytes first
        → SpellsOps more second
        → SpellsOp (0x04 ∷ (type ++ (bytes ++ 0x05 ∷ (more ++ 0x0b ∷ [])))) (if_else kind first second)
    spells_br : {bytes : List ℕ} {label : ℕ} → SpellsU32 bytes label → SpellsOp (0x0c ∷ bytes) (br label)
    spells_br_if : {bytes : List ℕ} {label : ℕ} → SpellsU32 bytes label
        → SpellsOp (0x0d ∷ bytes) (br_if label)
    spells_br_table : {bytes labels : List ℕ} {last : ℕ}
        → Then (SpellsList SpellsU32) SpellsU32 bytes (labels, last)
        → SpellsOp (0x0e ∷ bytes) (br_table labels last)
    spells_return : SpellsOp (0x0f ∷ []) return
    spells_call : {bytes : List ℕ} {func : ℕ} → SpellsU32 bytes func → SpellsOp (0x10 ∷ bytes) (call func)
    spells_call_indirect : {bytes : List ℕ} {kind : ℕ} → Then SpellsU32 (SpellsMark 0x00) bytes (kind, tt)
        → SpellsOp (0x11 ∷ bytes) (call_indirect kind)
    spells_drop : SpellsOp (0x1a ∷ []) drop_value
    spells_select : SpellsOp (0x1b ∷ []) select
    spells_local_get : {bytes : List ℕ} {local : ℕ} → SpellsU32 bytes local
        → SpellsOp (0x20 ∷ bytes) (local_get local)
    spells_local_set : {bytes : List ℕ} {local : ℕ} → SpellsU32 bytes local
        → SpellsOp (0x21 ∷ bytes) (local_set local)
    spells_local_tee : {bytes : List ℕ} {local : ℕ} → SpellsU32 bytes local
        → SpellsOp (0x22 ∷ bytes) (local_tee local)
    spells_global_get : {bytes : List ℕ} {global : ℕ} → SpellsU32 bytes global
        → SpellsOp (0x23 ∷ bytes) (global_get global)
    spells_global_set : {bytes : List ℕ} {global : ℕ} → SpellsU32 bytes global
        → SpellsOp (0x24 ∷ bytes) (global_set global)
    spells_memory : {bytes : List ℕ} {code align offset : ℕ} {op : Op} → IsMemory code align offset op
        → Then SpellsU32 SpellsU32 bytes (align, offset) → SpellsOp (code ∷ bytes) op
    spells_memory_size : SpellsOp (0x3f ∷ 0x00 ∷ []) memory_size
    spells_memory_grow : SpellsOp (0x40 ∷ 0x00 ∷ []) memory_grow
    spells_i32_const : {bytes : List ℕ} {number : ℤ} → SpellsSigned 32 bytes number
        → SpellsOp (0x41 ∷ bytes) (i32_const number)
    spells_i64_const : {bytes : List ℕ} {number : ℤ} → SpellsSigned 64 bytes number
        → SpellsOp (0x42 ∷ bytes) (i64_const number)
    spells_f32_const : {number : ℕ} → number < 2 ^ 32
        → SpellsOp (0x43 ∷ little_bytes 4 number) (float_const (Four number))
    spells_f64_const : {number : ℕ} → number < 2 ^ 64
        → SpellsOp (0x44 ∷ little_bytes 8 number) (float_const (Eight number))
    spells_numeric : {op : ℕ} → IsNumeric op → SpellsOp (op ∷ []) (numeric op)
    spells_float_plain : {op : ℕ} → IsFloatPlain op → SpellsOp (op ∷ []) (float_plain op)

  -- The bytes spell the instructions, one behind the other.
  pub data SpellsOps : List ℕ → Ops → Type 0 where
    spells_none : SpellsOps [] no_ops
    spells_next : {text more : List ℕ} {op : Op} {ops : Ops} → SpellsOp text op → SpellsOps more ops
        → SpellsOps (text ++ more) (next op ops)

-- An expression: instructions, and 0B.
abbrev pub SpellsExpression : List ℕ → Ops → Type 0
SpellsExpression bytes ops = (text : List ℕ) × SpellsOps text ops × (bytes ≡ text ++ 0x0b ∷ [])
