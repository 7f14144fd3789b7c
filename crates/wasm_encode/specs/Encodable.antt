-- Which modules have a binary form: as many functions as codes, names that are UTF-8, numbers in the ranges
-- of their types,
-- opcodes that are those of their instructions, and sizes of 32 bits.
use Rattle.std.specs.Prelude.{◌≡◌, ℕ, ◌+◌, ◌-◌, ◌*◌, ◌^◌, ◌<◌, ℤ, pos, ◌+ℤ◌, ◌<ℤ◌, ◌≤ℤ◌, length, sum_by, All}
use Rattle.std.specs.Prelude.{Some}
use Rattle.std.specs.Str.{IsUtf8}
use Rattle.wasm_values.specs.Syntax.{Op, Ops, block, loop, if_else, br, br_if, br_table, call}
use Rattle.wasm_values.specs.Syntax.{call_indirect, local_get, local_set, local_tee, global_get}
use Rattle.wasm_values.specs.Syntax.{global_set, load, store, i32_const, i64_const, numeric}
use Rattle.wasm_values.specs.Syntax.{float_memory, float_const, float_plain, no_ops, next}
use Rattle.wasm_values.specs.Instructions.{IsLoad, IsStore, IsFloatMemory, IsNumeric, IsFloatPlain}
use Rattle.wasm_module.specs.Sections.{Syntax}
use Rattle.wasm_values.specs.declared.types.Bounds.{Bounds}
use Rattle.wasm_values.specs.declared.imports.ImportDesc.{ImportDesc}
use Rattle.wasm_values.specs.declared.imports.ImportDesc.TheVariants as import
use Rattle.wasm_values.specs.declared.exports.ExportDesc.{ExportDesc}
use Rattle.wasm_values.specs.declared.exports.ExportDesc.TheVariants as export
use Rattle.wasm_values.specs.declared.instr.FloatBytes.{FloatBytes}
use Rattle.wasm_values.specs.declared.instr.FloatBytes.TheVariants.{Four, Eight}

-- A number of 32 bits.
abbrev pub IsU32 : ℕ → Type 0
IsU32 number = number < 2 ^ 32

-- A signed number of so many bits: at least -2^(bits - 1), and below 2^(bits - 1).
abbrev pub IsSigned : ℕ → ℤ → Type 0
IsSigned bits number = (pos 0 ≤ℤ (number +ℤ pos (2 ^ (bits - 1)))) × (number <ℤ pos (2 ^ (bits - 1)))

-- The bytes of a float, as a number.
abbrev pub IsFloat : FloatBytes → Type 0
IsFloat (Four number) = number < 2 ^ 32
IsFloat (Eight number) = number < 2 ^ 64

-- Limits of a table or a memory.
abbrev pub AreLimits : Bounds → Type 0
AreLimits bounds = IsU32 bounds.min × ((most : ℕ) → bounds.max ≡ Some most → IsU32 most)

-- The numbers of an instruction are in their ranges, and its opcode is one of its kind.
abbrev mutual
  pub IsInstruction : Op → Type 0
  IsInstruction (block kind ops) = AreInstructions ops
  IsInstruction (loop kind ops) = AreInstructions ops
  IsInstruction (if_else kind first second) = AreInstructions first × AreInstructions second
  IsInstruction (br label) = IsU32 label
  IsInstruction (br_if label) = IsU32 label
  IsInstruction (br_table labels last) = All IsU32 labels × IsU32 last
  IsInstruction (call func) = IsU32 func
  IsInstruction (call_indirect kind) = IsU32 kind
  IsInstruction (local_get local) = IsU32 local
  IsInstruction (local_set local) = IsU32 local
  IsInstruction (local_tee local) = IsU32 local
  IsInstruction (global_get global) = IsU32 global
  IsInstruction (global_set global) = IsU32 global
  IsInstruction (load code align offset) = IsLoad code × IsU32 align × IsU32 offset
  IsInstruction (store code align offset) = IsStore code × IsU32 align × IsU32 offset
  IsInstruction (i32_const number) = IsSigned 32 number
  IsInstruction (i64_const number) = IsSigned 64 number
  IsInstruction (numeric code) = IsNumeric code
  IsInstruction (float_memory code align offset) = IsFloatMemory code × IsU32 align × IsU32 offset
  IsInstruction (float_const bytes) = IsFloat bytes
  IsInstruction (float_plain code) = IsFloatPlain code
  IsInstruction _ = Unit {0}

  pub AreInstructions : Ops → Type 0
  AreInstructions no_ops = Unit {0}
  AreInstructions (next op ops) = IsInstruction op × AreInstructions ops

-- What is imported, and what is exported.
abbrev pub IsImported : ImportDesc → Type 0
IsImported (import.Func index) = IsU32 index
IsImported (import.Table bounds) = AreLimits bounds
IsImported (import.Memory bounds) = AreLimits bounds
IsImported (import.Global type) = Unit {0}

abbrev pub IsExported : ExportDesc → Type 0
IsExported (export.Func index) = IsU32 index
IsExported (export.Table index) = IsU32 index
IsExported (export.Memory index) = IsU32 index
IsExported (export.Global index) = IsU32 index

-- How many bytes instructions take at most: 16 each, and five for each label of a branch by an index. Few
-- take as many.
abbrev mutual
  pub op_weight : Op → ℕ
  op_weight (block kind ops) = 16 + ops_weight ops
  op_weight (loop kind ops) = 16 + ops_weight ops
  op_weight (if_else kind first second) = 16 + (ops_weight first + ops_weight second)
  op_weight (br_table labels last) = 16 + 5 * length labels
  op_weight _ = 16

  pub ops_weight : Ops → ℕ
  ops_weight no_ops = 0
  ops_weight (next op ops) = op_weight op + ops_weight ops

-- How many bytes a module takes at most: 32 for each entry of a list, and what its names, its bytes, its
-- instructions and
-- its own lists take.
abbrev pub weight : Syntax Ops → ℕ
weight m =
    32
    + sum_by (λ type. 32 + length type.params) m.types
    + sum_by (λ entry. 32 + (length entry.module + length entry.name)) m.imports
    + sum_by (λ func. 5) m.funcs
    + sum_by (λ bounds. 32) m.tables
    + sum_by (λ bounds. 32) m.memories
    + sum_by (λ global. 32 + ops_weight global.1) m.globals
    + sum_by (λ entry. 32 + length entry.name) m.exports
    + sum_by (λ element. 32 + (ops_weight element.1.0 + 5 * length element.1.1)) m.elements
    + sum_by (λ code. 32 + (8 * length code.0 + ops_weight code.1)) m.codes
    + sum_by (λ segment. 32 + (ops_weight segment.1.0 + length segment.1.1)) m.segments

pub record IsEncodable (m : Syntax Ops) : Type 0 where
  pub functions : length m.funcs ≡ length m.codes
  pub imports : All (λ entry. IsUtf8 entry.module × IsUtf8 entry.name × IsImported entry.desc) m.imports
  pub funcs : All IsU32 m.funcs
  pub tables : All AreLimits m.tables
  pub memories : All AreLimits m.memories
  pub globals : All (λ global. AreInstructions global.1) m.globals
  pub exports : All (λ entry. IsUtf8 entry.name × IsExported entry.desc) m.exports
  pub start : (func : ℕ) → m.start ≡ Some func → IsU32 func
  pub elements : All (λ element. IsU32 element.0 × AreInstructions element.1.0
      × All IsU32 element.1.1) m.elements
  pub codes : All (λ code. All (λ run. IsU32 run.count) code.0 × AreInstructions code.1) m.codes
  pub segments : All (λ segment. IsU32 segment.0 × AreInstructions segment.1.0) m.segments
  pub small : weight m < 2 ^ 32
