-- Which bytes spell names, types and descriptions: WebAssembly Core 1.0, chapters 5.2.4, 5.3 and 5.5.5.
use Rattle.std.specs.Prelude.{ℕ, List, [], ◌∷◌, Option, Some, None, Bool, true, false}
use Rattle.std.specs.Str.{IsUtf8}
use Rattle.wasm_values.specs.Spelling.{SpellsU32, Then, SpellsMark, SpellsList, SpellsBytes}
use Rattle.wasm_values.specs.declared.types.ValType.{ValType}
use Rattle.wasm_values.specs.declared.types.ValType.TheVariants.{I32, I64, F32, F64}
use Rattle.wasm_values.specs.declared.types.FuncType.{FuncType}
use Rattle.wasm_values.specs.declared.types.Bounds.{Bounds}
use Rattle.wasm_values.specs.declared.types.GlobalType.{GlobalType}
use Rattle.wasm_values.specs.declared.imports.Import.{Import}
use Rattle.wasm_values.specs.declared.imports.ImportDesc.{ImportDesc}
use Rattle.wasm_values.specs.declared.imports.ImportDesc.TheVariants as import
use Rattle.wasm_values.specs.declared.exports.Export.{Export}
use Rattle.wasm_values.specs.declared.exports.ExportDesc.{ExportDesc}
use Rattle.wasm_values.specs.declared.exports.ExportDesc.TheVariants as export

-- A name: a list of bytes that are UTF-8.
abbrev pub SpellsName : List ℕ → List ℕ → Type 0
SpellsName bytes name = SpellsBytes bytes name × IsUtf8 name

pub data SpellsValType : List ℕ → ValType → Type 0 where
  spells_i32 : SpellsValType (0x7f ∷ []) I32
  spells_i64 : SpellsValType (0x7e ∷ []) I64
  spells_f32 : SpellsValType (0x7d ∷ []) F32
  spells_f64 : SpellsValType (0x7c ∷ []) F64

-- A block's type: no result, or a value type.
pub data SpellsBlockType : List ℕ → Option ValType → Type 0 where
  spells_no_result : SpellsBlockType (0x40 ∷ []) None
  spells_one_result : {bytes : List ℕ} {value : ValType} → SpellsValType bytes value
      → SpellsBlockType bytes (Some value)

-- The list of a function's results, which are at most one.
pub data IsResult : List ValType → Option ValType → Type 0 where
  result_none : IsResult [] None
  result_one : {value : ValType} → IsResult (value ∷ []) (Some value)

abbrev pub SpellsResult : List ℕ → Option ValType → Type 0
SpellsResult bytes result =
    (results : List ValType) × SpellsList SpellsValType bytes results × IsResult results result

-- A function's type: 60, the parameters, the results.
abbrev pub SpellsFuncType : List ℕ → FuncType → Type 0
SpellsFuncType bytes type =
    Then (SpellsMark 0x60) (Then (SpellsList SpellsValType) SpellsResult) bytes
    (tt, (type.params, type.result))

-- The limits of a table or a memory, without or with a greatest size.
pub data SpellsBounds : List ℕ → Bounds → Type 0 where
  spells_open : {bytes : List ℕ} {least : ℕ} → SpellsU32 bytes least
      → SpellsBounds (0x00 ∷ bytes) (record { min = least; max = None })
  spells_closed : {bytes : List ℕ} {least most : ℕ}
      → Then SpellsU32 SpellsU32 bytes (least, most)
      → SpellsBounds (0x01 ∷ bytes) (record { min = least; max = Some most })

-- A table's type: 70, for functions, and its limits.
abbrev pub SpellsTableType : List ℕ → Bounds → Type 0
SpellsTableType bytes bounds = Then (SpellsMark 0x70) SpellsBounds bytes (tt, bounds)

-- Whether a global may be set: 00 for a constant, 01 for a variable.
pub data SpellsMutable : List ℕ → Bool → Type 0 where
  spells_constant : SpellsMutable (0x00 ∷ []) false
  spells_variable : SpellsMutable (0x01 ∷ []) true

-- A global's type: its value type, and whether it may be set.
abbrev pub SpellsGlobalType : List ℕ → GlobalType → Type 0
SpellsGlobalType bytes type = Then SpellsValType SpellsMutable bytes (type.value, type.mutable)

-- What is imported: a function by its type's index, a table, a memory or a global by its type.
pub data SpellsImportDesc : List ℕ → ImportDesc → Type 0 where
  imports_func : {bytes : List ℕ} {index : ℕ} → SpellsU32 bytes index
      → SpellsImportDesc (0x00 ∷ bytes) (import.Func index)
  imports_table : {bytes : List ℕ} {bounds : Bounds} → SpellsTableType bytes bounds
      → SpellsImportDesc (0x01 ∷ bytes) (import.Table bounds)
  imports_memory : {bytes : List ℕ} {bounds : Bounds} → SpellsBounds bytes bounds
      → SpellsImportDesc (0x02 ∷ bytes) (import.Memory bounds)
  imports_global : {bytes : List ℕ} {type : GlobalType} → SpellsGlobalType bytes type
      → SpellsImportDesc (0x03 ∷ bytes) (import.Global type)

-- An import: the module's name, the name in it, and what it is.
abbrev pub SpellsImport : List ℕ → Import → Type 0
SpellsImport bytes entry =
    Then SpellsName (Then SpellsName SpellsImportDesc) bytes (entry.module, (entry.name, entry.desc))

-- What is exported, by its index.
pub data SpellsExportDesc : List ℕ → ExportDesc → Type 0 where
  exports_func : {bytes : List ℕ} {index : ℕ} → SpellsU32 bytes index
      → SpellsExportDesc (0x00 ∷ bytes) (export.Func index)
  exports_table : {bytes : List ℕ} {index : ℕ} → SpellsU32 bytes index
      → SpellsExportDesc (0x01 ∷ bytes) (export.Table index)
  exports_memory : {bytes : List ℕ} {index : ℕ} → SpellsU32 bytes index
      → SpellsExportDesc (0x02 ∷ bytes) (export.Memory index)
  exports_global : {bytes : List ℕ} {index : ℕ} → SpellsU32 bytes index
      → SpellsExportDesc (0x03 ∷ bytes) (export.Global index)

-- An export: its name, and what it is.
abbrev pub SpellsExport : List ℕ → Export → Type 0
SpellsExport bytes entry = Then SpellsName SpellsExportDesc bytes (entry.name, entry.desc)
