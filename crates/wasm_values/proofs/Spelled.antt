-- The spellings of types and descriptions, taken apart by their first byte.
use Rattle.std.proofs.Common.{◌≡◌, ℕ, List, [], ◌∷◌, ◌++◌, refl, ap, Option, Some, None, arith, Bool, subst}
use Rattle.wasm_values.specs.Spelling.{SpellsU32, Then}
use Rattle.wasm_values.specs.Values.{SpellsValType, SpellsBlockType, spells_no_result, spells_one_result, SpellsBounds, spells_open, spells_closed, SpellsImportDesc, imports_func, imports_table, imports_memory, imports_global, SpellsExportDesc, exports_func, exports_table, exports_memory, exports_global, SpellsTableType, SpellsGlobalType}
use Rattle.wasm_values.proofs.Tags.{IsTag}
use Rattle.wasm_values.specs.declared.types.ValType.{ValType}
use Rattle.wasm_values.specs.declared.types.Bounds.{Bounds}
use Rattle.wasm_values.specs.declared.types.GlobalType.{GlobalType}
use Rattle.wasm_values.specs.declared.imports.Import.{Import}
use Rattle.wasm_values.specs.declared.exports.Export.{Export}
use Rattle.wasm_values.specs.declared.imports.ImportDesc.{ImportDesc}
use Rattle.wasm_values.specs.declared.imports.ImportDesc.TheVariants as import
use Rattle.wasm_values.specs.declared.exports.ExportDesc.{ExportDesc}
use Rattle.wasm_values.specs.declared.exports.ExportDesc.TheVariants as export

abbrev pub global_type_of : ValType × Bool → GlobalType
global_type_of both = record { value = both.0; mutable = both.1 }

abbrev pub export_of : List ℕ × ExportDesc → Export
export_of parts = record { name = parts.0; desc = parts.1 }

abbrev pub import_of : List ℕ × (List ℕ × ImportDesc) → Import
import_of parts = record { «module» = parts.0; name = parts.1.0; desc = parts.1.1 }

-- One value type at most is spelled by a byte.
val_one : (text rest bytes : List ℕ) (code : ℕ) (v w : ValType) → SpellsValType text w → SpellsValType (code ∷ []) v → code ∷ bytes ≡ text ++ rest → (w ≡ v) × (rest ≡ bytes)
val_one text rest bytes code v w s t e = grind arith

no_result_val : (v : ValType) → SpellsValType (0x40 ∷ []) v → ⊥
no_result_val v t = elim t [ ]

pub block_only : (text rest bytes : List ℕ) (code : ℕ) (v : ValType) (k : Option ValType) → SpellsBlockType text k → SpellsValType (code ∷ []) v → code ∷ bytes ≡ text ++ rest → (k ≡ Some v) × (rest ≡ bytes)
block_only text rest bytes code v k spells_no_result t e =
    let same : code ≡ 0x40 = cc in
    let P : ℕ → Type 0 = λ z. SpellsValType (z ∷ []) v in
    absurd (no_result_val v (subst P same t))
block_only text rest bytes code v k (spells_one_result {value = w} s) t e =
    let one = val_one text rest bytes code v w s t e in
    (ap (λ z. Some z) one.0, one.1)

abbrev pub open_bounds : ℕ → Bounds
open_bounds least = record { min = least; max = None }

abbrev pub closed_bounds : ℕ × ℕ → Bounds
closed_bounds both = record { min = both.0; max = Some both.1 }

bounds_never : (value : Bounds) → SpellsBounds [] value → ⊥
bounds_never value s = elim s [ ]

bounds_open_behind : (text : List ℕ) (value : Bounds) → SpellsBounds (0x00 ∷ text) value → (inner : ℕ) × SpellsU32 text inner × (value ≡ open_bounds inner)
bounds_open_behind text value (spells_open s) = (_, s, refl)

bounds_closed_behind : (text : List ℕ) (value : Bounds) → SpellsBounds (0x01 ∷ text) value → (inner : ℕ × ℕ) × Then SpellsU32 SpellsU32 text inner × (value ≡ closed_bounds inner)
bounds_closed_behind text value (spells_closed {least = a} {most = b} s) = ((a, b), s, refl)

pub bounds_open : IsTag Bounds ℕ SpellsBounds SpellsU32 open_bounds 0x00
bounds_open = record { never = bounds_never; spell = λ text inner s. spells_open s; behind = bounds_open_behind }

pub bounds_closed : IsTag Bounds (ℕ × ℕ) SpellsBounds (Then SpellsU32 SpellsU32) closed_bounds 0x01
bounds_closed = record { never = bounds_never; spell = λ text inner s. spells_closed s; behind = bounds_closed_behind }

import_never : (value : ImportDesc) → SpellsImportDesc [] value → ⊥
import_never value s = elim s [ ]

import_func_behind : (text : List ℕ) (value : ImportDesc) → SpellsImportDesc (0x00 ∷ text) value → (inner : ℕ) × SpellsU32 text inner × (value ≡ import.Func inner)
import_func_behind text value (imports_func s) = (_, s, refl)

import_table_behind : (text : List ℕ) (value : ImportDesc) → SpellsImportDesc (0x01 ∷ text) value → (inner : Bounds) × SpellsTableType text inner × (value ≡ import.Table inner)
import_table_behind text value (imports_table {bounds = b} s) = (b, s, refl)

import_memory_behind : (text : List ℕ) (value : ImportDesc) → SpellsImportDesc (0x02 ∷ text) value → (inner : Bounds) × SpellsBounds text inner × (value ≡ import.Memory inner)
import_memory_behind text value (imports_memory {bounds = b} s) = (b, s, refl)

import_global_behind : (text : List ℕ) (value : ImportDesc) → SpellsImportDesc (0x03 ∷ text) value → (inner : GlobalType) × SpellsGlobalType text inner × (value ≡ import.Global inner)
import_global_behind text value (imports_global {type = t} s) = (t, s, refl)

pub import_func : IsTag ImportDesc ℕ SpellsImportDesc SpellsU32 import.Func 0x00
import_func = record { never = import_never; spell = λ text inner s. imports_func s; behind = import_func_behind }

pub import_table : IsTag ImportDesc Bounds SpellsImportDesc SpellsTableType import.Table 0x01
import_table = record { never = import_never; spell = λ text inner s. imports_table s; behind = import_table_behind }

pub import_memory : IsTag ImportDesc Bounds SpellsImportDesc SpellsBounds import.Memory 0x02
import_memory = record { never = import_never; spell = λ text inner s. imports_memory s; behind = import_memory_behind }

pub import_global : IsTag ImportDesc GlobalType SpellsImportDesc SpellsGlobalType import.Global 0x03
import_global = record { never = import_never; spell = λ text inner s. imports_global s; behind = import_global_behind }

export_never : (value : ExportDesc) → SpellsExportDesc [] value → ⊥
export_never value s = elim s [ ]

export_func_behind : (text : List ℕ) (value : ExportDesc) → SpellsExportDesc (0x00 ∷ text) value → (inner : ℕ) × SpellsU32 text inner × (value ≡ export.Func inner)
export_func_behind text value (exports_func s) = (_, s, refl)

pub export_func : IsTag ExportDesc ℕ SpellsExportDesc SpellsU32 export.Func 0x00
export_func = record { never = export_never; spell = λ text inner s. exports_func s; behind = export_func_behind }

export_table_behind : (text : List ℕ) (value : ExportDesc) → SpellsExportDesc (0x01 ∷ text) value → (inner : ℕ) × SpellsU32 text inner × (value ≡ export.Table inner)
export_table_behind text value (exports_table s) = (_, s, refl)

pub export_table : IsTag ExportDesc ℕ SpellsExportDesc SpellsU32 export.Table 0x01
export_table = record { never = export_never; spell = λ text inner s. exports_table s; behind = export_table_behind }

export_memory_behind : (text : List ℕ) (value : ExportDesc) → SpellsExportDesc (0x02 ∷ text) value → (inner : ℕ) × SpellsU32 text inner × (value ≡ export.Memory inner)
export_memory_behind text value (exports_memory s) = (_, s, refl)

pub export_memory : IsTag ExportDesc ℕ SpellsExportDesc SpellsU32 export.Memory 0x02
export_memory = record { never = export_never; spell = λ text inner s. exports_memory s; behind = export_memory_behind }

export_global_behind : (text : List ℕ) (value : ExportDesc) → SpellsExportDesc (0x03 ∷ text) value → (inner : ℕ) × SpellsU32 text inner × (value ≡ export.Global inner)
export_global_behind text value (exports_global s) = (_, s, refl)

pub export_global : IsTag ExportDesc ℕ SpellsExportDesc SpellsU32 export.Global 0x03
export_global = record { never = export_never; spell = λ text inner s. exports_global s; behind = export_global_behind }
