-- Shortest spellings of types and descriptions.
use Rattle.std.proofs.Common.{◌≡◌, ℕ, ◌≤◌, List, [], ◌∷◌, ◌++◌, length, length-append, refl, ap, sym, ◌∙◌, arith, append_assoc, Bool, Option, Some, None}
use Rattle.std.proofs.lemmas.List.{append-nil}
use Rattle.byte_fields.specs.Front.{SpellsShortest}
use Rattle.byte_fields.specs.Leb.{unsigned_last}
use Rattle.byte_fields.proofs.Texts.{text_some}
use Rattle.byte_fields.proofs.Unsigned.{unsigned_text}
use Rattle.wasm_values.specs.Spelling.{SpellsU32, Then, SpellsEach, each_none, each_next, SpellsBytes}
use Rattle.wasm_values.specs.Values.{SpellsName, SpellsValType, spells_i32, spells_i64, spells_f32, spells_f64, SpellsBlockType, spells_no_result, spells_one_result, SpellsResult, IsResult, result_none, result_one, SpellsBounds, spells_open, spells_closed, SpellsMutable, spells_constant, spells_variable, SpellsImportDesc, imports_func, imports_table, imports_memory, imports_global, SpellsExportDesc, exports_func, exports_table, exports_memory, exports_global, SpellsTableType, SpellsGlobalType}
use Rattle.wasm_values.specs.declared.types.ValType.{ValType}
use Rattle.wasm_values.specs.declared.types.ValType.TheVariants.{I32, I64, F32, F64}
use Rattle.wasm_values.specs.declared.types.Bounds.{Bounds}
use Rattle.wasm_values.specs.declared.types.GlobalType.{GlobalType}
use Rattle.wasm_values.specs.declared.imports.ImportDesc.{ImportDesc}
use Rattle.wasm_values.specs.declared.imports.ImportDesc.TheVariants as import
use Rattle.wasm_values.specs.declared.exports.ExportDesc.{ExportDesc}
use Rattle.wasm_values.specs.declared.exports.ExportDesc.TheVariants as export
use Rattle.wasm_values.proofs.Spelled.{open_bounds, closed_bounds}
use Rattle.wasm_encode.specs.inner.Gains.{IsSpelled, Gains}
use Rattle.wasm_encode.proofs.Tagged.{IsTagged}

-- A name is spelled as its bytes.
pub gains_name : (name a b : List ℕ) → IsSpelled SpellsName name → Gains SpellsBytes name a b → Gains SpellsName name a b
gains_name name a b (other, (t, utf8)) (text, s, e) = (text, ((s.0, utf8), λ more r. s.1 more r.0), e)

pub name_below : (name : List ℕ) → IsSpelled SpellsName name → IsSpelled SpellsU32 (length name)
name_below name (text, ((count, s, e), utf8)) = (count, s)

pub bytes_below : (content : List ℕ) → IsSpelled SpellsBytes content → IsSpelled SpellsU32 (length content)
bytes_below content (text, (count, s, e)) = (count, s)

-- Each takes one byte at least, so one byte is the shortest.
val_some : {text : List ℕ} {value : ValType} → SpellsValType text value → 1 ≤ length text
val_some spells_i32 = omega arith
val_some spells_i64 = omega arith
val_some spells_f32 = omega arith
val_some spells_f64 = omega arith

block_some : {text : List ℕ} {kind : Option ValType} → SpellsBlockType text kind → 1 ≤ length text
block_some spells_no_result = omega arith
block_some (spells_one_result s) = val_some s

mutable_some : {text : List ℕ} {mutable : Bool} → SpellsMutable text mutable → 1 ≤ length text
mutable_some spells_constant = omega arith
mutable_some spells_variable = omega arith

pub gains_val_type : (value : ValType) (code : ℕ) (a b : List ℕ) → SpellsValType (code ∷ []) value → b ≡ a ++ code ∷ [] → Gains SpellsValType value a b
gains_val_type value code a b s e = (code ∷ [], (s, λ other r. val_some r), e)

pub gains_block_type : (kind : Option ValType) (code : ℕ) (a b : List ℕ) → SpellsBlockType (code ∷ []) kind → b ≡ a ++ code ∷ [] → Gains SpellsBlockType kind a b
gains_block_type kind code a b s e = (code ∷ [], (s, λ other r. block_some r), e)

pub gains_mutable : (mutable : Bool) (code : ℕ) (a b : List ℕ) → SpellsMutable (code ∷ []) mutable → b ≡ a ++ code ∷ [] → Gains SpellsMutable mutable a b
gains_mutable mutable code a b s e = (code ∷ [], (s, λ other r. mutable_some r), e)

-- A function's results: none, or one.
pub gains_no_result : (a b : List ℕ) → b ≡ a ++ 0x00 ∷ [] → Gains SpellsResult None a b
gains_no_result a b e =
    let zero_is : SpellsU32 (0x00 ∷ []) 0 = unsigned_last (omega arith) (omega arith) in
    (0x00 ∷ [], (([], (0x00 ∷ [], [], zero_is, each_none, refl), result_none), λ other (results, (count, texts, s, t, f), is). omega (arith, text_some (unsigned_text s), ap length f, length-append count texts)), e)

one_least : {texts : List ℕ} {results : List ValType} {value : ValType} → SpellsEach SpellsValType texts results → IsResult results (Some value) → 1 ≤ length texts
one_least {value = value} each_none is = elim is [ ]
one_least (each_next {text = front} {more = more} s ss) result_one = omega (arith, val_some s, length-append front more)

text_nil : (text : List ℕ) → text ≡ text ++ []
text_nil text = sym (append-nil text)

-- a shortest spelling of a value type is one byte
one_most : (value : ValType) (text : List ℕ) → SpellsShortest SpellsValType text value → length text ≤ 1
one_most I32 text s = s.1 (0x7f ∷ []) spells_i32
one_most I64 text s = s.1 (0x7e ∷ []) spells_i64
one_most F32 text s = s.1 (0x7d ∷ []) spells_f32
one_most F64 text s = s.1 (0x7c ∷ []) spells_f64

pub gains_one_result : (value : ValType) (a b c : List ℕ) → b ≡ a ++ 0x01 ∷ [] → Gains SpellsValType value b c → Gains SpellsResult (Some value) a c
gains_one_result value a b c e (text, s, f) =
    let one_is : SpellsU32 (0x01 ∷ []) 1 = unsigned_last (omega arith) (omega arith) in
    let each : SpellsEach SpellsValType (text ++ []) (value ∷ []) = each_next s.0 each_none in
    let bytes : 0x01 ∷ text ≡ 0x01 ∷ (text ++ []) = ap (λ z. 0x01 ∷ z) (text_nil text) in
    (0x01 ∷ text, ((value ∷ [], (0x01 ∷ [], text ++ [], one_is, each, bytes), result_one), λ other (results, (count, texts, p, q, g), is). omega (arith, text_some (unsigned_text p), one_least q is, ap length g, length-append count texts, one_most value text s)), f ∙ ap (λ z. z ++ text) e ∙ append_assoc a (0x01 ∷ []) text)

-- The limits of a table or a memory.
open_only : (text : List ℕ) (least : ℕ) → SpellsBounds text (open_bounds least) → (behind : List ℕ) × SpellsU32 behind least × (text ≡ 0x00 ∷ behind)
open_only text least (spells_open {bytes = bytes} s) = (bytes, s, refl)

closed_only : (text : List ℕ) (both : ℕ × ℕ) → SpellsBounds text (closed_bounds both) → (behind : List ℕ) × Then SpellsU32 SpellsU32 behind both × (text ≡ 0x01 ∷ behind)
closed_only text (least, most) (spells_closed {bytes = bytes} s) = (bytes, s, refl)

pub open_tagged : IsTagged Bounds ℕ SpellsBounds SpellsU32 open_bounds 0x00
open_tagged = record { spell = λ text inner s. spells_open s; only = open_only }

pub closed_tagged : IsTagged Bounds (ℕ × ℕ) SpellsBounds (Then SpellsU32 SpellsU32) closed_bounds 0x01
closed_tagged = record { spell = λ text inner s. spells_closed s; only = closed_only }

-- without a greatest size, and with one
pub bounds_open : (bounds : Bounds) → bounds.max ≡ None → bounds ≡ open_bounds bounds.min
bounds_open bounds e = ap (λ z. let made : Bounds = record { min = bounds.min; max = z } in made) e

pub bounds_closed : (bounds : Bounds) (most : ℕ) → bounds.max ≡ Some most → bounds ≡ closed_bounds (bounds.min, most)
bounds_closed bounds most e = ap (λ z. let made : Bounds = record { min = bounds.min; max = z } in made) e

-- What is imported.
import_func_only : (text : List ℕ) (index : ℕ) → SpellsImportDesc text (import.Func index) → (behind : List ℕ) × SpellsU32 behind index × (text ≡ 0x00 ∷ behind)
import_func_only text index (imports_func {bytes = bytes} s) = (bytes, s, refl)

import_table_only : (text : List ℕ) (bounds : Bounds) → SpellsImportDesc text (import.Table bounds) → (behind : List ℕ) × SpellsTableType behind bounds × (text ≡ 0x01 ∷ behind)
import_table_only text bounds (imports_table {bytes = bytes} s) = (bytes, s, refl)

import_memory_only : (text : List ℕ) (bounds : Bounds) → SpellsImportDesc text (import.Memory bounds) → (behind : List ℕ) × SpellsBounds behind bounds × (text ≡ 0x02 ∷ behind)
import_memory_only text bounds (imports_memory {bytes = bytes} s) = (bytes, s, refl)

import_global_only : (text : List ℕ) (kind : GlobalType) → SpellsImportDesc text (import.Global kind) → (behind : List ℕ) × SpellsGlobalType behind kind × (text ≡ 0x03 ∷ behind)
import_global_only text kind (imports_global {bytes = bytes} s) = (bytes, s, refl)

pub import_func_tagged : IsTagged ImportDesc ℕ SpellsImportDesc SpellsU32 import.Func 0x00
import_func_tagged = record { spell = λ text inner s. imports_func s; only = import_func_only }

pub import_table_tagged : IsTagged ImportDesc Bounds SpellsImportDesc SpellsTableType import.Table 0x01
import_table_tagged = record { spell = λ text inner s. imports_table s; only = import_table_only }

pub import_memory_tagged : IsTagged ImportDesc Bounds SpellsImportDesc SpellsBounds import.Memory 0x02
import_memory_tagged = record { spell = λ text inner s. imports_memory s; only = import_memory_only }

pub import_global_tagged : IsTagged ImportDesc GlobalType SpellsImportDesc SpellsGlobalType import.Global 0x03
import_global_tagged = record { spell = λ text inner s. imports_global s; only = import_global_only }

-- What is exported.
export_func_only : (text : List ℕ) (index : ℕ) → SpellsExportDesc text (export.Func index) → (behind : List ℕ) × SpellsU32 behind index × (text ≡ 0x00 ∷ behind)
export_func_only text index (exports_func {bytes = bytes} s) = (bytes, s, refl)

pub export_func_tagged : IsTagged ExportDesc ℕ SpellsExportDesc SpellsU32 export.Func 0x00
export_func_tagged = record { spell = λ text inner s. exports_func s; only = export_func_only }

export_table_only : (text : List ℕ) (index : ℕ) → SpellsExportDesc text (export.Table index) → (behind : List ℕ) × SpellsU32 behind index × (text ≡ 0x01 ∷ behind)
export_table_only text index (exports_table {bytes = bytes} s) = (bytes, s, refl)

pub export_table_tagged : IsTagged ExportDesc ℕ SpellsExportDesc SpellsU32 export.Table 0x01
export_table_tagged = record { spell = λ text inner s. exports_table s; only = export_table_only }

export_memory_only : (text : List ℕ) (index : ℕ) → SpellsExportDesc text (export.Memory index) → (behind : List ℕ) × SpellsU32 behind index × (text ≡ 0x02 ∷ behind)
export_memory_only text index (exports_memory {bytes = bytes} s) = (bytes, s, refl)

pub export_memory_tagged : IsTagged ExportDesc ℕ SpellsExportDesc SpellsU32 export.Memory 0x02
export_memory_tagged = record { spell = λ text inner s. exports_memory s; only = export_memory_only }

export_global_only : (text : List ℕ) (index : ℕ) → SpellsExportDesc text (export.Global index) → (behind : List ℕ) × SpellsU32 behind index × (text ≡ 0x03 ∷ behind)
export_global_only text index (exports_global {bytes = bytes} s) = (bytes, s, refl)

pub export_global_tagged : IsTagged ExportDesc ℕ SpellsExportDesc SpellsU32 export.Global 0x03
export_global_tagged = record { spell = λ text inner s. exports_global s; only = export_global_only }
