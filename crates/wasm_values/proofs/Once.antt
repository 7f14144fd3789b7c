-- Spellings of which bytes begin with one value at most: general words, and values.
use Rattle.std.proofs.Common.{◌≡◌, ℕ, ℤ, List, [], ◌∷◌, ◌++◌, length, refl, ap, sym, ◌∙◌, append_assoc, arith, Bool, Option, Some}
use Rattle.std.proofs.lemmas.List.{append-nil}
use Rattle.byte_fields.specs.Front.{Begins, BeginsOnly}
use Rattle.byte_fields.specs.Leb.{SpellsSigned}
use Rattle.byte_fields.proofs.Fronts.{IsLebSpelling, front_only, unsigned_32, signed_32, signed_64}
use Rattle.wasm_values.specs.Spelling.{SpellsU32, Then, SpellsByte, SpellsMark, SpellsEach, each_none, each_next, SpellsList, SpellsBytes, SpellsSized}
use Rattle.wasm_values.specs.Values.{SpellsName, SpellsValType, SpellsBlockType, spells_no_result, spells_one_result, IsResult, result_none, result_one, SpellsResult, SpellsFuncType, SpellsBounds, spells_open, spells_closed, SpellsTableType, SpellsMutable, SpellsGlobalType, SpellsImportDesc, imports_func, imports_table, imports_memory, imports_global, SpellsImport, SpellsExportDesc, exports_func, exports_table, exports_memory, exports_global, SpellsExport}
use Rattle.wasm_values.specs.declared.types.ValType.{ValType}
use Rattle.wasm_values.specs.declared.types.FuncType.{FuncType}
use Rattle.wasm_values.specs.declared.types.Bounds.{Bounds}
use Rattle.wasm_values.specs.declared.types.GlobalType.{GlobalType}
use Rattle.wasm_values.specs.declared.imports.Import.{Import}
use Rattle.wasm_values.specs.declared.imports.ImportDesc.{ImportDesc}
use Rattle.wasm_values.specs.declared.exports.Export.{Export}
use Rattle.wasm_values.specs.declared.exports.ExportDesc.{ExportDesc}
use Rattle.wasm_values.proofs.Fronts.{then_parts, then_only}
use Rattle.wasm_values.proofs.Lists.{list_later, list_parts, bytes_parts, bytes_only}
use Rattle.wasm_values.proofs.Sizes.{sized_only}
use Rattle.wasm_values.proofs.Tags.{IsTag, tag_only}
use Rattle.wasm_values.proofs.Spelled.{global_type_of, export_of, import_of, bounds_open, bounds_closed, import_func, import_table, import_memory, import_global, export_func, export_table, export_memory, export_global}
use Rattle.wasm_values.proofs.Fixed.{little_only}
use Rattle.wasm_values.proofs.Opcodes.{SpellsNothing, SpellsLittle}

-- Bytes that begin with a text of a value begin with no other value, and leave one rest.
pub record IsFrontOne (V : Type 0) (Spells : List ℕ → V → Type 0) : Type 0 where
  pub one : (bytes rest : List ℕ) (value : V) → Begins Spells bytes value rest → BeginsOnly Spells bytes value rest

-- So a whole text spells one value at most.
pub whole_one : {V : Type 0} {Spells : List ℕ → V → Type 0} → IsFrontOne V Spells → (text : List ℕ) (value other : V) → Spells text value → Spells text other → value ≡ other
whole_one k text value other s t =
    let whole : text ≡ text ++ [] = sym (append-nil text) in
    (k.one text [] other (text, t, whole) value [] (text, s, whole)).0

-- LEB128 numbers.
leb_one : {V : Type 0} {Spells : List ℕ → V → Type 0} {most : ℕ} → IsLebSpelling V Spells most → IsFrontOne V Spells
leb_one {Spells = Spells} {most = most} k = record { one = λ bytes rest value (text, s, e). front_only Spells most bytes text rest value k s e }

pub u32_one : IsFrontOne ℕ SpellsU32
u32_one = leb_one unsigned_32

pub signed_32_one : IsFrontOne ℤ (SpellsSigned 32)
signed_32_one = leb_one signed_32

pub signed_64_one : IsFrontOne ℤ (SpellsSigned 64)
signed_64_one = leb_one signed_64

pub little_one : (count : ℕ) → IsFrontOne ℕ (SpellsLittle count)
little_one count = record { one = λ bytes rest number (text, (below, s), e). little_only count bytes rest number below (e ∙ ap (λ z. z ++ rest) s) }

pub nothing_one : IsFrontOne (Unit {0}) SpellsNothing
nothing_one = record { one = λ bytes rest value (text, s, e). λ other more (front, t, f). (refl, sym (f ∙ ap (λ z. z ++ more) t) ∙ e ∙ ap (λ z. z ++ rest) s) }

-- Two texts of one byte.
byte_same : (bytes text front rest more : List ℕ) (value other : ℕ) → text ≡ value ∷ [] → bytes ≡ text ++ rest → front ≡ other ∷ [] → bytes ≡ front ++ more → (other ≡ value) × (more ≡ rest)
byte_same bytes text front rest more value other s e t f =
    let here : bytes ≡ value ∷ rest = e ∙ ap (λ z. z ++ rest) s in
    let there : bytes ≡ other ∷ more = f ∙ ap (λ z. z ++ more) t in
    (cc, cc)

pub byte_one : IsFrontOne ℕ SpellsByte
byte_one = record { one = λ bytes rest value (text, s, e). λ other more (front, t, f). byte_same bytes text front rest more value other s e t f }

pub mark_one : (mark : ℕ) → IsFrontOne (Unit {0}) (SpellsMark mark)
mark_one mark = record { one = λ bytes rest value (text, s, e). λ other more (front, t, f). (refl, (byte_same bytes text front rest more mark mark s e t f).1) }

pub then_one : {V W : Type 0} {First : List ℕ → V → Type 0} {Second : List ℕ → W → Type 0} → IsFrontOne V First → IsFrontOne W Second → IsFrontOne (V × W) (Then First Second)
then_one {First = First} {Second = Second} k l = record {
  one = λ bytes rest both b.
      let parts = then_parts First Second bytes rest both b in
      then_only First Second bytes parts.0 rest both.0 both.1 (k.one bytes parts.0 both.0 parts.1) (l.one parts.0 rest both.1 parts.2);
}

-- A value that is spelled as another, from which it is made again.
pub made_one : {U V : Type 0} {Spells : List ℕ → V → Type 0} (parts : U → V) (make : V → U) → ((value : U) → make (parts value) ≡ value) → IsFrontOne V Spells → IsFrontOne U (λ bytes value. Spells bytes (parts value))
made_one parts make back k = record {
  one = λ bytes rest value b. λ other more c.
      let same = k.one bytes rest (parts value) b (parts other) more c in
      (sym (back other) ∙ ap make same.0 ∙ back value, same.1);
}

-- As many texts one behind the other are the same.
each_same : {V : Type 0} {Spells : List ℕ → V → Type 0} → IsFrontOne V Spells → {text other : List ℕ} {values others : List V} → SpellsEach Spells text values → SpellsEach Spells other others → length others ≡ length values → (bytes rest more : List ℕ) → bytes ≡ text ++ rest → bytes ≡ other ++ more → (others ≡ values) × (more ≡ rest)
each_same k each_none each_none n bytes rest more e f = (refl, sym f ∙ e)
each_same k each_none (each_next t ts) n bytes rest more e f = absurd (cc)
each_same k (each_next s ss) each_none n bytes rest more e f = absurd (cc)
each_same k (each_next {text = a} {more = b} {value = v} {values = vs} s ss) (each_next {text = c} {more = d} {value = w} {values = ws} t ts) n bytes rest more e f =
    let first = k.one bytes (b ++ rest) v (a, s, e ∙ append_assoc a b rest) w (d ++ more) (c, t, f ∙ append_assoc c d more) in
    let count : length ws ≡ length vs = omega arith in
    let later = each_same k ss ts count (b ++ rest) rest more refl (sym first.1) in
    ((λ i. first.0 i ∷ later.0 i), later.1)

pub list_one : {V : Type 0} {Spells : List ℕ → V → Type 0} → IsFrontOne V Spells → IsFrontOne (List V) (SpellsList Spells)
list_one {Spells = Spells} k = record {
  one = λ bytes rest values b. λ others more c.
      let parts = list_parts Spells bytes rest values b in
      let there = list_later Spells bytes parts.0 more others (length values) (u32_one.one bytes parts.0 (length values) parts.1) c in
      each_same k parts.2.1 there.1.1 there.0 parts.0 rest more parts.2.2 there.1.2;
}

pub bytes_one : IsFrontOne (List ℕ) SpellsBytes
bytes_one = record {
  one = λ bytes rest content b.
      let parts = bytes_parts bytes rest content b in
      bytes_only bytes parts.0 rest content (length content) (u32_one.one bytes parts.0 (length content) parts.1) parts.2 refl;
}

pub sized_one : {V : Type 0} {Spells : List ℕ → V → Type 0} → IsFrontOne V Spells → IsFrontOne V (SpellsSized Spells)
sized_one {Spells = Spells} k = record {
  one = λ bytes rest value (text, (content, s, t), e).
      sized_only Spells bytes content rest [] value (bytes_one.one bytes rest content (text, t, e)) (k.one content [] value (content, s, sym (append-nil content)));
}

-- Behind a first byte that says how the rest is read.
pub tag_one : {V W : Type 0} {Spells : List ℕ → V → Type 0} {Inner : List ℕ → W → Type 0} {make : W → V} {tag : ℕ} → IsTag V W Spells Inner make tag → IsFrontOne W Inner → (bytes text rest : List ℕ) (inner : W) → Inner text inner → bytes ≡ tag ∷ (text ++ rest) → BeginsOnly Spells bytes (make inner) rest
tag_one {tag = tag} t k bytes text rest inner s e = tag_only t {whole = bytes} {behind = text ++ rest} {code = tag} e refl rest inner (k.one (text ++ rest) rest inner (text, s, refl))

pub name_one : IsFrontOne (List ℕ) SpellsName
name_one = record { one = λ bytes rest name (text, (s, is), e). λ other more (front, (t, are), f). bytes_one.one bytes rest name (text, s, e) other more (front, t, f) }

-- A value type is one byte, which no other has.
val_same : {text other : List ℕ} {value kind : ValType} → SpellsValType text value → SpellsValType other kind → (bytes rest more : List ℕ) → bytes ≡ text ++ rest → bytes ≡ other ++ more → (kind ≡ value) × (more ≡ rest)
val_same s t bytes rest more e f = grind arith

pub val_type_one : IsFrontOne ValType SpellsValType
val_type_one = record { one = λ bytes rest value (text, s, e). λ other more (front, t, f). val_same s t bytes rest more e f }

-- No value type begins with the byte for no result.
no_result_front : {text : List ℕ} {value : ValType} → SpellsValType text value → (rest more : List ℕ) → 0x40 ∷ rest ≡ text ++ more → ⊥
no_result_front s rest more e = grind arith

-- A block's type is one byte too.
block_same : {text other : List ℕ} {value kind : Option ValType} → SpellsBlockType text value → SpellsBlockType other kind → (bytes rest more : List ℕ) → bytes ≡ text ++ rest → bytes ≡ other ++ more → (kind ≡ value) × (more ≡ rest)
block_same spells_no_result spells_no_result bytes rest more e f = let same : 0x40 ∷ more ≡ 0x40 ∷ rest = sym f ∙ e in (refl, cc)
block_same spells_no_result (spells_one_result t) bytes rest more e f = absurd (no_result_front t rest more (sym e ∙ f))
block_same (spells_one_result s) spells_no_result bytes rest more e f = absurd (no_result_front s more rest (sym f ∙ e))
block_same (spells_one_result s) (spells_one_result t) bytes rest more e f =
    let same = val_same s t bytes rest more e f in
    (ap (λ z. Some z) same.0, same.1)

pub block_type_one : IsFrontOne (Option ValType) SpellsBlockType
block_type_one = record { one = λ bytes rest value (text, s, e). λ other more (front, t, f). block_same s t bytes rest more e f }

result_same : {values others : List ValType} {value other : Option ValType} → IsResult values value → IsResult others other → others ≡ values → other ≡ value
result_same result_none result_none e = refl
result_same result_none result_one e = absurd (cc)
result_same result_one result_none e = absurd (cc)
result_same result_one result_one e = cc

pub result_type_one : IsFrontOne (Option ValType) SpellsResult
result_type_one = record {
  one = λ bytes rest value (text, (values, s, is), e). λ other more (front, (others, t, are), f).
      let same = (list_one val_type_one).one bytes rest values (text, s, e) others more (front, t, f) in
      (result_same is are same.0, same.1);
}

abbrev func_type_of : Unit {0} × (List ValType × Option ValType) → FuncType
func_type_of parts = record { params = parts.1.0; result = parts.1.1 }

pub func_type_one : IsFrontOne FuncType SpellsFuncType
func_type_one = made_one (λ type. (tt, (type.params, type.result))) func_type_of (λ type. refl) (then_one (mark_one 0x60) (then_one (list_one val_type_one) result_type_one))

bounds_front : {text : List ℕ} {value : Bounds} → SpellsBounds text value → (bytes rest : List ℕ) → bytes ≡ text ++ rest → BeginsOnly SpellsBounds bytes value rest
bounds_front (spells_open {bytes = t} {least = n} s) bytes rest e = tag_one bounds_open u32_one bytes t rest n s e
bounds_front (spells_closed {bytes = t} {least = n} {most = m} s) bytes rest e = tag_one bounds_closed (then_one u32_one u32_one) bytes t rest (n, m) s e

pub bounds_one : IsFrontOne Bounds SpellsBounds
bounds_one = record { one = λ bytes rest value (text, s, e). bounds_front s bytes rest e }

pub table_type_one : IsFrontOne Bounds SpellsTableType
table_type_one = made_one (λ bounds. (tt, bounds)) (λ both. both.1) (λ bounds. refl) (then_one (mark_one 0x70) bounds_one)

mutable_same : {text other : List ℕ} {value kind : Bool} → SpellsMutable text value → SpellsMutable other kind → (bytes rest more : List ℕ) → bytes ≡ text ++ rest → bytes ≡ other ++ more → (kind ≡ value) × (more ≡ rest)
mutable_same s t bytes rest more e f = grind arith

pub mutable_one : IsFrontOne Bool SpellsMutable
mutable_one = record { one = λ bytes rest value (text, s, e). λ other more (front, t, f). mutable_same s t bytes rest more e f }

pub global_type_one : IsFrontOne GlobalType SpellsGlobalType
global_type_one = made_one (λ type. (type.value, type.mutable)) global_type_of (λ type. refl) (then_one val_type_one mutable_one)

import_front : {text : List ℕ} {value : ImportDesc} → SpellsImportDesc text value → (bytes rest : List ℕ) → bytes ≡ text ++ rest → BeginsOnly SpellsImportDesc bytes value rest
import_front (imports_func {bytes = t} {index = n} s) bytes rest e = tag_one import_func u32_one bytes t rest n s e
import_front (imports_table {bytes = t} {bounds = b} s) bytes rest e = tag_one import_table table_type_one bytes t rest b s e
import_front (imports_memory {bytes = t} {bounds = b} s) bytes rest e = tag_one import_memory bounds_one bytes t rest b s e
import_front (imports_global {bytes = t} {type = k} s) bytes rest e = tag_one import_global global_type_one bytes t rest k s e

import_desc_one : IsFrontOne ImportDesc SpellsImportDesc
import_desc_one = record { one = λ bytes rest value (text, s, e). import_front s bytes rest e }

pub import_one : IsFrontOne Import SpellsImport
import_one = made_one (λ entry. (entry.module, (entry.name, entry.desc))) import_of (λ entry. refl) (then_one name_one (then_one name_one import_desc_one))

export_front : {text : List ℕ} {value : ExportDesc} → SpellsExportDesc text value → (bytes rest : List ℕ) → bytes ≡ text ++ rest → BeginsOnly SpellsExportDesc bytes value rest
export_front (exports_func {bytes = t} {index = n} s) bytes rest e = tag_one export_func u32_one bytes t rest n s e
export_front (exports_table {bytes = t} {index = n} s) bytes rest e = tag_one export_table u32_one bytes t rest n s e
export_front (exports_memory {bytes = t} {index = n} s) bytes rest e = tag_one export_memory u32_one bytes t rest n s e
export_front (exports_global {bytes = t} {index = n} s) bytes rest e = tag_one export_global u32_one bytes t rest n s e

export_desc_one : IsFrontOne ExportDesc SpellsExportDesc
export_desc_one = record { one = λ bytes rest value (text, s, e). export_front s bytes rest e }

pub export_one : IsFrontOne Export SpellsExport
export_one = made_one (λ entry. (entry.name, entry.desc)) export_of (λ entry. refl) (then_one name_one export_desc_one)
