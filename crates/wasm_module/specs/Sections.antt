-- Which bytes spell a module: WebAssembly Core 1.0, chapters 5.5.2 to 5.5.15.
-- The forms are stated for any form of expressions, since readers use them with narrower ones than the
-- standard's.
use Rattle.std.specs.Prelude.{◌≡◌, ℕ, ◌<◌, ◌≤◌, List, [], ◌∷◌, ◌++◌, length, map, Option, Some, None, cond}
use Rattle.std.specs.Prelude.{nat_eq}
use Rattle.byte_fields.specs.Front.{Begins}
use Rattle.wasm_values.specs.Spelling.{SpellsU32, SpellsByte, Then, SpellsEach, SpellsList}
use Rattle.wasm_values.specs.Spelling.{SpellsBytes}
use Rattle.wasm_values.specs.Syntax.{Ops}
use Rattle.wasm_values.specs.Values.{SpellsName, SpellsFuncType, SpellsImport, SpellsTableType}
use Rattle.wasm_values.specs.Values.{SpellsBounds, SpellsExport}
use Rattle.wasm_values.specs.Instructions.{SpellsExpression}
use Rattle.wasm_module.specs.Entries.{Global, global_view, SpellsGlobal, Elements, element_view}
use Rattle.wasm_module.specs.Entries.{SpellsElement, Function, code_view, SpellsCode, Data}
use Rattle.wasm_module.specs.Entries.{segment_view, SpellsSegment}
use Rattle.wasm_values.specs.declared.types.FuncType.{FuncType}
use Rattle.wasm_values.specs.declared.types.Bounds.{Bounds}
use Rattle.wasm_values.specs.declared.imports.Import.{Import}
use Rattle.wasm_values.specs.declared.exports.Export.{Export}
use Rattle.wasm_module.specs.declared.module.Module.{Module}

-- A module as the standard has it: what its sections hold, in their order.
pub record Syntax (X : Type 0) : Type 0 where
  pub types : List FuncType
  pub imports : List Import
  pub funcs : List ℕ
  pub tables : List Bounds
  pub memories : List Bounds
  pub globals : List (Global X)
  pub exports : List Export
  pub start : Option ℕ
  pub elements : List (Elements X)
  pub codes : List (Function X)
  pub segments : List (Data X)

-- The module that a value of `Module` stands for.
abbrev pub module_view : Module → Syntax Ops
module_view m = record {
  types = m.types;
  imports = m.imports;
  funcs = m.funcs;
  tables = m.tables;
  memories = m.memories;
  globals = map global_view m.globals;
  exports = m.exports;
  start = m.start;
  elements = map element_view m.elements;
  codes = map code_view m.codes;
  segments = map segment_view m.segments;
}

-- A section as it stands: its number, and its content.
abbrev pub Section : Type 0
Section = ℕ × List ℕ

-- Its text is the number, a size, and so many bytes, which are the content.
abbrev pub SpellsSection : List ℕ → Section → Type 0
SpellsSection = Then SpellsByte SpellsBytes

-- The content of a custom section: a name, and any bytes.
abbrev pub IsCustom : List ℕ → Type 0
IsCustom content = (name : List ℕ) × (rest : List ℕ) × Begins SpellsName content name rest

-- Custom sections, of number 0, stand anywhere. The numbers of the others rise above `last`, up to 11.
pub data AreOrdered : ℕ → List Section → Type 0 where
  ordered_end : {last : ℕ} → AreOrdered last []
  ordered_custom : {last : ℕ} {content : List ℕ} {more : List Section} → IsCustom content
      → AreOrdered last more → AreOrdered last ((0, content) ∷ more)
  ordered_part : {last number : ℕ} {content : List ℕ} {more : List Section} → last < number → number ≤ 11
      → AreOrdered number more → AreOrdered last ((number, content) ∷ more)

-- The content of the first section of a number, if there is one.
abbrev pub content_of : ℕ → List Section → Option (List ℕ)
content_of number [] = None
content_of number (section ∷ more) = cond (nat_eq section.0 number) (Some section.1) (content_of number more)

-- What a section holds, by the form of its content. One that is absent holds the empty value.
abbrev pub Holds : {V : Type 0} → (List ℕ → V → Type 0) → V → Option (List ℕ) → V → Type 0
Holds Spells empty None value = value ≡ empty
Holds Spells empty (Some content) value = Spells content value

-- The content of the section of the start function.
abbrev pub SpellsStart : List ℕ → Option ℕ → Type 0
SpellsStart bytes start = (func : ℕ) × SpellsU32 bytes func × (start ≡ Some func)

-- What the sections hold, with expressions of a form.
pub record AreOf {X : Type 0} (Expression : List ℕ → X → Type 0) (sections : List Section)
    (m : Syntax X) : Type 0 where
  pub types : Holds (SpellsList SpellsFuncType) [] (content_of 1 sections) m.types
  pub imports : Holds (SpellsList SpellsImport) [] (content_of 2 sections) m.imports
  pub funcs : Holds (SpellsList SpellsU32) [] (content_of 3 sections) m.funcs
  pub tables : Holds (SpellsList SpellsTableType) [] (content_of 4 sections) m.tables
  pub memories : Holds (SpellsList SpellsBounds) [] (content_of 5 sections) m.memories
  pub globals : Holds (SpellsList (SpellsGlobal Expression)) [] (content_of 6 sections) m.globals
  pub exports : Holds (SpellsList SpellsExport) [] (content_of 7 sections) m.exports
  pub start : Holds SpellsStart None (content_of 8 sections) m.start
  pub elements : Holds (SpellsList (SpellsElement Expression)) [] (content_of 9 sections) m.elements
  pub codes : Holds (SpellsList (SpellsCode Expression)) [] (content_of 10 sections) m.codes
  pub segments : Holds (SpellsList (SpellsSegment Expression)) [] (content_of 11 sections) m.segments
  pub functions : length m.funcs ≡ length m.codes

-- The first bytes of a module: four that name the form, and its version 1.
abbrev pub opening : List ℕ
opening = 0x00 ∷ 0x61 ∷ 0x73 ∷ 0x6d ∷ 0x01 ∷ 0x00 ∷ 0x00 ∷ 0x00 ∷ []

-- The bytes are the opening and these sections.
pub record AreSections (bytes : List ℕ) (sections : List Section) : Type 0 where
  pub text : List ℕ
  pub whole : bytes ≡ opening ++ text
  pub spelled : SpellsEach SpellsSection text sections
  pub ordered : AreOrdered 0 sections

-- The bytes spell a module with expressions of a form.
abbrev pub SpellsWith : {X : Type 0} → (List ℕ → X → Type 0) → List ℕ → Syntax X → Type 0
SpellsWith Expression bytes m =
    (sections : List Section) × AreSections bytes sections × AreOf Expression sections m

-- The bytes spell the module.
abbrev pub Spells : List ℕ → Syntax Ops → Type 0
Spells = SpellsWith SpellsExpression
