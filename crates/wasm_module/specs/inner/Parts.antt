-- How the sections that a reader found are seen, and what it read of them.
use Rattle.std.specs.Prelude.{ℕ, List, [], Option, None, map}
use Rattle.wasm_values.specs.Spelling.{SpellsU32, SpellsList}
use Rattle.wasm_values.specs.Values.{SpellsFuncType, SpellsImport, SpellsTableType, SpellsBounds}
use Rattle.wasm_values.specs.Values.{SpellsExport}
use Rattle.wasm_module.specs.Entries.{Global, SpellsGlobal, Elements, SpellsElement}
use Rattle.wasm_module.specs.Entries.{Function, SpellsCode, Data, SpellsSegment}
use Rattle.wasm_module.specs.Sections.{Section, Syntax, Holds, SpellsStart, content_of}
use Rattle.wasm_values.specs.declared.exports.Export.{Export}
use Rattle.wasm_module.specs.declared.parts.Declared.{Declared}
use Rattle.wasm_module.specs.declared.parts.Parts.{Parts}
use Rattle.wasm_module.specs.declared.outline.Section.{Section as Found}

abbrev pub section_view : Found → Section
section_view section = (section.number, section.content.now)

-- The module whose entries are seen in these ways.
abbrev pub parts_view : {G E C S X : Type 0} → (G → Global X) → (E → Elements X) → (C → Function X)
    → (S → Data X) → Parts G E C S → Syntax X
parts_view global element code segment parts = record {
  types = parts.declared.types;
  imports = parts.declared.imports;
  funcs = parts.declared.funcs;
  tables = parts.declared.tables;
  memories = parts.declared.memories;
  globals = map global parts.defined.globals;
  exports = parts.defined.exports;
  start = parts.defined.start;
  elements = map element parts.defined.elements;
  codes = map code parts.defined.codes;
  segments = map segment parts.defined.segments;
}

-- What the sections before that of the globals hold.
pub record AreDeclared (sections : List Section) (found : Declared) : Type 0 where
  pub types : Holds (SpellsList SpellsFuncType) [] (content_of 1 sections) found.types
  pub imports : Holds (SpellsList SpellsImport) [] (content_of 2 sections) found.imports
  pub funcs : Holds (SpellsList SpellsU32) [] (content_of 3 sections) found.funcs
  pub tables : Holds (SpellsList SpellsTableType) [] (content_of 4 sections) found.tables
  pub memories : Holds (SpellsList SpellsBounds) [] (content_of 5 sections) found.memories

-- What the sections from that of the globals on hold, with expressions of a form.
pub record AreDefined {X : Type 0} (Expression : List ℕ → X → Type 0) (sections : List Section)
    (globals : List (Global X)) (exports : List Export) (start : Option ℕ) (elements : List (Elements X))
    (codes : List (Function X)) (segments : List (Data X)) : Type 0 where
  pub globals_held : Holds (SpellsList (SpellsGlobal Expression)) [] (content_of 6 sections) globals
  pub exports_held : Holds (SpellsList SpellsExport) [] (content_of 7 sections) exports
  pub start_held : Holds SpellsStart None (content_of 8 sections) start
  pub elements_held : Holds (SpellsList (SpellsElement Expression)) [] (content_of 9 sections) elements
  pub codes_held : Holds (SpellsList (SpellsCode Expression)) [] (content_of 10 sections) codes
  pub segments_held : Holds (SpellsList (SpellsSegment Expression)) [] (content_of 11 sections) segments
