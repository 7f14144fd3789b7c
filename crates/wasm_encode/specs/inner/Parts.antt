-- The bytes of a module in parts: one for each section that may stand there.
use Rattle.std.specs.Prelude.{ℕ, List, [], ◌∷◌, ◌++◌, Option, None}
use Rattle.wasm_values.specs.Spelling.{SpellsU32, SpellsList, SpellsSized}
use Rattle.wasm_values.specs.Syntax.{Ops, no_ops}
use Rattle.wasm_values.specs.Values.{SpellsFuncType, SpellsImport, SpellsTableType, SpellsBounds}
use Rattle.wasm_values.specs.Values.{SpellsExport}
use Rattle.wasm_values.specs.Instructions.{SpellsOps, SpellsExpression}
use Rattle.wasm_module.specs.Entries.{Global, SpellsGlobal, Elements, SpellsElement, Function}
use Rattle.wasm_module.specs.Entries.{SpellsCode, Data, SpellsSegment}
use Rattle.wasm_module.specs.Sections.{SpellsStart}
use Rattle.wasm_values.specs.declared.types.FuncType.{FuncType}
use Rattle.wasm_values.specs.declared.types.Bounds.{Bounds}
use Rattle.wasm_values.specs.declared.imports.Import.{Import}
use Rattle.wasm_values.specs.declared.exports.Export.{Export}

-- The two parts of an `if`, of which the second may be left out where it is empty.
pub data SpellsBranches : List ℕ → Ops × Ops → Type 0 where
  branches_one : {bytes : List ℕ} {first : Ops}
      → SpellsOps bytes first
      → SpellsBranches (bytes ++ 0x0b ∷ []) (first, no_ops)
  branches_two : {bytes more : List ℕ} {first second : Ops}
      → SpellsOps bytes first
      → SpellsOps more second
      → SpellsBranches (bytes ++ 0x05 ∷ (more ++ 0x0b ∷ [])) (first, second)

-- A section of a number, or no byte for the empty value.
pub data SpellsPart {V : Type 0} (number : ℕ) (Spells : List ℕ → V → Type 0) (empty : V) : List ℕ → V
    → Type 0 where
  part_absent : SpellsPart number Spells empty [] empty
  part_present : {bytes : List ℕ} {value : V} → SpellsSized Spells bytes value
      → SpellsPart number Spells empty (number ∷ bytes) value

-- What each part holds.
abbrev pub TypesPart : List ℕ → List FuncType → Type 0
TypesPart = SpellsPart 1 (SpellsList SpellsFuncType) []

abbrev pub ImportsPart : List ℕ → List Import → Type 0
ImportsPart = SpellsPart 2 (SpellsList SpellsImport) []

abbrev pub FuncsPart : List ℕ → List ℕ → Type 0
FuncsPart = SpellsPart 3 (SpellsList SpellsU32) []

abbrev pub TablesPart : List ℕ → List Bounds → Type 0
TablesPart = SpellsPart 4 (SpellsList SpellsTableType) []

abbrev pub MemoriesPart : List ℕ → List Bounds → Type 0
MemoriesPart = SpellsPart 5 (SpellsList SpellsBounds) []

abbrev pub GlobalsPart : List ℕ → List (Global Ops) → Type 0
GlobalsPart = SpellsPart 6 (SpellsList (SpellsGlobal SpellsExpression)) []

abbrev pub ExportsPart : List ℕ → List Export → Type 0
ExportsPart = SpellsPart 7 (SpellsList SpellsExport) []

abbrev pub StartPart : List ℕ → Option ℕ → Type 0
StartPart = SpellsPart 8 SpellsStart None

abbrev pub ElementsPart : List ℕ → List (Elements Ops) → Type 0
ElementsPart = SpellsPart 9 (SpellsList (SpellsElement SpellsExpression)) []

abbrev pub CodesPart : List ℕ → List (Function Ops) → Type 0
CodesPart = SpellsPart 10 (SpellsList (SpellsCode SpellsExpression)) []

abbrev pub SegmentsPart : List ℕ → List (Data Ops) → Type 0
SegmentsPart = SpellsPart 11 (SpellsList (SpellsSegment SpellsExpression)) []
