-- Which bytes spell the entries that hold instructions: WebAssembly Core 1.0, chapters 5.5.9, 5.5.12, 5.5.13
-- and 5.5.14.
-- They are stated for any form of expressions.
use Rattle.std.specs.Prelude.{ℕ, List}
use Rattle.wasm_values.specs.Spelling.{SpellsU32, Then, SpellsList, SpellsBytes, SpellsSized}
use Rattle.wasm_values.specs.Syntax.{Ops}
use Rattle.wasm_values.specs.View.{instrs_view}
use Rattle.wasm_values.specs.Values.{SpellsValType, SpellsGlobalType}
use Rattle.wasm_values.specs.declared.types.GlobalType.{GlobalType}
use Rattle.wasm_module.specs.declared.codes.LocalRun.{LocalRun}
use Rattle.wasm_module.specs.declared.codes.Code.{Code}
use Rattle.wasm_module.specs.declared.globals.GlobalDef.{GlobalDef}
use Rattle.wasm_module.specs.declared.elements.Element.{Element}
use Rattle.wasm_module.specs.declared.segments.Segment.{Segment}

-- A global: its type, and the expression of its first value.
abbrev pub Global : Type 0 → Type 0
Global X = GlobalType × X

abbrev pub global_view : GlobalDef → Global Ops
global_view entry = (entry.kind, instrs_view entry.init)

abbrev pub SpellsGlobal : {X : Type 0} → (List ℕ → X → Type 0) → List ℕ → Global X → Type 0
SpellsGlobal Expression = Then SpellsGlobalType Expression

-- An element segment: a table's index, an expression, a list of functions.
abbrev pub Elements : Type 0 → Type 0
Elements X = ℕ × (X × List ℕ)

abbrev pub element_view : Element → Elements Ops
element_view entry = (entry.table, (instrs_view entry.offset, entry.funcs))

abbrev pub SpellsElement : {X : Type 0} → (List ℕ → X → Type 0) → List ℕ → Elements X → Type 0
SpellsElement Expression = Then SpellsU32 (Then Expression (SpellsList SpellsU32))

-- A run of locals: their count and their type.
abbrev pub SpellsLocalRun : List ℕ → LocalRun → Type 0
SpellsLocalRun bytes run = Then SpellsU32 SpellsValType bytes (run.count, run.value)

-- A function's code: the runs of its locals, and its body.
abbrev pub Function : Type 0 → Type 0
Function X = List LocalRun × X

abbrev pub code_view : Code → Function Ops
code_view entry = (entry.locals, instrs_view entry.body)

-- Its text is a size, and so many bytes that are the locals and the body.
abbrev pub SpellsCode : {X : Type 0} → (List ℕ → X → Type 0) → List ℕ → Function X → Type 0
SpellsCode Expression = SpellsSized (Then (SpellsList SpellsLocalRun) Expression)

-- A data segment: a memory's index, an expression, a list of bytes.
abbrev pub Data : Type 0 → Type 0
Data X = ℕ × (X × List ℕ)

abbrev pub segment_view : Segment → Data Ops
segment_view entry = (entry.memory, (instrs_view entry.offset, entry.bytes))

abbrev pub SpellsSegment : {X : Type 0} → (List ℕ → X → Type 0) → List ℕ → Data X → Type 0
SpellsSegment Expression = Then SpellsU32 (Then Expression SpellsBytes)
