-- A module is its opening and its parts.
use Rattle.std.proofs.Common.{◌≡◌, ℕ, ◌+◌, ◌≤◌, List, [], ◌++◌, length, length-append, refl, ap, sym, ◌∙◌, subst, arith, Option, None}
use Rattle.byte_fields.specs.Front.{SpellsShortest}
use Rattle.wasm_values.specs.Spelling.{SpellsU32, Then, SpellsList}
use Rattle.wasm_values.specs.Syntax.{Ops}
use Rattle.wasm_values.specs.Values.{SpellsFuncType, SpellsImport, SpellsTableType, SpellsBounds, SpellsExport}
use Rattle.wasm_values.specs.Instructions.{SpellsExpression}
use Rattle.wasm_module.specs.Entries.{Global, SpellsGlobal, Elements, SpellsElement, Function, SpellsCode, Data, SpellsSegment}
use Rattle.wasm_module.specs.Sections.{Syntax, Section, SpellsStart, AreOf, opening, Spells}
use Rattle.wasm_values.specs.declared.types.FuncType.{FuncType}
use Rattle.wasm_values.specs.declared.types.Bounds.{Bounds}
use Rattle.wasm_values.specs.declared.imports.Import.{Import}
use Rattle.wasm_values.specs.declared.exports.Export.{Export}
use Rattle.wasm_values.proofs.Opcodes.{SpellsNothing}
use Rattle.wasm_encode.specs.inner.Gains.{IsSpelled, Gains}
use Rattle.wasm_encode.specs.inner.Parts.{TypesPart, ImportsPart, FuncsPart, TablesPart, MemoriesPart, GlobalsPart, ExportsPart, StartPart, ElementsPart, CodesPart, SegmentsPart}
use Rattle.wasm_encode.proofs.Shortest.{gains_then, first_spelled, second_spelled}
use Rattle.wasm_encode.proofs.Texts.{HasText, then_text}
use Rattle.wasm_encode.proofs.Blocks.{gains_nothing}
use Rattle.wasm_encode.proofs.Once.{IsOne, then_one, nothing_one}
use Rattle.wasm_encode.proofs.OnceValues.{types_one, imports_one, funcs_one, tables_one, memories_one, globals_one, exports_one, start_one, elements_one, codes_one, segments_one}
use Rattle.wasm_encode.proofs.Assembled.{Contents, contents, With, IsForm, Assembled, form_end, form_more}

-- The parts from each number on: what they hold, how it is spelled, and what holds of the sections.
abbrev Values12 : Type 0
Values12 = Unit {0}

abbrev values12 : Syntax Ops → Values12
values12 m = tt

abbrev Text12 : List ℕ → Values12 → Type 0
Text12 = SpellsNothing

abbrev Fact12 : Syntax Ops → Contents → Type 0
Fact12 m f = Unit {0}

form12 : (m : Syntax Ops) → IsForm 11 Text12 (values12 m) (Fact12 m)
form12 m = form_end

abbrev Values11 : Type 0
Values11 = List (Data Ops) × Values12

abbrev values11 : Syntax Ops → Values11
values11 m = (m.segments, values12 m)

abbrev Text11 : List ℕ → Values11 → Type 0
Text11 = Then SegmentsPart Text12

abbrev Fact11 : Syntax Ops → Contents → Type 0
Fact11 m = With 11 (SpellsList (SpellsSegment SpellsExpression)) [] m.segments (Fact12 m)

form11 : (m : Syntax Ops) → IsForm 10 Text11 (values11 m) (Fact11 m)
form11 m = form_more (SpellsList (SpellsSegment SpellsExpression)) [] m.segments Text12 (values12 m) 11 10 (Fact12 m) (form12 m) refl (omega arith)

abbrev Values10 : Type 0
Values10 = List (Function Ops) × Values11

abbrev values10 : Syntax Ops → Values10
values10 m = (m.codes, values11 m)

abbrev Text10 : List ℕ → Values10 → Type 0
Text10 = Then CodesPart Text11

abbrev Fact10 : Syntax Ops → Contents → Type 0
Fact10 m = With 10 (SpellsList (SpellsCode SpellsExpression)) [] m.codes (Fact11 m)

form10 : (m : Syntax Ops) → IsForm 9 Text10 (values10 m) (Fact10 m)
form10 m = form_more (SpellsList (SpellsCode SpellsExpression)) [] m.codes Text11 (values11 m) 10 9 (Fact11 m) (form11 m) refl (omega arith)

abbrev Values9 : Type 0
Values9 = List (Elements Ops) × Values10

abbrev values9 : Syntax Ops → Values9
values9 m = (m.elements, values10 m)

abbrev Text9 : List ℕ → Values9 → Type 0
Text9 = Then ElementsPart Text10

abbrev Fact9 : Syntax Ops → Contents → Type 0
Fact9 m = With 9 (SpellsList (SpellsElement SpellsExpression)) [] m.elements (Fact10 m)

form9 : (m : Syntax Ops) → IsForm 8 Text9 (values9 m) (Fact9 m)
form9 m = form_more (SpellsList (SpellsElement SpellsExpression)) [] m.elements Text10 (values10 m) 9 8 (Fact10 m) (form10 m) refl (omega arith)

abbrev Values8 : Type 0
Values8 = Option ℕ × Values9

abbrev values8 : Syntax Ops → Values8
values8 m = (m.start, values9 m)

abbrev Text8 : List ℕ → Values8 → Type 0
Text8 = Then StartPart Text9

abbrev Fact8 : Syntax Ops → Contents → Type 0
Fact8 m = With 8 (SpellsStart) None m.start (Fact9 m)

form8 : (m : Syntax Ops) → IsForm 7 Text8 (values8 m) (Fact8 m)
form8 m = form_more (SpellsStart) None m.start Text9 (values9 m) 8 7 (Fact9 m) (form9 m) refl (omega arith)

abbrev Values7 : Type 0
Values7 = List Export × Values8

abbrev values7 : Syntax Ops → Values7
values7 m = (m.exports, values8 m)

abbrev Text7 : List ℕ → Values7 → Type 0
Text7 = Then ExportsPart Text8

abbrev Fact7 : Syntax Ops → Contents → Type 0
Fact7 m = With 7 (SpellsList SpellsExport) [] m.exports (Fact8 m)

form7 : (m : Syntax Ops) → IsForm 6 Text7 (values7 m) (Fact7 m)
form7 m = form_more (SpellsList SpellsExport) [] m.exports Text8 (values8 m) 7 6 (Fact8 m) (form8 m) refl (omega arith)

abbrev Values6 : Type 0
Values6 = List (Global Ops) × Values7

abbrev values6 : Syntax Ops → Values6
values6 m = (m.globals, values7 m)

abbrev Text6 : List ℕ → Values6 → Type 0
Text6 = Then GlobalsPart Text7

abbrev Fact6 : Syntax Ops → Contents → Type 0
Fact6 m = With 6 (SpellsList (SpellsGlobal SpellsExpression)) [] m.globals (Fact7 m)

form6 : (m : Syntax Ops) → IsForm 5 Text6 (values6 m) (Fact6 m)
form6 m = form_more (SpellsList (SpellsGlobal SpellsExpression)) [] m.globals Text7 (values7 m) 6 5 (Fact7 m) (form7 m) refl (omega arith)

abbrev Values5 : Type 0
Values5 = List Bounds × Values6

abbrev values5 : Syntax Ops → Values5
values5 m = (m.memories, values6 m)

abbrev Text5 : List ℕ → Values5 → Type 0
Text5 = Then MemoriesPart Text6

abbrev Fact5 : Syntax Ops → Contents → Type 0
Fact5 m = With 5 (SpellsList SpellsBounds) [] m.memories (Fact6 m)

form5 : (m : Syntax Ops) → IsForm 4 Text5 (values5 m) (Fact5 m)
form5 m = form_more (SpellsList SpellsBounds) [] m.memories Text6 (values6 m) 5 4 (Fact6 m) (form6 m) refl (omega arith)

abbrev Values4 : Type 0
Values4 = List Bounds × Values5

abbrev values4 : Syntax Ops → Values4
values4 m = (m.tables, values5 m)

abbrev Text4 : List ℕ → Values4 → Type 0
Text4 = Then TablesPart Text5

abbrev Fact4 : Syntax Ops → Contents → Type 0
Fact4 m = With 4 (SpellsList SpellsTableType) [] m.tables (Fact5 m)

form4 : (m : Syntax Ops) → IsForm 3 Text4 (values4 m) (Fact4 m)
form4 m = form_more (SpellsList SpellsTableType) [] m.tables Text5 (values5 m) 4 3 (Fact5 m) (form5 m) refl (omega arith)

abbrev Values3 : Type 0
Values3 = List ℕ × Values4

abbrev values3 : Syntax Ops → Values3
values3 m = (m.funcs, values4 m)

abbrev Text3 : List ℕ → Values3 → Type 0
Text3 = Then FuncsPart Text4

abbrev Fact3 : Syntax Ops → Contents → Type 0
Fact3 m = With 3 (SpellsList SpellsU32) [] m.funcs (Fact4 m)

form3 : (m : Syntax Ops) → IsForm 2 Text3 (values3 m) (Fact3 m)
form3 m = form_more (SpellsList SpellsU32) [] m.funcs Text4 (values4 m) 3 2 (Fact4 m) (form4 m) refl (omega arith)

abbrev Values2 : Type 0
Values2 = List Import × Values3

abbrev values2 : Syntax Ops → Values2
values2 m = (m.imports, values3 m)

abbrev Text2 : List ℕ → Values2 → Type 0
Text2 = Then ImportsPart Text3

abbrev Fact2 : Syntax Ops → Contents → Type 0
Fact2 m = With 2 (SpellsList SpellsImport) [] m.imports (Fact3 m)

form2 : (m : Syntax Ops) → IsForm 1 Text2 (values2 m) (Fact2 m)
form2 m = form_more (SpellsList SpellsImport) [] m.imports Text3 (values3 m) 2 1 (Fact3 m) (form3 m) refl (omega arith)

abbrev Values1 : Type 0
Values1 = List FuncType × Values2

abbrev values1 : Syntax Ops → Values1
values1 m = (m.types, values2 m)

abbrev Text1 : List ℕ → Values1 → Type 0
Text1 = Then TypesPart Text2

abbrev Fact1 : Syntax Ops → Contents → Type 0
Fact1 m = With 1 (SpellsList SpellsFuncType) [] m.types (Fact2 m)

form1 : (m : Syntax Ops) → IsForm 0 Text1 (values1 m) (Fact1 m)
form1 m = form_more (SpellsList SpellsFuncType) [] m.types Text2 (values2 m) 1 0 (Fact2 m) (form2 m) refl (omega arith)

-- The facts together are what the sections hold.
are_of : (m : Syntax Ops) (sections : List Section) → Fact1 m (contents sections) → length m.funcs ≡ length m.codes → AreOf SpellsExpression sections m
are_of m sections h same = record {
  types = h.0;
  imports = h.1.0;
  funcs = h.1.1.0;
  tables = h.1.1.1.0;
  memories = h.1.1.1.1.0;
  globals = h.1.1.1.1.1.0;
  exports = h.1.1.1.1.1.1.0;
  start = h.1.1.1.1.1.1.1.0;
  elements = h.1.1.1.1.1.1.1.1.0;
  codes = h.1.1.1.1.1.1.1.1.1.0;
  segments = h.1.1.1.1.1.1.1.1.1.1.0;
  functions = same;
}

facts_of : (m : Syntax Ops) (sections : List Section) → AreOf SpellsExpression sections m → Fact1 m (contents sections)
facts_of m sections of = (of.types, (of.imports, (of.funcs, (of.tables, (of.memories, (of.globals, (of.exports, (of.start, (of.elements, (of.codes, (of.segments, tt)))))))))))

-- Texts of the parts, behind the opening, spell the module.
parts_spell : (m : Syntax Ops) (text : List ℕ) → Text1 text (values1 m) → length m.funcs ≡ length m.codes → Spells (opening ++ text) m
parts_spell m text t same =
    let all = (form1 m).assemble text t in
    (all.sections, record { text = text; whole = refl; spelled = all.spelled; ordered = all.ordered }, are_of m all.sections all.holds same)

-- A text of the module has texts of the parts, which are no longer, and the same if they are no shorter.
parts_taken : (m : Syntax Ops) (bytes : List ℕ) → Spells bytes m → (text : List ℕ) × Text1 text (values1 m) × (8 + length text ≤ length bytes) × (length bytes ≤ 8 + length text → bytes ≡ opening ++ text)
parts_taken m bytes (sections, s, of) =
    let all : Assembled 0 s.text (Fact1 m) = record { sections = sections; spelled = s.spelled; ordered = s.ordered; holds = facts_of m sections of } in
    let taken = (form1 m).take s.text all in
    (taken.0, taken.1, omega (arith, taken.2, ap length s.whole, length-append opening s.text), λ h. s.whole ∙ ap (λ z. opening ++ z) (taken.3 (omega (arith, ap length s.whole, length-append opening s.text, h))))

same_functions : (m : Syntax Ops) → IsSpelled Spells m → length m.funcs ≡ length m.codes
same_functions m (bytes, (sections, s, of)) = of.functions

spelled1 : (m : Syntax Ops) → IsSpelled Spells m → IsSpelled Text1 (values1 m)
spelled1 m (bytes, s) = let taken = parts_taken m bytes s in (taken.0, taken.1)

spelled2 : (m : Syntax Ops) → IsSpelled Spells m → IsSpelled Text2 (values2 m)
spelled2 m s = second_spelled TypesPart Text2 (values1 m) (spelled1 m s)

spelled3 : (m : Syntax Ops) → IsSpelled Spells m → IsSpelled Text3 (values3 m)
spelled3 m s = second_spelled ImportsPart Text3 (values2 m) (spelled2 m s)

spelled4 : (m : Syntax Ops) → IsSpelled Spells m → IsSpelled Text4 (values4 m)
spelled4 m s = second_spelled FuncsPart Text4 (values3 m) (spelled3 m s)

spelled5 : (m : Syntax Ops) → IsSpelled Spells m → IsSpelled Text5 (values5 m)
spelled5 m s = second_spelled TablesPart Text5 (values4 m) (spelled4 m s)

spelled6 : (m : Syntax Ops) → IsSpelled Spells m → IsSpelled Text6 (values6 m)
spelled6 m s = second_spelled MemoriesPart Text6 (values5 m) (spelled5 m s)

spelled7 : (m : Syntax Ops) → IsSpelled Spells m → IsSpelled Text7 (values7 m)
spelled7 m s = second_spelled GlobalsPart Text7 (values6 m) (spelled6 m s)

spelled8 : (m : Syntax Ops) → IsSpelled Spells m → IsSpelled Text8 (values8 m)
spelled8 m s = second_spelled ExportsPart Text8 (values7 m) (spelled7 m s)

spelled9 : (m : Syntax Ops) → IsSpelled Spells m → IsSpelled Text9 (values9 m)
spelled9 m s = second_spelled StartPart Text9 (values8 m) (spelled8 m s)

spelled10 : (m : Syntax Ops) → IsSpelled Spells m → IsSpelled Text10 (values10 m)
spelled10 m s = second_spelled ElementsPart Text10 (values9 m) (spelled9 m s)

spelled11 : (m : Syntax Ops) → IsSpelled Spells m → IsSpelled Text11 (values11 m)
spelled11 m s = second_spelled CodesPart Text11 (values10 m) (spelled10 m s)

-- Each part of a module that is spelled is spelled.
pub types_spelled : (m : Syntax Ops) → IsSpelled Spells m → IsSpelled TypesPart m.types
types_spelled m s = first_spelled TypesPart Text2 (values1 m) (spelled1 m s)

pub imports_spelled : (m : Syntax Ops) → IsSpelled Spells m → IsSpelled ImportsPart m.imports
imports_spelled m s = first_spelled ImportsPart Text3 (values2 m) (spelled2 m s)

pub funcs_spelled : (m : Syntax Ops) → IsSpelled Spells m → IsSpelled FuncsPart m.funcs
funcs_spelled m s = first_spelled FuncsPart Text4 (values3 m) (spelled3 m s)

pub tables_spelled : (m : Syntax Ops) → IsSpelled Spells m → IsSpelled TablesPart m.tables
tables_spelled m s = first_spelled TablesPart Text5 (values4 m) (spelled4 m s)

pub memories_spelled : (m : Syntax Ops) → IsSpelled Spells m → IsSpelled MemoriesPart m.memories
memories_spelled m s = first_spelled MemoriesPart Text6 (values5 m) (spelled5 m s)

pub globals_spelled : (m : Syntax Ops) → IsSpelled Spells m → IsSpelled GlobalsPart m.globals
globals_spelled m s = first_spelled GlobalsPart Text7 (values6 m) (spelled6 m s)

pub exports_spelled : (m : Syntax Ops) → IsSpelled Spells m → IsSpelled ExportsPart m.exports
exports_spelled m s = first_spelled ExportsPart Text8 (values7 m) (spelled7 m s)

pub start_spelled : (m : Syntax Ops) → IsSpelled Spells m → IsSpelled StartPart m.start
start_spelled m s = first_spelled StartPart Text9 (values8 m) (spelled8 m s)

pub elements_spelled : (m : Syntax Ops) → IsSpelled Spells m → IsSpelled ElementsPart m.elements
elements_spelled m s = first_spelled ElementsPart Text10 (values9 m) (spelled9 m s)

pub codes_spelled : (m : Syntax Ops) → IsSpelled Spells m → IsSpelled CodesPart m.codes
codes_spelled m s = first_spelled CodesPart Text11 (values10 m) (spelled10 m s)

pub segments_spelled : (m : Syntax Ops) → IsSpelled Spells m → IsSpelled SegmentsPart m.segments
segments_spelled m s = first_spelled SegmentsPart Text12 (values11 m) (spelled11 m s)

-- A shortest text of the parts, behind the opening.
whole_shortest : (m : Syntax Ops) (text : List ℕ) → SpellsShortest Text1 text (values1 m) → IsSpelled Spells m → SpellsShortest Spells (opening ++ text) m
whole_shortest m text s spelled =
    (parts_spell m text s.0 (same_functions m spelled), λ other t. let taken = parts_taken m other t in omega (arith, s.1 taken.0 taken.1, taken.2, length-append opening text))

-- There is one shortest text of the parts.
parts_one : (m : Syntax Ops) → IsOne Values1 Text1 (values1 m)
parts_one m = then_one TypesPart Text2 m.types (values2 m) (types_one m.types) (then_one ImportsPart Text3 m.imports (values3 m) (imports_one m.imports) (then_one FuncsPart Text4 m.funcs (values4 m) (funcs_one m.funcs) (then_one TablesPart Text5 m.tables (values5 m) (tables_one m.tables) (then_one MemoriesPart Text6 m.memories (values6 m) (memories_one m.memories) (then_one GlobalsPart Text7 m.globals (values7 m) (globals_one m.globals) (then_one ExportsPart Text8 m.exports (values8 m) (exports_one m.exports) (then_one StartPart Text9 m.start (values9 m) (start_one m.start) (then_one ElementsPart Text10 m.elements (values10 m) (elements_one m.elements) (then_one CodesPart Text11 m.codes (values11 m) (codes_one m.codes) (then_one SegmentsPart Text12 m.segments (values12 m) (segments_one m.segments) nothing_one))))))))))

-- A shortest text of the module is a shortest text of the parts, behind the opening.
parts_shortest : (m : Syntax Ops) (bytes : List ℕ) → SpellsShortest Spells bytes m → (text : List ℕ) × SpellsShortest Text1 text (values1 m) × (bytes ≡ opening ++ text)
parts_shortest m bytes (s, least) =
    let taken = parts_taken m bytes s in
    let same = same_functions m (bytes, s) in
    (taken.0, (taken.1, λ other t. omega (arith, least (opening ++ other) (parts_spell m other t same), taken.2, length-append opening other)), taken.3 (omega (arith, least (opening ++ taken.0) (parts_spell m taken.0 taken.1 same), length-append opening taken.0)))

-- There is one shortest text of the module.
pub whole_one : (m : Syntax Ops) (a b : List ℕ) → SpellsShortest Spells a m → SpellsShortest Spells b m → a ≡ b
whole_one m a b s t =
    let first = parts_shortest m a s in
    let second = parts_shortest m b t in
    first.2 ∙ ap (λ z. opening ++ z) ((parts_one m).same first.0 second.0 first.1 second.1) ∙ sym second.2

-- The parts, one behind the other.
gains11 : (m : Syntax Ops) (a11 a12 : List ℕ) → Gains SegmentsPart m.segments a11 a12 → Gains Text11 (values11 m) a11 a12
gains11 m a11 a12 s11 = gains_then SegmentsPart Text12 m.segments (values12 m) a11 a12 a12 s11 (gains_nothing a12)

gains10 : (m : Syntax Ops) (a10 a11 a12 : List ℕ) → Gains CodesPart m.codes a10 a11 → Gains SegmentsPart m.segments a11 a12 → Gains Text10 (values10 m) a10 a12
gains10 m a10 a11 a12 s10 s11 = gains_then CodesPart Text11 m.codes (values11 m) a10 a11 a12 s10 (gains11 m a11 a12 s11)

gains9 : (m : Syntax Ops) (a9 a10 a11 a12 : List ℕ) → Gains ElementsPart m.elements a9 a10 → Gains CodesPart m.codes a10 a11 → Gains SegmentsPart m.segments a11 a12 → Gains Text9 (values9 m) a9 a12
gains9 m a9 a10 a11 a12 s9 s10 s11 = gains_then ElementsPart Text10 m.elements (values10 m) a9 a10 a12 s9 (gains10 m a10 a11 a12 s10 s11)

gains8 : (m : Syntax Ops) (a8 a9 a10 a11 a12 : List ℕ) → Gains StartPart m.start a8 a9 → Gains ElementsPart m.elements a9 a10 → Gains CodesPart m.codes a10 a11 → Gains SegmentsPart m.segments a11 a12 → Gains Text8 (values8 m) a8 a12
gains8 m a8 a9 a10 a11 a12 s8 s9 s10 s11 = gains_then StartPart Text9 m.start (values9 m) a8 a9 a12 s8 (gains9 m a9 a10 a11 a12 s9 s10 s11)

gains7 : (m : Syntax Ops) (a7 a8 a9 a10 a11 a12 : List ℕ) → Gains ExportsPart m.exports a7 a8 → Gains StartPart m.start a8 a9 → Gains ElementsPart m.elements a9 a10 → Gains CodesPart m.codes a10 a11 → Gains SegmentsPart m.segments a11 a12 → Gains Text7 (values7 m) a7 a12
gains7 m a7 a8 a9 a10 a11 a12 s7 s8 s9 s10 s11 = gains_then ExportsPart Text8 m.exports (values8 m) a7 a8 a12 s7 (gains8 m a8 a9 a10 a11 a12 s8 s9 s10 s11)

gains6 : (m : Syntax Ops) (a6 a7 a8 a9 a10 a11 a12 : List ℕ) → Gains GlobalsPart m.globals a6 a7 → Gains ExportsPart m.exports a7 a8 → Gains StartPart m.start a8 a9 → Gains ElementsPart m.elements a9 a10 → Gains CodesPart m.codes a10 a11 → Gains SegmentsPart m.segments a11 a12 → Gains Text6 (values6 m) a6 a12
gains6 m a6 a7 a8 a9 a10 a11 a12 s6 s7 s8 s9 s10 s11 = gains_then GlobalsPart Text7 m.globals (values7 m) a6 a7 a12 s6 (gains7 m a7 a8 a9 a10 a11 a12 s7 s8 s9 s10 s11)

gains5 : (m : Syntax Ops) (a5 a6 a7 a8 a9 a10 a11 a12 : List ℕ) → Gains MemoriesPart m.memories a5 a6 → Gains GlobalsPart m.globals a6 a7 → Gains ExportsPart m.exports a7 a8 → Gains StartPart m.start a8 a9 → Gains ElementsPart m.elements a9 a10 → Gains CodesPart m.codes a10 a11 → Gains SegmentsPart m.segments a11 a12 → Gains Text5 (values5 m) a5 a12
gains5 m a5 a6 a7 a8 a9 a10 a11 a12 s5 s6 s7 s8 s9 s10 s11 = gains_then MemoriesPart Text6 m.memories (values6 m) a5 a6 a12 s5 (gains6 m a6 a7 a8 a9 a10 a11 a12 s6 s7 s8 s9 s10 s11)

gains4 : (m : Syntax Ops) (a4 a5 a6 a7 a8 a9 a10 a11 a12 : List ℕ) → Gains TablesPart m.tables a4 a5 → Gains MemoriesPart m.memories a5 a6 → Gains GlobalsPart m.globals a6 a7 → Gains ExportsPart m.exports a7 a8 → Gains StartPart m.start a8 a9 → Gains ElementsPart m.elements a9 a10 → Gains CodesPart m.codes a10 a11 → Gains SegmentsPart m.segments a11 a12 → Gains Text4 (values4 m) a4 a12
gains4 m a4 a5 a6 a7 a8 a9 a10 a11 a12 s4 s5 s6 s7 s8 s9 s10 s11 = gains_then TablesPart Text5 m.tables (values5 m) a4 a5 a12 s4 (gains5 m a5 a6 a7 a8 a9 a10 a11 a12 s5 s6 s7 s8 s9 s10 s11)

gains3 : (m : Syntax Ops) (a3 a4 a5 a6 a7 a8 a9 a10 a11 a12 : List ℕ) → Gains FuncsPart m.funcs a3 a4 → Gains TablesPart m.tables a4 a5 → Gains MemoriesPart m.memories a5 a6 → Gains GlobalsPart m.globals a6 a7 → Gains ExportsPart m.exports a7 a8 → Gains StartPart m.start a8 a9 → Gains ElementsPart m.elements a9 a10 → Gains CodesPart m.codes a10 a11 → Gains SegmentsPart m.segments a11 a12 → Gains Text3 (values3 m) a3 a12
gains3 m a3 a4 a5 a6 a7 a8 a9 a10 a11 a12 s3 s4 s5 s6 s7 s8 s9 s10 s11 = gains_then FuncsPart Text4 m.funcs (values4 m) a3 a4 a12 s3 (gains4 m a4 a5 a6 a7 a8 a9 a10 a11 a12 s4 s5 s6 s7 s8 s9 s10 s11)

gains2 : (m : Syntax Ops) (a2 a3 a4 a5 a6 a7 a8 a9 a10 a11 a12 : List ℕ) → Gains ImportsPart m.imports a2 a3 → Gains FuncsPart m.funcs a3 a4 → Gains TablesPart m.tables a4 a5 → Gains MemoriesPart m.memories a5 a6 → Gains GlobalsPart m.globals a6 a7 → Gains ExportsPart m.exports a7 a8 → Gains StartPart m.start a8 a9 → Gains ElementsPart m.elements a9 a10 → Gains CodesPart m.codes a10 a11 → Gains SegmentsPart m.segments a11 a12 → Gains Text2 (values2 m) a2 a12
gains2 m a2 a3 a4 a5 a6 a7 a8 a9 a10 a11 a12 s2 s3 s4 s5 s6 s7 s8 s9 s10 s11 = gains_then ImportsPart Text3 m.imports (values3 m) a2 a3 a12 s2 (gains3 m a3 a4 a5 a6 a7 a8 a9 a10 a11 a12 s3 s4 s5 s6 s7 s8 s9 s10 s11)

gains1 : (m : Syntax Ops) (a1 a2 a3 a4 a5 a6 a7 a8 a9 a10 a11 a12 : List ℕ) → Gains TypesPart m.types a1 a2 → Gains ImportsPart m.imports a2 a3 → Gains FuncsPart m.funcs a3 a4 → Gains TablesPart m.tables a4 a5 → Gains MemoriesPart m.memories a5 a6 → Gains GlobalsPart m.globals a6 a7 → Gains ExportsPart m.exports a7 a8 → Gains StartPart m.start a8 a9 → Gains ElementsPart m.elements a9 a10 → Gains CodesPart m.codes a10 a11 → Gains SegmentsPart m.segments a11 a12 → Gains Text1 (values1 m) a1 a12
gains1 m a1 a2 a3 a4 a5 a6 a7 a8 a9 a10 a11 a12 s1 s2 s3 s4 s5 s6 s7 s8 s9 s10 s11 = gains_then TypesPart Text2 m.types (values2 m) a1 a2 a12 s1 (gains2 m a2 a3 a4 a5 a6 a7 a8 a9 a10 a11 a12 s2 s3 s4 s5 s6 s7 s8 s9 s10 s11)

pub gains_whole : (m : Syntax Ops) (a1 a2 a3 a4 a5 a6 a7 a8 a9 a10 a11 a12 : List ℕ) → IsSpelled Spells m → a1 ≡ opening → Gains TypesPart m.types a1 a2 → Gains ImportsPart m.imports a2 a3 → Gains FuncsPart m.funcs a3 a4 → Gains TablesPart m.tables a4 a5 → Gains MemoriesPart m.memories a5 a6 → Gains GlobalsPart m.globals a6 a7 → Gains ExportsPart m.exports a7 a8 → Gains StartPart m.start a8 a9 → Gains ElementsPart m.elements a9 a10 → Gains CodesPart m.codes a10 a11 → Gains SegmentsPart m.segments a11 a12 → SpellsShortest Spells a12 m
gains_whole m a1 a2 a3 a4 a5 a6 a7 a8 a9 a10 a11 a12 spelled start s1 s2 s3 s4 s5 s6 s7 s8 s9 s10 s11 =
    let all = gains1 m a1 a2 a3 a4 a5 a6 a7 a8 a9 a10 a11 a12 s1 s2 s3 s4 s5 s6 s7 s8 s9 s10 s11 in
    let P : List ℕ → Type 0 = λ z. SpellsShortest Spells z m in
    subst P (sym (all.2 ∙ ap (λ z. z ++ all.0) start)) (whole_shortest m all.0 all.1 spelled)

-- A module whose parts are spelled is spelled, in the opening and as many bytes as they take.
pub whole_text : (m : Syntax Ops) {n1 n2 n3 n4 n5 n6 n7 n8 n9 n10 n11 : ℕ} → HasText (List FuncType) TypesPart m.types n1 → HasText (List Import) ImportsPart m.imports n2 → HasText (List ℕ) FuncsPart m.funcs n3 → HasText (List Bounds) TablesPart m.tables n4 → HasText (List Bounds) MemoriesPart m.memories n5 → HasText (List (Global Ops)) GlobalsPart m.globals n6 → HasText (List Export) ExportsPart m.exports n7 → HasText (Option ℕ) StartPart m.start n8 → HasText (List (Elements Ops)) ElementsPart m.elements n9 → HasText (List (Function Ops)) CodesPart m.codes n10 → HasText (List (Data Ops)) SegmentsPart m.segments n11 → length m.funcs ≡ length m.codes → HasText (Syntax Ops) Spells m (8 + (n1 + (n2 + (n3 + (n4 + (n5 + (n6 + (n7 + (n8 + (n9 + (n10 + (n11 + 0))))))))))))
whole_text m {n1 = n1} {n2 = n2} {n3 = n3} {n4 = n4} {n5 = n5} {n6 = n6} {n7 = n7} {n8 = n8} {n9 = n9} {n10 = n10} {n11 = n11} s1 s2 s3 s4 s5 s6 s7 s8 s9 s10 s11 same =
    let none : HasText Values12 Text12 (values12 m) 0 = record { text = []; spelled = refl; short = omega arith } in
    let parts : HasText Values1 Text1 (values1 m) (n1 + (n2 + (n3 + (n4 + (n5 + (n6 + (n7 + (n8 + (n9 + (n10 + (n11 + 0))))))))))) = then_text TypesPart Text2 m.types (values2 m) n1 (n2 + (n3 + (n4 + (n5 + (n6 + (n7 + (n8 + (n9 + (n10 + (n11 + 0)))))))))) s1 (then_text ImportsPart Text3 m.imports (values3 m) n2 (n3 + (n4 + (n5 + (n6 + (n7 + (n8 + (n9 + (n10 + (n11 + 0))))))))) s2 (then_text FuncsPart Text4 m.funcs (values4 m) n3 (n4 + (n5 + (n6 + (n7 + (n8 + (n9 + (n10 + (n11 + 0)))))))) s3 (then_text TablesPart Text5 m.tables (values5 m) n4 (n5 + (n6 + (n7 + (n8 + (n9 + (n10 + (n11 + 0))))))) s4 (then_text MemoriesPart Text6 m.memories (values6 m) n5 (n6 + (n7 + (n8 + (n9 + (n10 + (n11 + 0)))))) s5 (then_text GlobalsPart Text7 m.globals (values7 m) n6 (n7 + (n8 + (n9 + (n10 + (n11 + 0))))) s6 (then_text ExportsPart Text8 m.exports (values8 m) n7 (n8 + (n9 + (n10 + (n11 + 0)))) s7 (then_text StartPart Text9 m.start (values9 m) n8 (n9 + (n10 + (n11 + 0))) s8 (then_text ElementsPart Text10 m.elements (values10 m) n9 (n10 + (n11 + 0)) s9 (then_text CodesPart Text11 m.codes (values11 m) n10 (n11 + 0) s10 (then_text SegmentsPart Text12 m.segments (values12 m) n11 0 s11 none)))))))))) in
    record {
      text = opening ++ parts.text;
      spelled = parts_spell m parts.text parts.spelled same;
      short = omega (arith, parts.short, length-append opening parts.text);
    }
