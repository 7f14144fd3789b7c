-- Bytes spell one module at most.
use Rattle.std.proofs.Common.{◌≡◌, ℕ, List, [], ◌∷◌, ◌++◌, refl, ap, sym, ◌∙◌, Option, Some, None, subst}
use Rattle.std.proofs.lemmas.List.{append_cancel_left}
use Rattle.wasm_values.specs.Spelling.{SpellsEach, each_none, each_next}
use Rattle.wasm_values.specs.Syntax.{Ops}
use Rattle.wasm_values.specs.Instructions.{SpellsExpression}
use Rattle.wasm_module.specs.Entries.{Global, SpellsGlobal, Elements, SpellsElement, SpellsLocalRun, Function, SpellsCode, Data, SpellsSegment}
use Rattle.wasm_module.specs.Sections.{Syntax, Section, SpellsSection, content_of, Holds, SpellsStart, AreOf, opening, Spells}
use Rattle.wasm_module.specs.declared.codes.LocalRun.{LocalRun}
use Rattle.wasm_module.proofs.Runs.{local_run_of}
use Rattle.wasm_values.proofs.Once.{IsFrontOne, whole_one, u32_one, byte_one, then_one, made_one, list_one, bytes_one, sized_one, val_type_one, func_type_one, bounds_one, table_type_one, global_type_one, import_one, export_one}
use Rattle.wasm_values.proofs.OnceOps.{expression_one}

global_one : IsFrontOne (Global Ops) (SpellsGlobal SpellsExpression)
global_one = then_one global_type_one expression_one

element_one : IsFrontOne (Elements Ops) (SpellsElement SpellsExpression)
element_one = then_one u32_one (then_one expression_one (list_one u32_one))

local_run_one : IsFrontOne LocalRun SpellsLocalRun
local_run_one = made_one (λ run. (run.count, run.value)) local_run_of (λ run. refl) (then_one u32_one val_type_one)

code_one : IsFrontOne (Function Ops) (SpellsCode SpellsExpression)
code_one = sized_one (then_one (list_one local_run_one) expression_one)

segment_one : IsFrontOne (Data Ops) (SpellsSegment SpellsExpression)
segment_one = then_one u32_one (then_one expression_one bytes_one)

start_one : IsFrontOne (Option ℕ) SpellsStart
start_one = record {
  one = λ bytes rest start (text, (func, s, e), f). λ other more (front, (index, t, g), h).
      let same = u32_one.one bytes rest func (text, s, f) index more (front, t, h) in
      (g ∙ ap (λ z. Some z) same.0 ∙ sym e, same.1);
}

section_one : IsFrontOne Section SpellsSection
section_one = then_one byte_one bytes_one

-- A section's text is not empty.
section_never : (text more : List ℕ) (section : Section) → SpellsSection text section → [] ≡ text ++ more → ⊥
section_never text more section (front, back, s, t, e) f =
    let whole : [] ≡ section.0 ∷ (back ++ more) = f ∙ ap (λ z. z ++ more) (e ∙ ap (λ z. z ++ back) s) in
    absurd (cc)

-- A text spells one list of sections, since none of them is empty.
sections_once : {text other : List ℕ} {sections others : List Section} → SpellsEach SpellsSection text sections → SpellsEach SpellsSection other others → text ≡ other → sections ≡ others
sections_once each_none each_none e = refl
sections_once each_none (each_next {text = c} {more = d} {value = section} t ts) e = absurd (section_never c d section t e)
sections_once (each_next {text = a} {more = b} {value = section} s ss) each_none e = absurd (section_never a b section s (sym e))
sections_once (each_next {text = a} {more = b} {value = section} s ss) (each_next {text = c} {more = d} {value = other} t ts) e =
    let first = section_one.one (a ++ b) b section (a, s, refl) other d (c, t, e) in
    let later = sections_once ss ts (sym first.1) in
    (λ i. sym first.0 i ∷ later i)

-- What a section holds, whether it is there or not.
holds_once : {V : Type 0} {Spells : List ℕ → V → Type 0} → IsFrontOne V Spells → (empty : V) (content : Option (List ℕ)) (value other : V) → Holds Spells empty content value → Holds Spells empty content other → value ≡ other
holds_once k empty None value other s t = s ∙ sym t
holds_once k empty (Some content) value other s t = whole_one k content value other s t

-- The same sections hold one module.
same_sections : (sections : List Section) (m n : Syntax Ops) → AreOf SpellsExpression sections m → AreOf SpellsExpression sections n → m ≡ n
same_sections sections m n s t =
    let types = holds_once (list_one func_type_one) [] (content_of 1 sections) m.types n.types s.types t.types in
    let imports = holds_once (list_one import_one) [] (content_of 2 sections) m.imports n.imports s.imports t.imports in
    let funcs = holds_once (list_one u32_one) [] (content_of 3 sections) m.funcs n.funcs s.funcs t.funcs in
    let tables = holds_once (list_one table_type_one) [] (content_of 4 sections) m.tables n.tables s.tables t.tables in
    let memories = holds_once (list_one bounds_one) [] (content_of 5 sections) m.memories n.memories s.memories t.memories in
    let globals = holds_once (list_one global_one) [] (content_of 6 sections) m.globals n.globals s.globals t.globals in
    let exports = holds_once (list_one export_one) [] (content_of 7 sections) m.exports n.exports s.exports t.exports in
    let start = holds_once start_one None (content_of 8 sections) m.start n.start s.start t.start in
    let elements = holds_once (list_one element_one) [] (content_of 9 sections) m.elements n.elements s.elements t.elements in
    let codes = holds_once (list_one code_one) [] (content_of 10 sections) m.codes n.codes s.codes t.codes in
    let segments = holds_once (list_one segment_one) [] (content_of 11 sections) m.segments n.segments s.segments t.segments in
    λ i. record {
      types = types i;
      imports = imports i;
      funcs = funcs i;
      tables = tables i;
      memories = memories i;
      globals = globals i;
      exports = exports i;
      start = start i;
      elements = elements i;
      codes = codes i;
      segments = segments i;
    }

-- Bytes spell one module at most.
pub module_once : (bytes : List ℕ) (m n : Syntax Ops) → Spells bytes m → Spells bytes n → m ≡ n
module_once bytes m n (sections, s, holds) (others, t, hold) =
    let texts : s.text ≡ t.text = append_cancel_left opening s.text t.text (sym s.whole ∙ t.whole) in
    let same : others ≡ sections = sections_once t.spelled s.spelled (sym texts) in
    let P : List Section → Type 0 = λ z. AreOf SpellsExpression z n in
    same_sections sections m n holds (subst P same hold)
