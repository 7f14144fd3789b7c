-- Modules whose expressions are of one form, with expressions of another.
use Rattle.std.proofs.Common.{◌≡◌, ℕ, suc, ◌≤◌, List, [], ◌∷◌, length, refl, ap, sym, ◌∙◌, subst, Option, Some, None, arith}
use Rattle.std.specs.List.{All}
use Rattle.std.proofs.lemmas.List.Elements.{All-cons, All-nil, All-head, All-tail}
use Rattle.wasm_values.specs.Spelling.{SpellsU32, Then, SpellsEach, each_none, each_next, SpellsList, SpellsBytes, SpellsSized}
use Rattle.wasm_values.specs.Values.{SpellsGlobalType}
use Rattle.wasm_values.specs.Syntax.{Ops, ops_nesting}
use Rattle.wasm_values.specs.Instructions.{SpellsExpression}
use Rattle.wasm_module.specs.Entries.{SpellsGlobal, SpellsElement, SpellsLocalRun, SpellsCode, SpellsSegment}
use Rattle.wasm_module.specs.Sections.{Syntax, Section, content_of, Holds, AreOf}
use Rattle.wasm_module.specs.Limits.{WithinNesting}
use Rattle.wasm_values.specs.inner.Nested.{SpellsLimited}

-- Each text of the first form is one of the second, of some value.
abbrev pub Lifts : {V W : Type 0} → (List ℕ → V → Type 0) → (List ℕ → W → Type 0) → Type 0
Lifts {V} {W} A B = (text : List ℕ) (value : V) → A text value → (other : W) × B text other

same_lift : {V : Type 0} (A : List ℕ → V → Type 0) → Lifts A A
same_lift A = λ text value s. (value, s)

then_lift : {V W X Y : Type 0} (A : List ℕ → V → Type 0) (B : List ℕ → W → Type 0) (C : List ℕ → X → Type 0) (D : List ℕ → Y → Type 0) → Lifts A B → Lifts C D → Lifts (Then A C) (Then B D)
then_lift A B C D f g = λ text value (front, back, s, t, e).
    let one = f front value.0 s in
    let two = g back value.1 t in
    ((one.0, two.0), (front, back, one.1, two.1, e))

sized_lift : {V W : Type 0} (A : List ℕ → V → Type 0) (B : List ℕ → W → Type 0) → Lifts A B → Lifts (SpellsSized A) (SpellsSized B)
sized_lift A B f = λ text value (content, s, t). let one = f content value s in (one.0, (content, one.1, t))

each_lift : {V W : Type 0} (A : List ℕ → V → Type 0) (B : List ℕ → W → Type 0) → Lifts A B → (text : List ℕ) (values : List V) → SpellsEach A text values → (others : List W) × SpellsEach B text others × (length others ≡ length values)
each_lift {V} {W} A B f text values each_none = ([], each_none, refl)
each_lift {V} {W} A B f text values (each_next {text = front} {more = more} {value = value} {values = rest} s ss) =
    let one = f front value s in
    let all = each_lift A B f more rest ss in
    (one.0 ∷ all.0, each_next one.1 all.1, ap suc all.2)

list_lift : {V W : Type 0} (A : List ℕ → V → Type 0) (B : List ℕ → W → Type 0) → Lifts A B → (text : List ℕ) (values : List V) → SpellsList A text values → (others : List W) × SpellsList B text others × (length others ≡ length values)
list_lift A B f text values (count, texts, s, ss, e) =
    let all = each_lift A B f texts values ss in
    let P : ℕ → Type 0 = λ n. SpellsU32 count n in
    (all.0, (count, texts, subst P (sym all.2) s, all.1, e), all.2)

held_lift : {V W : Type 0} (A : List ℕ → V → Type 0) (B : List ℕ → W → Type 0) → Lifts A B → (content : Option (List ℕ)) (values : List V) → Holds (SpellsList A) [] content values → (others : List W) × Holds (SpellsList B) [] content others × (length others ≡ length values)
held_lift A B f None values none = ([], refl, sym (ap length none))
held_lift A B f (Some content) values s = list_lift A B f content values s

-- A module with expressions of the first form is one with expressions of the second.
pub are_lift : {X Y : Type 0} (A : List ℕ → X → Type 0) (B : List ℕ → Y → Type 0) → Lifts A B → (sections : List Section) (m : Syntax X) → AreOf A sections m → (n : Syntax Y) × AreOf B sections n × (length n.codes ≡ length m.codes)
are_lift {X} {Y} A B f sections m a =
    let globals = held_lift (SpellsGlobal A) (SpellsGlobal B) (then_lift SpellsGlobalType SpellsGlobalType A B (same_lift SpellsGlobalType) f) (content_of 6 sections) m.globals a.globals in
    let elements = held_lift (SpellsElement A) (SpellsElement B) (then_lift SpellsU32 SpellsU32 (Then A (SpellsList SpellsU32)) (Then B (SpellsList SpellsU32)) (same_lift SpellsU32) (then_lift A B (SpellsList SpellsU32) (SpellsList SpellsU32) f (same_lift (SpellsList SpellsU32)))) (content_of 9 sections) m.elements a.elements in
    let codes = held_lift (SpellsCode A) (SpellsCode B) (sized_lift (Then (SpellsList SpellsLocalRun) A) (Then (SpellsList SpellsLocalRun) B) (then_lift (SpellsList SpellsLocalRun) (SpellsList SpellsLocalRun) A B (same_lift (SpellsList SpellsLocalRun)) f)) (content_of 10 sections) m.codes a.codes in
    let segments = held_lift (SpellsSegment A) (SpellsSegment B) (then_lift SpellsU32 SpellsU32 (Then A SpellsBytes) (Then B SpellsBytes) (same_lift SpellsU32) (then_lift A B SpellsBytes SpellsBytes f (same_lift SpellsBytes))) (content_of 11 sections) m.segments a.segments in
    let n : Syntax Y = record {
      types = m.types;
      imports = m.imports;
      funcs = m.funcs;
      tables = m.tables;
      memories = m.memories;
      globals = globals.0;
      exports = m.exports;
      start = m.start;
      elements = elements.0;
      codes = codes.0;
      segments = segments.0;
    } in
    let are : AreOf B sections n = record {
      types = a.types;
      imports = a.imports;
      funcs = a.funcs;
      tables = a.tables;
      memories = a.memories;
      globals = globals.1;
      exports = a.exports;
      start = a.start;
      elements = elements.1;
      codes = codes.1;
      segments = segments.1;
      functions = a.functions ∙ sym codes.2;
    } in
    (n, are, codes.2)

-- The same value, with a fact about it.
abbrev pub Splits : {V : Type 0} → (List ℕ → V → Type 0) → (List ℕ → V → Type 0) → (V → Type 0) → Type 0
Splits {V} A B P = (text : List ℕ) (value : V) → A text value → B text value × P value

abbrev pub Joins : {V : Type 0} → (List ℕ → V → Type 0) → (List ℕ → V → Type 0) → (V → Type 0) → Type 0
Joins {V} A B P = (text : List ℕ) (value : V) → B text value → P value → A text value

each_split : {V : Type 0} (A B : List ℕ → V → Type 0) (P : V → Type 0) → Splits A B P → (text : List ℕ) (values : List V) → SpellsEach A text values → SpellsEach B text values × All P values
each_split A B P f text values each_none = (each_none, All-nil P)
each_split A B P f text values (each_next {text = front} {more = more} {value = value} {values = rest} s ss) =
    let one = f front value s in
    let all = each_split A B P f more rest ss in
    (each_next one.0 all.0, All-cons P value rest one.1 all.1)

held_split : {V : Type 0} (A B : List ℕ → V → Type 0) (P : V → Type 0) → Splits A B P → (content : Option (List ℕ)) (values : List V) → Holds (SpellsList A) [] content values → Holds (SpellsList B) [] content values × All P values
held_split {V} A B P f None values none = let Q : List V → Type 0 = λ z. All P z in (none, subst Q (sym none) (All-nil P))
held_split A B P f (Some content) values (count, texts, s, ss, e) =
    let all = each_split A B P f texts values ss in
    ((count, texts, s, all.0, e), all.1)

each_join : {V : Type 0} (A B : List ℕ → V → Type 0) (P : V → Type 0) → Joins A B P → (text : List ℕ) (values : List V) → SpellsEach B text values → All P values → SpellsEach A text values
each_join A B P f text values each_none all = each_none
each_join A B P f text values (each_next {text = front} {more = more} {value = value} {values = rest} s ss) all =
    each_next (f front value s (All-head P value rest all)) (each_join A B P f more rest ss (All-tail P value rest all))

held_join : {V : Type 0} (A B : List ℕ → V → Type 0) (P : V → Type 0) → Joins A B P → (content : Option (List ℕ)) (values : List V) → Holds (SpellsList B) [] content values → All P values → Holds (SpellsList A) [] content values
held_join A B P f None values none all = none
held_join A B P f (Some content) values (count, texts, s, ss, e) all = (count, texts, s, each_join A B P f texts values ss all, e)

limited_nesting : (text : List ℕ) (ops : Ops) → SpellsLimited text ops → ops_nesting ops ≤ 200
limited_nesting text ops s = omega (arith, s.1)

limited : (text : List ℕ) (ops : Ops) → SpellsExpression text ops → ops_nesting ops ≤ 200 → SpellsLimited text ops
limited text ops s n = (s, omega arith)

-- What is read within the limit of nesting is a module that is within it.
pub limited_are : (sections : List Section) (m : Syntax Ops) → AreOf SpellsLimited sections m → AreOf SpellsExpression sections m × WithinNesting m
limited_are sections m a =
    let globals = held_split (SpellsGlobal SpellsLimited) (SpellsGlobal SpellsExpression) (λ global. ops_nesting global.1 ≤ 200) (λ text value (front, back, s, t, e). ((front, back, s, t.0, e), limited_nesting back value.1 t)) (content_of 6 sections) m.globals a.globals in
    let elements = held_split (SpellsElement SpellsLimited) (SpellsElement SpellsExpression) (λ element. ops_nesting element.1.0 ≤ 200) (λ text value (front, back, s, (middle, last, t, u, f), e). ((front, back, s, (middle, last, t.0, u, f), e), limited_nesting middle value.1.0 t)) (content_of 9 sections) m.elements a.elements in
    let codes = held_split (SpellsCode SpellsLimited) (SpellsCode SpellsExpression) (λ code. ops_nesting code.1 ≤ 200) (λ text value (content, (front, back, s, t, e), u). ((content, (front, back, s, t.0, e), u), limited_nesting back value.1 t)) (content_of 10 sections) m.codes a.codes in
    let segments = held_split (SpellsSegment SpellsLimited) (SpellsSegment SpellsExpression) (λ segment. ops_nesting segment.1.0 ≤ 200) (λ text value (front, back, s, (middle, last, t, u, f), e). ((front, back, s, (middle, last, t.0, u, f), e), limited_nesting middle value.1.0 t)) (content_of 11 sections) m.segments a.segments in (
      record {
        types = a.types;
        imports = a.imports;
        funcs = a.funcs;
        tables = a.tables;
        memories = a.memories;
        globals = globals.0;
        exports = a.exports;
        start = a.start;
        elements = elements.0;
        codes = codes.0;
        segments = segments.0;
        functions = a.functions;
      },
      (globals.1, elements.1, codes.1, segments.1),
    )

-- A module within the limit of nesting is one that is read within it.
pub are_limited : (sections : List Section) (m : Syntax Ops) → AreOf SpellsExpression sections m → WithinNesting m → AreOf SpellsLimited sections m
are_limited sections m a n = record {
  types = a.types;
  imports = a.imports;
  funcs = a.funcs;
  tables = a.tables;
  memories = a.memories;
  globals = held_join (SpellsGlobal SpellsLimited) (SpellsGlobal SpellsExpression) (λ global. ops_nesting global.1 ≤ 200) (λ text value (front, back, s, t, e) p. (front, back, s, limited back value.1 t p, e)) (content_of 6 sections) m.globals a.globals n.0;
  exports = a.exports;
  start = a.start;
  elements = held_join (SpellsElement SpellsLimited) (SpellsElement SpellsExpression) (λ element. ops_nesting element.1.0 ≤ 200) (λ text value (front, back, s, (middle, last, t, u, f), e) p. (front, back, s, (middle, last, limited middle value.1.0 t p, u, f), e)) (content_of 9 sections) m.elements a.elements n.1;
  codes = held_join (SpellsCode SpellsLimited) (SpellsCode SpellsExpression) (λ code. ops_nesting code.1 ≤ 200) (λ text value (content, (front, back, s, t, e), u) p. (content, (front, back, s, limited back value.1 t p, e), u)) (content_of 10 sections) m.codes a.codes n.2;
  segments = held_join (SpellsSegment SpellsLimited) (SpellsSegment SpellsExpression) (λ segment. ops_nesting segment.1.0 ≤ 200) (λ text value (front, back, s, (middle, last, t, u, f), e) p. (front, back, s, (middle, last, limited middle value.1.0 t p, u, f), e)) (content_of 11 sections) m.segments a.segments n.3;
  functions = a.functions;
}
