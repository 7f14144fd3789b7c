-- The lists of a module that was spelled are short.
use Rattle.std.proofs.Common.{◌≡◌, ℕ, ◌<◌, ◌≤◌, ◌^◌, List, [], ◌++◌, length, refl, ap, arith, length-append, Option, Some, None, Bool, true, false, cond, nat_eq}
use Rattle.byte_fields.specs.Leb.{SpellsUnsigned, unsigned_last, unsigned_more}
use Rattle.byte_fields.proofs.Unsigned.{unsigned_range}
use Rattle.wasm_values.specs.Syntax.{Ops}
use Rattle.wasm_module.specs.Entries.{SpellsElement, SpellsSegment}
use Rattle.wasm_values.specs.Instructions.{SpellsExpression}
use Rattle.wasm_module.specs.Limits.{WithinBytes}
use Rattle.wasm_module.specs.Sections.{Syntax, Section, SpellsSection, content_of, Holds, Spells, opening}
use Rattle.wasm_values.specs.Spelling.{SpellsEach, each_none, each_next, SpellsList}
use Rattle.wasm_link.specs.Made.{IsCounted}

inside : {xs ys : List ℕ} → ◌≡◌ {A = Option (List ℕ)} (Some xs) (Some ys) → xs ≡ ys
inside e = cc

some_bytes : {width n : ℕ} {text : List ℕ} → SpellsUnsigned width text n → 0 < length text
some_bytes (unsigned_last a b) = omega arith
some_bytes (unsigned_more a b c d) = omega arith

-- as many entries as bytes at most, where each has some
each_count : {V : Type 0} {Spelled : List ℕ → V → Type 0} {texts : List ℕ} {values : List V} → ((text : List ℕ) (value : V) → Spelled text value → 0 < length text) → SpellsEach Spelled texts values → length values ≤ length texts
each_count some each_none = omega arith
each_count some (each_next {text = text} {more = more} {value = value} s rest) =
    let one = some text value s in
    let others = each_count some rest in
    let all = length-append text more in
    omega (arith, one, others, all)

list_count : {V : Type 0} (Spelled : List ℕ → V → Type 0) (bytes : List ℕ) (values : List V) → ((text : List ℕ) (value : V) → Spelled text value → 0 < length text) → SpellsList Spelled bytes values → length values ≤ length bytes
list_count Spelled bytes values some (count, texts, number, each, is) =
    let few = each_count some each in
    let all = length-append count texts in
    let size = ap length is in
    omega (arith, few, all, size)

-- the content of a section is a part of the text
content_at : (number : ℕ) (text more content : List ℕ) (section : Section) (rest : Option (List ℕ)) (b : Bool) → SpellsSection text section → (rest ≡ Some content → length content ≤ length more) → cond b (Some section.1) rest ≡ Some content → length content ≤ length (text ++ more)
content_at number text more content section rest true (front, back, mark, (count, size, inner), is) h e =
    let same : section.1 ≡ content = inside e in
    let one = ap length same in
    let two = ap length inner in
    let three = length-append count section.1 in
    let four = ap length is in
    let five = length-append front back in
    let six = length-append text more in
    omega (arith, one, two, three, four, five, six)
content_at number text more content section rest false s h e =
    let few = h e in
    let all = length-append text more in
    omega (arith, few, all)

content_count : {text : List ℕ} {sections : List Section} (number : ℕ) (content : List ℕ) → SpellsEach SpellsSection text sections → content_of number sections ≡ Some content → length content ≤ length text
content_count number content each_none e = absurd cc
content_count number content (each_next {text = text} {more = more} {value = section} {values = sections} s rest) e =
    content_at number text more content section (content_of number sections) (nat_eq section.0 number) s (λ f. content_count number content rest f) e

-- what a section holds
module _ (text : List ℕ) (sections : List Section) (each : SpellsEach SpellsSection text sections) where
  held_few : {V : Type 0} (Spelled : List ℕ → V → Type 0) (number : ℕ) (values : List V) (o : Option (List ℕ)) → content_of number sections ≡ o → ((t : List ℕ) (value : V) → Spelled t value → 0 < length t) → Holds (SpellsList Spelled) [] o values → length values ≤ length text
  held_few Spelled number values None e some h = let none = ap length h in omega (arith, none)
  held_few Spelled number values (Some content) e some h =
      let few = list_count Spelled content values some h in
      let all = content_count number content each e in
      omega (arith, few, all)

held_small : {V : Type 0} (Spelled : List ℕ → V → Type 0) (values : List V) (o : Option (List ℕ)) → Holds (SpellsList Spelled) [] o values → length values < 2 ^ 32
held_small Spelled values None h = let none = ap length h in omega (arith, none)
held_small Spelled values (Some content) (count, texts, number, each, is) = unsigned_range number

element_some : (text : List ℕ) (value : _) → SpellsElement SpellsExpression text value → 0 < length text
element_some text value (front, back, index, rest, is) =
    let one = some_bytes index in
    let two = ap length is in
    let three = length-append front back in
    omega (arith, one, two, three)

segment_some : (text : List ℕ) (value : _) → SpellsSegment SpellsExpression text value → 0 < length text
segment_some text value (front, back, index, rest, is) =
    let one = some_bytes index in
    let two = ap length is in
    let three = length-append front back in
    omega (arith, one, two, three)

pub are_counted : (bytes : List ℕ) (m : Syntax Ops) → WithinBytes bytes → Spells bytes m → IsCounted m
are_counted bytes m small (sections, whole, are) =
    let elements = held_few whole.text sections whole.spelled (SpellsElement SpellsExpression) 9 m.elements (content_of 9 sections) refl element_some are.elements in
    let segments = held_few whole.text sections whole.spelled (SpellsSegment SpellsExpression) 11 m.segments (content_of 11 sections) refl segment_some are.segments in
    let size = ap length whole.whole in
    let all = length-append opening whole.text in
    record {
      types = held_small _ m.types (content_of 1 sections) are.types;
      imports = held_small _ m.imports (content_of 2 sections) are.imports;
      globals = held_small _ m.globals (content_of 6 sections) are.globals;
      segments = omega (arith, elements, segments, size, all, small);
    }
