-- The sections of a module in their order.
use Rattle.std.proofs.Common.{◌≡◌, ℕ, ◌+◌, ◌<◌, ◌≤◌, ◌⊎◌, inl, inr, List, [], ◌∷◌, ◌++◌, length, refl, ap, sym, ◌∙◌, subst, arith, length-append, map, drop, get_or, add-one}
use Rattle.std.proofs.lemmas.List.{append-nil, drop_all}
use Rattle.std.proofs.Math.Seq.{drop-cons}
use Rattle.std.specs.Str.{IsUtf8}
use Rattle.byte_fields.specs.Front.{Begins, BeginsOnly, BeginsNone}
use Rattle.wasm_values.specs.Spelling.{SpellsBytes, SpellsEach, each_none, each_next}
use Rattle.wasm_module.specs.Sections.{Section, SpellsSection, IsCustom, AreOrdered, ordered_end, ordered_custom, ordered_part}
use Rattle.wasm_module.specs.inner.Parts.{section_view}
use Rattle.wasm_module.specs.declared.outline.Section.{Section as Found}
use Rattle.wasm_values.proofs.Lists.{Later}

-- A list of bytes at the front that is UTF-8 is a name.
pub custom_found : (start content text left : List ℕ) → start ≡ content → Begins SpellsBytes start text left → IsUtf8 text → IsCustom content
custom_found start content text left same (front, s, e) utf = (text, left, (front, (s, utf), sym same ∙ e))

pub custom_text : (start content text left : List ℕ) → start ≡ content → BeginsOnly SpellsBytes start text left → IsCustom content → IsUtf8 text
custom_text start content text left same only (name, rest, (front, (s, utf), e)) =
    let one = only name rest (front, s, same ∙ e) in
    subst IsUtf8 one.0 utf

pub custom_none : (start content : List ℕ) → start ≡ content → BeginsNone SpellsBytes start → IsCustom content → ⊥
custom_none start content same none (name, rest, (front, (s, utf), e)) = none name rest (front, s, same ∙ e)

-- The first section is custom, or its number rises.
pub ordered_first : {last number : ℕ} {content : List ℕ} {more : List Section} → AreOrdered last ((number, content) ∷ more) → ((number ≡ 0) × IsCustom content × AreOrdered last more) ⊎ ((last < number) × (number ≤ 11) × AreOrdered number more)
ordered_first (ordered_custom custom rest) = inl (refl, custom, rest)
ordered_first (ordered_part low high rest) = inr (low, high, rest)

-- No section is spelled by no bytes.
never_empty : (section : Section) (text : List ℕ) → text ≡ [] → SpellsSection text section → ⊥
never_empty section text none (front, back, s, t, e) =
    let n : 0 ≡ length front + length back = ap length (sym none ∙ e) ∙ length-append front back in
    let m : length front ≡ 1 = ap length s in
    omega arith

empty : (bytes : List ℕ) → length bytes ≡ 0 → bytes ≡ []
empty [] e = refl
empty (byte ∷ bytes) e = absurd (cc)

-- What is behind the sections that were found, where bytes are left.
some_later : (values done : List Section) (left : List ℕ) (later : List Section) (text : List ℕ) → SpellsEach SpellsSection text later → left ≡ text ++ [] → values ≡ done ++ later → 0 < length left → length done < length values
some_later values done left [] text each_none e all some =
    let n : length left ≡ 0 = ap length e in
    absurd (omega arith)
some_later values done left (section ∷ sections) text s e all some =
    let n : length values ≡ length done + length (section ∷ sections) = ap length all ∙ length-append done (section ∷ sections) in
    omega arith

pub later_some : (values done : List Section) (left : List ℕ) → Later Section SpellsSection values done left [] → 0 < length left → length done < length values
later_some values done left r some = some_later values done left r.later r.text r.spelled r.whole r.all some

none_later : (values done : List Section) (left : List ℕ) (later : List Section) (text : List ℕ) → SpellsEach SpellsSection text later → left ≡ text ++ [] → values ≡ done ++ later → length left ≡ 0 → values ≡ done
none_later values done left [] text each_none e all none = all ∙ append-nil done
none_later values done left (section ∷ sections) text (each_next {text = front} {more = more} s ss) e all none =
    let n : 0 ≡ length front + length more + 0 = sym none ∙ ap length e ∙ length-append (front ++ more) [] ∙ ap (λ z. z + 0) (length-append front more) in
    let f : length front ≡ 0 = omega arith in
    absurd (never_empty section front (empty front f) s)

pub later_all : (values done : List Section) (left : List ℕ) → Later Section SpellsSection values done left [] → length left ≡ 0 → values ≡ done
later_all values done left r none = none_later values done left r.later r.text r.spelled r.whole r.all none

pub each_start : (values : List Section) (bytes : List ℕ) → SpellsEach SpellsSection bytes values → Later Section SpellsSection values [] bytes []
each_start values bytes s = record { later = values; text = bytes; spelled = s; whole = sym (append-nil bytes); all = refl }

-- The sections from a place on are the one there and those behind it.
from : (index : ℕ) (sections : List Found) (other : Found) → index < length sections → map section_view (drop index sections) ≡ section_view (get_or sections index other) ∷ map section_view (drop (index + 1) sections)
from index sections other h = ap (λ z. map section_view z) (drop-cons sections index other h) ∙ ap (λ z. section_view (get_or sections index other) ∷ map section_view (drop z sections)) (sym (add-one index))

-- The order from a place on, as it goes on behind the section there.
here : (last index : ℕ) (sections : List Found) (other : Found) → index < length sections → AreOrdered last (map section_view (drop index sections)) → AreOrdered last (section_view (get_or sections index other) ∷ map section_view (drop (index + 1) sections))
here last index sections other h a = let P : List Section → Type 0 = λ z. AreOrdered last z in subst P (from index sections other h) a

there : (last index : ℕ) (sections : List Found) (other : Found) → index < length sections → AreOrdered last (section_view (get_or sections index other) ∷ map section_view (drop (index + 1) sections)) → AreOrdered last (map section_view (drop index sections))
there last index sections other h a = let P : List Section → Type 0 = λ z. AreOrdered last z in subst P (sym (from index sections other h)) a

pub not_custom : (last index : ℕ) (sections : List Found) (other : Found) → index < length sections → (get_or sections index other).number ≡ 0 → (IsCustom (get_or sections index other).content.now → ⊥) → AreOrdered last (map section_view (drop index sections)) → ⊥
not_custom last index sections other h zero not a = elim (ordered_first (here last index sections other h a)) [
  | inl custom ↦ not custom.1
  | inr part ↦ absurd (omega (arith, part.0, zero))
]

pub not_part : (last index : ℕ) (sections : List Found) (other : Found) → index < length sections → ((get_or sections index other).number ≡ 0 → ⊥) → ((get_or sections index other).number ≤ last) ⊎ (11 < (get_or sections index other).number) → AreOrdered last (map section_view (drop index sections)) → ⊥
not_part last index sections other h some (inl low) a = elim (ordered_first (here last index sections other h a)) [
  | inl custom ↦ some custom.0
  | inr part ↦ absurd (omega (arith, part.0, low))
]
not_part last index sections other h some (inr high) a = elim (ordered_first (here last index sections other h a)) [
  | inl custom ↦ some custom.0
  | inr part ↦ absurd (omega (arith, part.1, high))
]

pub custom_on : (last next index : ℕ) (sections : List Found) (other : Found) → next ≡ last → index < length sections → (get_or sections index other).number ≡ 0 → AreOrdered last (map section_view (drop index sections)) → AreOrdered next (map section_view (drop (index + 1) sections))
custom_on last next index sections other same h zero a = elim (ordered_first (here last index sections other h a)) [
  | inl custom ↦ rw same custom.2
  | inr part ↦ absurd (omega (arith, part.0, zero))
]

pub custom_back : (last next index : ℕ) (sections : List Found) (other : Found) → next ≡ last → index < length sections → (get_or sections index other).number ≡ 0 → IsCustom (get_or sections index other).content.now → AreOrdered next (map section_view (drop (index + 1) sections)) → AreOrdered last (map section_view (drop index sections))
custom_back last next index sections other same h zero custom a =
    let P : ℕ → Type 0 = λ z. AreOrdered z (map section_view (drop (index + 1) sections)) in
    let Q : ℕ → Type 0 = λ z. AreOrdered last ((z, (get_or sections index other).content.now) ∷ map section_view (drop (index + 1) sections)) in
    there last index sections other h (subst Q (sym zero) (ordered_custom custom (subst P same a)))

pub part_on : (last next index : ℕ) (sections : List Found) (other : Found) → next ≡ (get_or sections index other).number → index < length sections → ((get_or sections index other).number ≡ 0 → ⊥) → AreOrdered last (map section_view (drop index sections)) → AreOrdered next (map section_view (drop (index + 1) sections))
part_on last next index sections other same h some a = elim (ordered_first (here last index sections other h a)) [
  | inl custom ↦ absurd (some custom.0)
  | inr part ↦ rw same part.2
]

pub part_back : (last next index : ℕ) (sections : List Found) (other : Found) → next ≡ (get_or sections index other).number → index < length sections → last < (get_or sections index other).number → (get_or sections index other).number ≤ 11 → AreOrdered next (map section_view (drop (index + 1) sections)) → AreOrdered last (map section_view (drop index sections))
part_back last next index sections other same h low high a =
    let P : ℕ → Type 0 = λ z. AreOrdered z (map section_view (drop (index + 1) sections)) in
    there last index sections other h (ordered_part low high (subst P same a))

pub end_ordered : (last index : ℕ) (sections : List Found) → length sections ≤ index → AreOrdered last (map section_view (drop index sections))
end_ordered last index sections h = let P : List Found → Type 0 = λ z. AreOrdered last (map section_view z) in subst P (sym (drop_all index sections h)) ordered_end
