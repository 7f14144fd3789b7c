-- The sections of a module, taken apart into one part for each number, and put together again.
use Rattle.std.proofs.Common.{◌≡◌, ℕ, ◌+◌, ◌<◌, ◌≤◌, ◌≢◌, List, [], ◌∷◌, ◌++◌, length, length-append, refl, ap, sym, ◌∙◌, subst, arith, Option, Some, None}
use Rattle.std.proofs.lemmas.Bool.Decides.{nat_tests}
use native.Mathlib.Decide.{dec_le}
use Rattle.wasm_values.specs.Spelling.{Then, SpellsEach, each_none, each_next, SpellsBytes}
use Rattle.wasm_module.specs.Sections.{Section, SpellsSection, AreOrdered, ordered_end, ordered_custom, ordered_part, content_of, Holds}
use Rattle.wasm_values.proofs.Opcodes.{SpellsNothing}
use Rattle.wasm_encode.specs.inner.Parts.{SpellsPart, part_absent, part_present}

-- The contents of sections by their numbers.
abbrev pub Contents : Type 0
Contents = ℕ → Option (List ℕ)

abbrev pub contents : List Section → Contents
contents sections = λ number. content_of number sections

-- the first section
first_content : (number : ℕ) (content : List ℕ) (more : List Section) → content_of number ((number, content) ∷ more) ≡ Some content
first_content number content more = grind (arith, nat_tests)

-- a section of another number
later_content : (number other : ℕ) (content : List ℕ) (more : List Section) → number ≢ other → content_of number ((other, content) ∷ more) ≡ content_of number more
later_content number other content more h = grind (arith, nat_tests)

-- the numbers up to the last are not there
ordered_none : {last : ℕ} {sections : List Section} → AreOrdered last sections → (number : ℕ) → 0 < number → number ≤ last → content_of number sections ≡ None
ordered_none ordered_end number some h = refl
ordered_none (ordered_custom {content = content} {more = more} c o) number some h = later_content number 0 content more (omega arith) ∙ ordered_none o number some h
ordered_none (ordered_part {number = other} {content = content} {more = more} p q o) number some h = later_content number other content more (omega arith) ∙ ordered_none o number some (omega arith)

ordered_lower : {last : ℕ} {sections : List Section} → AreOrdered last sections → (low : ℕ) → low ≤ last → AreOrdered low sections
ordered_lower ordered_end low h = ordered_end
ordered_lower (ordered_custom c o) low h = ordered_custom c (ordered_lower o low h)
ordered_lower (ordered_part p q o) low h = ordered_part (omega arith) q o

-- A fact on contents that looks at the numbers above `last` only.
pub record IsAbove (last : ℕ) (Fact : Contents → Type 0) : Type 0 where
  pub along : (f g : Contents) → ((number : ℕ) → last < number → f number ≡ g number) → Fact f → Fact g

-- What the section of a number holds, and the fact on those behind it.
abbrev pub With : {V : Type 0} → ℕ → (List ℕ → V → Type 0) → V → V → (Contents → Type 0) → Contents → Type 0
With number Spells empty value Fact f = Holds Spells empty (f number) value × Fact f

above_more : {V : Type 0} (Spells : List ℕ → V → Type 0) (empty value : V) (number last : ℕ) (Fact : Contents → Type 0) → IsAbove number Fact → number ≡ last + 1 → IsAbove last (With number Spells empty value Fact)
above_more Spells empty value number last Fact k e = record {
  along = λ f g same (h, r).
      let P : Option (List ℕ) → Type 0 = λ z. Holds Spells empty z value in
      (subst P (same number (omega arith)) h, k.along f g (λ j p. same j (omega arith)) r);
}

-- Texts of sections above `last`, of which a fact holds.
pub record Assembled (last : ℕ) (text : List ℕ) (Fact : Contents → Type 0) : Type 0 where
  pub sections : List Section
  pub spelled : SpellsEach SpellsSection text sections
  pub ordered : AreOrdered last sections
  pub holds : Fact (contents sections)

-- One part more before them.
assembled_more : {V : Type 0} {Spells : List ℕ → V → Type 0} {empty value : V} {front : List ℕ} {number : ℕ} → SpellsPart number Spells empty front value → (last : ℕ) (text : List ℕ) (Fact : Contents → Type 0) → IsAbove number Fact → number ≡ last + 1 → number ≤ 11 → Assembled number text Fact → Assembled last (front ++ text) (With number Spells empty value Fact)
assembled_more {V} {Spells} {empty} {number = number} part_absent last text Fact k e within a =
    let P : Option (List ℕ) → Type 0 = λ z. Holds Spells empty z empty in
    let none : content_of number a.sections ≡ None = ordered_none a.ordered number (omega arith) (omega arith) in
    record {
      sections = a.sections;
      spelled = a.spelled;
      ordered = ordered_lower a.ordered last (omega arith);
      holds = (subst P (sym none) refl, a.holds);
    }
assembled_more {V} {Spells} {empty} {value} {number = number} (part_present {bytes = bytes} (content, s, t)) last text Fact k e within a =
    let P : Option (List ℕ) → Type 0 = λ z. Holds Spells empty z value in
    let section : SpellsSection (number ∷ bytes) (number, content) = (number ∷ [], bytes, refl, t, refl) in
    record {
      sections = (number, content) ∷ a.sections;
      spelled = each_next section a.spelled;
      ordered = ordered_part (omega arith) within a.ordered;
      holds = (subst P (sym (first_content number content a.sections)) s, k.along (contents a.sections) (contents ((number, content) ∷ a.sections)) (λ j p. sym (later_content j number content a.sections (omega arith))) a.holds);
    }

-- The part of the lowest number, and the others.
record Peeled {V : Type 0} (number : ℕ) (Spells : List ℕ → V → Type 0) (empty value : V) (text : List ℕ) (Fact : Contents → Type 0) : Type 0 where
  pub front : List ℕ
  pub back : List ℕ
  pub part : SpellsPart number Spells empty front value
  pub later : Assembled number back Fact
  pub short : length front + length back ≤ length text
  pub whole : length text ≤ length front + length back → text ≡ front ++ back

pub absent_part : {V : Type 0} (number : ℕ) (Spells : List ℕ → V → Type 0) (empty value : V) → value ≡ empty → SpellsPart number Spells empty [] value
absent_part number Spells empty value e =
    let P : _ → Type 0 = λ z. SpellsPart number Spells empty [] z in
    subst P (sym e) part_absent

section_text : (number : ℕ) (content text : List ℕ) → SpellsSection text (number, content) → (bytes : List ℕ) × SpellsBytes bytes content × (text ≡ number ∷ bytes)
section_text number content text (front, back, s, t, e) = (back, t, e ∙ ap (λ z. z ++ back) s)

section_some : (number : ℕ) (content text : List ℕ) → SpellsSection text (number, content) → 0 < length text
section_some number content text s = let text_is = section_text number content text s in omega (arith, ap length text_is.2)

-- the first section has the number
peel_here : {V : Type 0} (Spells : List ℕ → V → Type 0) (empty value : V) (number : ℕ) (Fact : Contents → Type 0) → IsAbove number Fact → (other : ℕ) (content : List ℕ) (more : List Section) (t m : List ℕ) → other ≡ number → AreOrdered other more → SpellsSection t (other, content) → SpellsEach SpellsSection m more → With number Spells empty value Fact (contents ((other, content) ∷ more)) → Peeled number Spells empty value (t ++ m) Fact
peel_here Spells empty value number Fact k other content more t m same o s ss (h, r) =
    let text = section_text other content t s in
    let P : Option (List ℕ) → Type 0 = λ z. Holds Spells empty z value in
    let Q : ℕ → Type 0 = λ z. AreOrdered z more in
    let R : ℕ → Type 0 = λ z. content_of number ((z, content) ∷ more) ≡ Some content in
    let first : content_of number ((other, content) ∷ more) ≡ Some content = subst R (sym same) (first_content number content more) in
    record {
      front = number ∷ text.0;
      back = m;
      part = part_present (content, subst P first h, text.1);
      later = record {
        sections = more;
        spelled = ss;
        ordered = subst Q same o;
        holds = k.along (contents ((other, content) ∷ more)) (contents more) (λ j p. later_content j other content more (omega arith)) r;
      };
      short = omega (arith, length-append t m, ap length text.2);
      whole = λ h. ap (λ z. z ++ m) (text.2 ∙ ap (λ z. z ∷ text.0) same);
    }

-- the first section has a higher number
peel_later : {V : Type 0} (Spells : List ℕ → V → Type 0) (empty value : V) (number : ℕ) (Fact : Contents → Type 0) → 0 < number → (other : ℕ) (content : List ℕ) (more : List Section) (text : List ℕ) → number < other → other ≤ 11 → AreOrdered other more → SpellsEach SpellsSection text ((other, content) ∷ more) → With number Spells empty value Fact (contents ((other, content) ∷ more)) → Peeled number Spells empty value text Fact
peel_later Spells empty value number Fact some other content more text high within o ss (h, r) =
    let P : Option (List ℕ) → Type 0 = λ z. Holds Spells empty z value in
    let all : AreOrdered number ((other, content) ∷ more) = ordered_part high within o in
    record {
      front = [];
      back = text;
      part = absent_part number Spells empty value (subst P (ordered_none all number some (omega arith)) h);
      later = record { sections = (other, content) ∷ more; spelled = ss; ordered = all; holds = r };
      short = omega arith;
      whole = λ h. refl;
    }

peel : {V : Type 0} (Spells : List ℕ → V → Type 0) (empty value : V) (number : ℕ) (Fact : Contents → Type 0) → IsAbove number Fact → 0 < number → {last : ℕ} {sections : List Section} {text : List ℕ} → AreOrdered last sections → SpellsEach SpellsSection text sections → number ≤ last + 1 → With number Spells empty value Fact (contents sections) → Peeled number Spells empty value text Fact
peel Spells empty value number Fact k some ordered_end each_none e (h, r) = record {
  front = [];
  back = [];
  part = absent_part number Spells empty value h;
  later = record { sections = []; spelled = each_none; ordered = ordered_end; holds = r };
  short = omega arith;
  whole = λ h. refl;
}
peel Spells empty value number Fact k some (ordered_custom {content = content} {more = more} c o) (each_next {text = t} {more = m} s ss) e (h, r) =
    let P : Option (List ℕ) → Type 0 = λ z. Holds Spells empty z value in
    let rest = peel Spells empty value number Fact k some o ss e (subst P (later_content number 0 content more (omega arith)) h, k.along (contents ((0, content) ∷ more)) (contents more) (λ j p. later_content j 0 content more (omega arith)) r) in
    record {
      front = rest.front;
      back = rest.back;
      part = rest.part;
      later = rest.later;
      short = omega (arith, rest.short, length-append t m);
      whole = λ h. absurd (omega (arith, rest.short, length-append t m, section_some 0 content t s, h));
    }
peel {V} Spells empty value number Fact k some (ordered_part {number = other} {content = content} {more = more} p q o) (each_next {text = t} {more = m} s ss) e (h, r) =
    elim (dec_le other number) [
      | yes low ↦ peel_here Spells empty value number Fact k other content more t m (omega arith) o s ss (h, r)
      | no high ↦ peel_later Spells empty value number Fact some other content more (t ++ m) (omega arith) q o (each_next s ss) (h, r)
    ]

-- A way to spell what the sections above `last` hold: texts of it are sections, and sections have such a text, no longer than they are, and the same if it is no shorter.
pub record IsForm {W : Type 0} (last : ℕ) (Text : List ℕ → W → Type 0) (value : W) (Fact : Contents → Type 0) : Type 0 where
  pub above : IsAbove last Fact
  pub assemble : (text : List ℕ) → Text text value → Assembled last text Fact
  pub take : (text : List ℕ) → Assembled last text Fact → (taken : List ℕ) × Text taken value × (length taken ≤ length text) × (length text ≤ length taken → text ≡ taken)

-- no section but custom ones
end_taken : {sections : List Section} {text : List ℕ} → SpellsEach SpellsSection text sections → AreOrdered 11 sections → (taken : List ℕ) × SpellsNothing taken tt × (length taken ≤ length text) × (length text ≤ length taken → text ≡ taken)
end_taken each_none o = ([], refl, omega arith, λ h. refl)
end_taken (each_next {text = t} {more = m} s ss) (ordered_custom {content = content} c o) = ([], refl, omega arith, λ h. absurd (omega (arith, length-append t m, section_some 0 content t s, h)))
end_taken (each_next s ss) (ordered_part p q o) = absurd (omega arith)

-- No sections.
pub form_end : IsForm 11 SpellsNothing tt (λ f. Unit {0})
form_end = record {
  above = record { along = λ f g same u. u };
  assemble = λ text e. record { sections = []; spelled = rw e each_none; ordered = ordered_end; holds = tt };
  take = λ text a. end_taken a.spelled a.ordered;
}

take_more : {V W : Type 0} (Spells : List ℕ → V → Type 0) (empty value : V) (Text : List ℕ → W → Type 0) (later : W) (number last : ℕ) (Fact : Contents → Type 0) → IsForm number Text later Fact → number ≡ last + 1 → (text : List ℕ) → Assembled last text (With number Spells empty value Fact) → (taken : List ℕ) × Then (SpellsPart number Spells empty) Text taken (value, later) × (length taken ≤ length text) × (length text ≤ length taken → text ≡ taken)
take_more Spells empty value Text later number last Fact k e text a =
    let peeled = peel Spells empty value number Fact k.above (omega arith) a.ordered a.spelled (omega arith) a.holds in
    let rest = k.take peeled.back peeled.later in
    (peeled.front ++ rest.0, (peeled.front, rest.0, peeled.part, rest.1, refl), omega (arith, peeled.short, rest.2, length-append peeled.front rest.0), λ h. peeled.whole (omega (arith, rest.2, length-append peeled.front rest.0, h)) ∙ ap (λ z. peeled.front ++ z) (rest.3 (omega (arith, peeled.short, length-append peeled.front rest.0, h))))

assemble_more : {V W : Type 0} (Spells : List ℕ → V → Type 0) (empty value : V) (Text : List ℕ → W → Type 0) (later : W) (number last : ℕ) (Fact : Contents → Type 0) → IsForm number Text later Fact → number ≡ last + 1 → number ≤ 11 → (text : List ℕ) → Then (SpellsPart number Spells empty) Text text (value, later) → Assembled last text (With number Spells empty value Fact)
assemble_more Spells empty value Text later number last Fact k e within text (front, back, s, t, g) =
    let P : List ℕ → Type 0 = λ z. Assembled last z (With number Spells empty value Fact) in
    subst P (sym g) (assembled_more s last back Fact k.above e within (k.assemble back t))

-- One number more.
pub form_more : {V W : Type 0} (Spells : List ℕ → V → Type 0) (empty value : V) (Text : List ℕ → W → Type 0) (later : W) (number last : ℕ) (Fact : Contents → Type 0) → IsForm number Text later Fact → number ≡ last + 1 → number ≤ 11 → IsForm last (Then (SpellsPart number Spells empty) Text) (value, later) (With number Spells empty value Fact)
form_more Spells empty value Text later number last Fact k e within = record {
  above = above_more Spells empty value number last Fact k.above e;
  assemble = assemble_more Spells empty value Text later number last Fact k e within;
  take = take_more Spells empty value Text later number last Fact k e;
}
