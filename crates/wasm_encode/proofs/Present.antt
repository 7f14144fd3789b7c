-- Shortest spellings of a section that may be left out.
use Rattle.std.proofs.Common.{◌≡◌, ℕ, List, [], ◌∷◌, ◌++◌, length, map, refl, ap, sym, ◌∙◌, subst, arith, append_assoc, Option, Some, None}
use Rattle.std.proofs.lemmas.List.{append-nil}
use Rattle.byte_fields.specs.Front.{SpellsShortest}
use Rattle.wasm_values.specs.Spelling.{SpellsU32, SpellsBytes, SpellsSized}
use Rattle.wasm_module.specs.Sections.{SpellsStart}
use Rattle.wasm_encode.specs.inner.Gains.{IsSpelled, Gains}
use Rattle.wasm_encode.specs.inner.Parts.{SpellsPart, part_absent, part_present}
use Rattle.wasm_encode.proofs.Numbers.{sized_shortest}
use Rattle.wasm_encode.proofs.Assembled.{absent_part}

-- The empty value needs no byte.
pub gains_absent : {V : Type 0} (number : ℕ) (Spells : List ℕ → V → Type 0) (empty value : V) (a : List ℕ) → value ≡ empty → Gains (SpellsPart number Spells empty) value a a
gains_absent number Spells empty value a e = ([], (absent_part number Spells empty value e, λ other s. omega arith), sym (append-nil a))

-- Any other is spelled.
part_some : {V : Type 0} {number : ℕ} {Spells : List ℕ → V → Type 0} {empty value : V} {text : List ℕ} → SpellsPart number Spells empty text value → (value ≡ empty → ⊥) → (bytes : List ℕ) × SpellsSized Spells bytes value × (text ≡ number ∷ bytes)
part_some part_absent some = absurd (some refl)
part_some (part_present {bytes = bytes} s) some = (bytes, s, refl)

pub part_spelled : {V : Type 0} (number : ℕ) (Spells : List ℕ → V → Type 0) (empty value : V) → IsSpelled (SpellsPart number Spells empty) value → (value ≡ empty → ⊥) → IsSpelled (SpellsSized Spells) value
part_spelled number Spells empty value (text, s) some = let part = part_some s some in (part.0, part.1)

pub gains_present : {V : Type 0} (number : ℕ) (Spells : List ℕ → V → Type 0) (empty value : V) (content a b : List ℕ) → (value ≡ empty → ⊥) → SpellsShortest Spells content value → Gains SpellsBytes content (a ++ number ∷ []) b → Gains (SpellsPart number Spells empty) value a b
gains_present number Spells empty value content a b some s (bytes, t, e) =
    let sized = sized_shortest Spells value content bytes s t in
    (number ∷ bytes, (part_present sized.0, λ other u. let part = part_some u some in omega (arith, sized.1 part.0 part.1, ap length part.2)), e ∙ append_assoc a (number ∷ []) bytes)

-- A list with an entry.
pub map_some : {V E : Type 0} (seen : E → V) (list : List E) → (length list ≡ 0 → ⊥) → map seen list ≡ [] → ⊥
map_some seen [] some e = some refl
map_some seen (x ∷ xs) some e = absurd (cc)

pub map_none : {V E : Type 0} (seen : E → V) (list : List E) → length list ≡ 0 → map seen list ≡ []
map_none seen [] e = refl
map_none seen (x ∷ xs) e = absurd (omega (arith, e))

-- The index of the start function.
pub start_some : (func : ℕ) (start : Option ℕ) → start ≡ Some func → start ≡ None → ⊥
start_some func start e f = absurd (cc)

same_func : (func other : ℕ) → ◌≡◌ {A = Option ℕ} (Some func) (Some other) → other ≡ func
same_func func other e = cc

pub start_shortest : (func : ℕ) (start : Option ℕ) (content : List ℕ) → start ≡ Some func → SpellsShortest SpellsU32 content func → SpellsShortest SpellsStart content start
start_shortest func start content e s =
    ((func, s.0, e), λ other (index, t, f). let P : ℕ → Type 0 = λ z. SpellsU32 other z in s.1 other (subst P (same_func func index (sym e ∙ f)) t))
