-- Shortest spellings of values whose first byte says how the rest is read.
use Rattle.std.proofs.Common.{◌≡◌, ℕ, List, [], ◌∷◌, ◌++◌, length, ap, sym, ◌∙◌, subst, append_assoc, arith}
use Rattle.byte_fields.specs.Front.{SpellsShortest}
use Rattle.wasm_encode.specs.inner.Gains.{IsSpelled, Gains}

-- Behind this first byte stands another form, and the values that it makes are spelled in no other way.
pub record IsTagged (V W : Type 0) (Spells : List ℕ → V → Type 0) (Inner : List ℕ → W → Type 0) (make : W → V) (tag : ℕ) : Type 0 where
  pub spell : (text : List ℕ) (inner : W) → Inner text inner → Spells (tag ∷ text) (make inner)
  pub only : (text : List ℕ) (inner : W) → Spells text (make inner) → (behind : List ℕ) × Inner behind inner × (text ≡ tag ∷ behind)

pub inner_spelled : {V W : Type 0} {Spells : List ℕ → V → Type 0} {Inner : List ℕ → W → Type 0} {make : W → V} {tag : ℕ} → IsTagged V W Spells Inner make tag → (inner : W) (value : V) → value ≡ make inner → IsSpelled Spells value → IsSpelled Inner inner
inner_spelled {V} {W} {Spells} t inner value is (text, s) =
    let P : V → Type 0 = λ z. Spells text z in
    let behind = t.only text inner (subst P is s) in
    (behind.0, behind.1)

tag_shortest : {V W : Type 0} {Spells : List ℕ → V → Type 0} {Inner : List ℕ → W → Type 0} {make : W → V} {tag : ℕ} → IsTagged V W Spells Inner make tag → (inner : W) (text : List ℕ) → SpellsShortest Inner text inner → SpellsShortest Spells (tag ∷ text) (make inner)
tag_shortest t inner text s =
    (t.spell text inner s.0, λ other r. let behind = t.only other inner r in omega (arith, s.1 behind.0 behind.1, ap length behind.2))

-- The byte, and what stands behind it.
pub gains_tagged : {V W : Type 0} {Spells : List ℕ → V → Type 0} {Inner : List ℕ → W → Type 0} {make : W → V} {tag : ℕ} → IsTagged V W Spells Inner make tag → (inner : W) (value : V) (a b c : List ℕ) → value ≡ make inner → b ≡ a ++ tag ∷ [] → Gains Inner inner b c → Gains Spells value a c
gains_tagged {V} {W} {Spells} {tag = tag} t inner value a b c is e (text, s, f) =
    let P : V → Type 0 = λ z. SpellsShortest Spells (tag ∷ text) z in
    (tag ∷ text, subst P (sym is) (tag_shortest t inner text s), f ∙ ap (λ z. z ++ text) e ∙ append_assoc a (tag ∷ []) text)
