-- Texts whose first byte says how the rest is read.
use Rattle.std.proofs.Common.{◌≡◌, ℕ, List, [], ◌∷◌, ◌++◌, ap, sym, ◌∙◌, subst}
use Rattle.byte_fields.specs.Front.{Begins, BeginsOnly, BeginsNone}

-- Behind this first byte stands another form, whose values make the values of this one.
pub record IsTag (V W : Type 0) (Spells : List ℕ → V → Type 0) (Inner : List ℕ → W → Type 0) (make : W → V) (tag : ℕ) : Type 0 where
  pub never : (value : V) → Spells [] value → ⊥
  pub spell : (text : List ℕ) (inner : W) → Inner text inner → Spells (tag ∷ text) (make inner)
  pub behind : (text : List ℕ) (value : V) → Spells (tag ∷ text) value → (inner : W) × Inner text inner × (value ≡ make inner)

heads : (a b : ℕ) {x y : List ℕ} → a ∷ x ≡ b ∷ y → a ≡ b
heads a b e = cc

tails : (a b : ℕ) {x y : List ℕ} → a ∷ x ≡ b ∷ y → x ≡ y
tails a b e = cc

-- A text at the front is its tag, and what stands behind it.
pub tagged : {V W : Type 0} {Spells : List ℕ → V → Type 0} {Inner : List ℕ → W → Type 0} {make : W → V} {tag : ℕ} → IsTag V W Spells Inner make tag → (bytes rest text : List ℕ) (value : V) → Spells text value → tag ∷ bytes ≡ text ++ rest → (inner : W) × Begins Inner bytes inner rest × (value ≡ make inner)
tagged t bytes rest [] value s e = absurd (t.never value s)
tagged {Spells = Spells} {tag = tag} t bytes rest (first ∷ text) value s e =
    let same : first ≡ tag = sym (heads tag first e) in
    let P : ℕ → Type 0 = λ z. Spells (z ∷ text) value in
    let inner = t.behind text value (subst P same s) in
    (inner.0, (text, inner.1, tails tag first e), inner.2)

-- what the bytes are, by the byte that was read
whole_is : {whole behind : List ℕ} {code tag : ℕ} → whole ≡ code ∷ behind → code ≡ tag → whole ≡ tag ∷ behind
whole_is {behind = behind} e f = e ∙ ap (λ z. z ∷ behind) f

pub tag_found : {V W : Type 0} {Spells : List ℕ → V → Type 0} {Inner : List ℕ → W → Type 0} {make : W → V} {tag : ℕ} → IsTag V W Spells Inner make tag → {whole behind : List ℕ} {code : ℕ} → whole ≡ code ∷ behind → code ≡ tag → (rest : List ℕ) (inner : W) → Begins Inner behind inner rest → Begins Spells whole (make inner) rest
tag_found {tag = tag} t e f rest inner (text, s, g) = (tag ∷ text, t.spell text inner s, whole_is e f ∙ ap (λ z. tag ∷ z) g)

pub tag_only : {V W : Type 0} {Spells : List ℕ → V → Type 0} {Inner : List ℕ → W → Type 0} {make : W → V} {tag : ℕ} → IsTag V W Spells Inner make tag → {whole behind : List ℕ} {code : ℕ} → whole ≡ code ∷ behind → code ≡ tag → (rest : List ℕ) (inner : W) → BeginsOnly Inner behind inner rest → BeginsOnly Spells whole (make inner) rest
tag_only {make = make} t {behind = behind} e f rest inner only = λ other more (text, s, g).
    let found = tagged t behind more text other s (sym (whole_is e f) ∙ g) in
    let one = only found.0 more found.1 in
    (found.2 ∙ ap make one.0, one.1)

pub tag_none : {V W : Type 0} {Spells : List ℕ → V → Type 0} {Inner : List ℕ → W → Type 0} {make : W → V} {tag : ℕ} → IsTag V W Spells Inner make tag → {whole behind : List ℕ} {code : ℕ} → whole ≡ code ∷ behind → code ≡ tag → BeginsNone Inner behind → BeginsNone Spells whole
tag_none t {behind = behind} e f none = λ value rest (text, s, g).
    let found = tagged t behind rest text value s (sym (whole_is e f) ∙ g) in
    none found.0 rest found.1
