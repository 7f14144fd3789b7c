-- A size, and so many bytes, which have to be one text.
use Rattle.std.proofs.Common.{◌≡◌, ℕ, List, [], ◌∷◌, ◌++◌, length, refl, ap, sym, ◌∙◌, subst}
use Rattle.std.proofs.lemmas.List.{append-nil}
use Rattle.byte_fields.specs.Front.{Begins, BeginsOnly, BeginsNone}
use Rattle.wasm_values.specs.Spelling.{SpellsBytes, SpellsSized}

pub sized_found : {V : Type 0} (Spells : List ℕ → V → Type 0) (bytes content rest left : List ℕ) (value : V) → Begins SpellsBytes bytes content rest → Begins Spells content value left → left ≡ [] → Begins (SpellsSized Spells) bytes value rest
sized_found {V} Spells bytes content rest left value (text, s, e) (inside, t, f) none =
    let whole : content ≡ inside = f ∙ ap (λ z. inside ++ z) none ∙ append-nil inside in
    let P : List ℕ → Type 0 = λ z. Spells z value in
    (text, (content, subst P (sym whole) t, s), e)

-- Any other value has the same bytes, all of them.
sized_same : {V : Type 0} (Spells : List ℕ → V → Type 0) (bytes content rest more : List ℕ) (other : V) → BeginsOnly SpellsBytes bytes content rest → Begins (SpellsSized Spells) bytes other more → Begins Spells content other [] × (more ≡ rest)
sized_same {V} Spells bytes content rest more other only (text, (inside, t, s), e) =
    let one = only inside more (text, s, e) in
    ((inside, t, sym one.0 ∙ sym (append-nil inside)), one.1)

pub sized_only : {V : Type 0} (Spells : List ℕ → V → Type 0) (bytes content rest left : List ℕ) (value : V) → BeginsOnly SpellsBytes bytes content rest → BeginsOnly Spells content value left → BeginsOnly (SpellsSized Spells) bytes value rest
sized_only Spells bytes content rest left value only inner = λ other more b.
    let same = sized_same Spells bytes content rest more other only b in
    ((inner other [] same.0).0, same.1)

pub sized_none : {V : Type 0} (Spells : List ℕ → V → Type 0) (bytes content rest : List ℕ) → BeginsOnly SpellsBytes bytes content rest → BeginsNone Spells content → BeginsNone (SpellsSized Spells) bytes
sized_none Spells bytes content rest only none = λ other more b. none other [] (sized_same Spells bytes content rest more other only b).0

-- Where bytes are left behind the only text, the content is none.
pub sized_left : {V : Type 0} (Spells : List ℕ → V → Type 0) (bytes content rest left : List ℕ) (value : V) → BeginsOnly SpellsBytes bytes content rest → BeginsOnly Spells content value left → (left ≡ [] → ⊥) → BeginsNone (SpellsSized Spells) bytes
sized_left Spells bytes content rest left value only inner some = λ other more b.
    let same = sized_same Spells bytes content rest more other only b in
    some (sym (inner other [] same.0).1)

pub sized_short : {V : Type 0} (Spells : List ℕ → V → Type 0) (bytes : List ℕ) → BeginsNone SpellsBytes bytes → BeginsNone (SpellsSized Spells) bytes
sized_short Spells bytes none = λ other more (text, (inside, t, s), e). none inside more (text, s, e)

-- A list of no entries.
pub none_left : (bytes : List ℕ) → length bytes ≡ 0 → bytes ≡ []
none_left [] e = refl
none_left (byte ∷ bytes) e = absurd (cc)
