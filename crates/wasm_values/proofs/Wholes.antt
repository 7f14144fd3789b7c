-- Texts with nothing behind them.
use Rattle.std.proofs.Common.{◌≡◌, ℕ, List, [], ◌∷◌, ◌++◌, refl, ap, sym, ◌∙◌, subst}
use Rattle.std.proofs.lemmas.List.{append-nil}
use Rattle.byte_fields.specs.Front.{Begins, BeginsOnly, BeginsNone}
use Rattle.wasm_values.specs.Spelling.{SpellsByte}

-- A text that is the whole is one at the front, with nothing left.
begins_whole : {V : Type 0} (Spells : List ℕ → V → Type 0) (content : List ℕ) (value : V) → Spells content value → Begins Spells content value []
begins_whole Spells content value s = (content, s, sym (append-nil content))

pub whole_found : {V : Type 0} (Spells : List ℕ → V → Type 0) (start content left : List ℕ) (value : V) → start ≡ content → left ≡ [] → Begins Spells start value left → Spells content value
whole_found {V} Spells start content left value same none (text, s, e) =
    let whole : text ≡ content = sym (append-nil text) ∙ ap (λ z. text ++ z) (sym none) ∙ sym e ∙ same in
    let P : List ℕ → Type 0 = λ z. Spells z value in
    subst P whole s

pub whole_only : {V : Type 0} (Spells : List ℕ → V → Type 0) (start content left : List ℕ) (value other : V) → start ≡ content → BeginsOnly Spells start value left → Spells content other → other ≡ value
whole_only {V} Spells start content left value other same only s =
    let P : List ℕ → Type 0 = λ z. BeginsOnly Spells z value left in
    (subst P same only other [] (begins_whole Spells content other s)).0

pub whole_none : {V : Type 0} (Spells : List ℕ → V → Type 0) (start content : List ℕ) (other : V) → start ≡ content → BeginsNone Spells start → Spells content other → ⊥
whole_none {V} Spells start content other same none s =
    let P : List ℕ → Type 0 = λ z. BeginsNone Spells z in
    subst P same none other [] (begins_whole Spells content other s)

-- Where bytes are left behind the only text, none is the whole.
pub whole_left : {V : Type 0} (Spells : List ℕ → V → Type 0) (start content left : List ℕ) (value other : V) → start ≡ content → BeginsOnly Spells start value left → (left ≡ [] → ⊥) → Spells content other → ⊥
whole_left {V} Spells start content left value other same only some s =
    let P : List ℕ → Type 0 = λ z. BeginsOnly Spells z value left in
    some (sym (subst P same only other [] (begins_whole Spells content other s)).1)

-- The first byte.
pub byte_found : (bytes rest : List ℕ) (byte : ℕ) → bytes ≡ byte ∷ rest → Begins SpellsByte bytes byte rest
byte_found bytes rest byte e = (byte ∷ [], refl, e)

pub byte_only : (bytes rest : List ℕ) (byte : ℕ) → bytes ≡ byte ∷ rest → BeginsOnly SpellsByte bytes byte rest
byte_only bytes rest byte e = λ other more (text, s, f).
    let both : byte ∷ rest ≡ other ∷ more = sym e ∙ f ∙ ap (λ z. z ++ more) s in
    let head : other ≡ byte = cc in
    let tail : more ≡ rest = cc in
    (head, tail)
