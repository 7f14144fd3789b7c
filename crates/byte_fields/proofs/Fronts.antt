-- What stands at the front of bytes, for spellings that are LEB128 texts.
use Rattle.std.proofs.Common.{◌≡◌, ℕ, ◌+◌, ◌-◌, ◌≤◌, ℤ, List, ◌++◌, length, refl, sym, ◌∙◌, ap, arith, subst, take, drop, Result, Ok, Err, IfOk, OnErr}
use Rattle.std.proofs.lemmas.List.{append_cancel_left, take_rest, drop-drop, drop_at}
use Rattle.byte_fields.specs.Front.{Begins, BeginsOnly, BeginsNone}
use Rattle.byte_fields.specs.Leb.{SpellsUnsigned, SpellsSigned}
use Rattle.byte_fields.specs.inner.Texts.{LebText}
use Rattle.byte_fields.proofs.Texts.{text_one}
use Rattle.byte_fields.proofs.Unsigned.{unsigned_text, unsigned_one, unsigned_most}
use Rattle.byte_fields.proofs.Signed.{signed_text, signed_one, signed_most}

-- No text of a value begins another's, and each is a LEB128 text of so many bytes at most.
pub record IsLebSpelling (V : Type 0) (Spells : List ℕ → V → Type 0) (most : ℕ) : Type 0 where
  pub is_text : (text : List ℕ) (value : V) → Spells text value → LebText text
  pub one : (a b : List ℕ) (value other : V) → Spells a value → Spells b other → (p q : List ℕ) → a ++ p ≡ b ++ q → (value ≡ other) × (a ≡ b)
  pub within : (text : List ℕ) (value : V) → Spells text value → length text ≤ most

pub unsigned_32 : IsLebSpelling ℕ (SpellsUnsigned 32) 5
unsigned_32 = record {
  is_text = λ text value s. unsigned_text s;
  one = λ a b value other s t p q e. unsigned_one s t p q e;
  within = λ text value s. let most = unsigned_most (omega arith) s in omega arith;
}

pub signed_32 : IsLebSpelling ℤ (SpellsSigned 32) 5
signed_32 = record {
  is_text = λ text value s. signed_text s;
  one = λ a b value other s t p q e. signed_one s t p q e;
  within = λ text value s. let most = signed_most (omega arith) s in omega arith;
}

pub signed_64 : IsLebSpelling ℤ (SpellsSigned 64) 10
signed_64 = record {
  is_text = λ text value s. signed_text s;
  one = λ a b value other s t p q e. signed_one s t p q e;
  within = λ text value s. let most = signed_most (omega arith) s in omega arith;
}

-- what is spelled at the front is all that is
pub front_only : {V : Type 0} (Spells : List ℕ → V → Type 0) (most : ℕ) (bytes text rest : List ℕ) (value : V) → IsLebSpelling V Spells most → Spells text value → bytes ≡ text ++ rest → BeginsOnly Spells bytes value rest
front_only {V} Spells most bytes text rest value k s e = λ other more (front, t, f).
    let same = k.one front text other value t s more rest (sym f ∙ e) in
    let both : text ++ more ≡ text ++ rest = ap (λ z. z ++ more) (sym same.1) ∙ sym f ∙ e in
    (same.0, append_cancel_left text more rest both)

-- a text at the front that spells nothing is the only text there
pub front_none : {V : Type 0} (Spells : List ℕ → V → Type 0) (most : ℕ) (bytes text rest : List ℕ) → IsLebSpelling V Spells most → LebText text → ((value : V) → Spells text value → ⊥) → bytes ≡ text ++ rest → BeginsNone Spells bytes
front_none {V} Spells most bytes text rest k t none e = λ value more (front, s, f).
    let same : front ≡ text = text_one (k.is_text front value s) t more rest (sym f ∙ e) in
    let P : List ℕ → Type 0 = λ z. Spells z value in
    none value (subst P same s)

-- where the bytes that are left have a text at the front, the rest is what is left behind it
pub rest_behind : (bytes left text : List ℕ) (place : ℕ) → drop place bytes ≡ left → (rest : List ℕ) × (take (length bytes - place) (drop place bytes) ≡ text ++ rest) → left ≡ text ++ drop (place + length text) bytes
rest_behind bytes left text place e (rest, f) =
    let whole : drop place bytes ≡ text ++ rest = sym (take_rest bytes place) ∙ f in
    let behind : drop (place + length text) bytes ≡ rest = sym (drop-drop (length text) place bytes) ∙ ap (drop (length text)) whole ∙ drop_at text rest (length text) refl in
    sym e ∙ whole ∙ ap (λ z. text ++ z) (sym behind)

-- where they have none, they spell nothing
pub left_none : {V : Type 0} (Spells : List ℕ → V → Type 0) (most : ℕ) (bytes left : List ℕ) (place : ℕ) → IsLebSpelling V Spells most → drop place bytes ≡ left → ((text rest : List ℕ) → LebText text → length text ≤ most → take (length bytes - place) (drop place bytes) ≡ text ++ rest → ⊥) → BeginsNone Spells left
left_none {V} Spells most bytes left place k e none = λ value rest (text, s, f).
    none text rest (k.is_text text value s) (k.within text value s) (take_rest bytes place ∙ e ∙ f)

-- what a reader answers where a value is spelled at the front
pub reads_front : {V E : Type 0} (Spells : List ℕ → V → Type 0) (bytes left rest : List ℕ) (value : V) (result : Result V E) → IfOk result (λ read. BeginsOnly Spells bytes read left) → OnErr result (BeginsNone Spells bytes) → Begins Spells bytes value rest → result ≡ Ok value
reads_front Spells bytes left rest value (Ok read) only bad begins = ap Ok (sym (only value rest begins).0)
reads_front Spells bytes left rest value (Err e) only bad begins = absurd (bad value rest begins)
