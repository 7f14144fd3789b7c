-- Texts at the front of the same bytes.
use Rattle.std.proofs.Common.{◌≡◌, ℕ, ◌^◌, ◌<◌, List, ◌∷◌, ◌++◌, length, drop, take, sym, ap, ◌∙◌, refl, arith, length-append}
use Rattle.std.proofs.lemmas.List.{drop_at, take_at}
use Rattle.byteorder.specs.Endian.{little_bytes, little_number}
use Rattle.byteorder.specs.Numbers.{little_number-reads_back, length-bytes_low_first}

-- texts of one length are one text
pub text_one : {A : Type 0} (a b r s : List A) → length a ≡ length b → a ++ r ≡ b ++ s → (a ≡ b) × (r ≡ s)
text_one {A} a b r s same e =
    let n = length b in
    let front : a ≡ b = sym (take_at a r n same) ∙ ap (λ (z : List A). take n z) e ∙ take_at b s n refl in
    let rest : r ≡ s = sym (drop_at a r n same) ∙ ap (λ (z : List A). drop n z) e ∙ drop_at b s n refl in
    (front, rest)

-- the texts of two numbers of so many bytes are those of one number
pub word_one : (n a b : ℕ) (r s : List ℕ) → a < 256 ^ n → b < 256 ^ n → little_bytes n a ++ r ≡ little_bytes n b ++ s → (a ≡ b) × (r ≡ s)
word_one n a b r s p q e =
    let same : a ≡ b = sym (little_number-reads_back n a r p) ∙ ap (λ (z : List ℕ). little_number n z) e ∙ little_number-reads_back n b s q in
    let sizes : length (little_bytes n a) ≡ length (little_bytes n b) = length-bytes_low_first 0 n a ∙ sym (length-bytes_low_first 0 n b) in
    (same, (text_one (little_bytes n a) (little_bytes n b) r s sizes e).1)

-- what is behind a number that was read
pub behind_word : (n a b : ℕ) (bytes r s : List ℕ) → a < 256 ^ n → b < 256 ^ n → bytes ≡ little_bytes n a ++ r → bytes ≡ little_bytes n b ++ s → (a ≡ b) × (r ≡ s)
behind_word n a b bytes r s p q e f = word_one n a b r s p q (sym e ∙ f)

-- fewer bytes are no number
pub word_short : (n b : ℕ) (bytes s : List ℕ) → length bytes < n → bytes ≡ little_bytes n b ++ s → ⊥
word_short n b bytes s short e =
    omega (arith, ap length e, length-append (little_bytes n b) s, length-bytes_low_first 0 n b)

-- what is behind a byte that was read
pub behind_byte : (a b : ℕ) (bytes r s : List ℕ) → bytes ≡ a ∷ r → bytes ≡ b ∷ s → (a ≡ b) × (r ≡ s)
behind_byte a b bytes r s e f =
    let both : a ∷ r ≡ b ∷ s = sym e ∙ f in
    let one : a ≡ b = cc in
    let rest : r ≡ s = cc in
    (one, rest)
