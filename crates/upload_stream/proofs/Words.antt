-- Numbers and texts at the front of the same bytes.
use Rattle.std.proofs.Common.{◌≡◌, ℕ, suc, get_or, ◌+◌, ◌^◌, ◌<◌, List, [], ◌∷◌, ◌++◌, length, drop, take, sym, ap, ◌∙◌, refl, arith, length-append}
use Rattle.std.specs.List.{AllByRecursion}
use Rattle.std.proofs.lemmas.List.{drop_at, take_at}
use Rattle.byteorder.specs.Endian.{little_bytes, little_number}
use Rattle.byteorder.specs.Numbers.{little_number-reads_back, length-bytes_low_first}

-- texts of one length are one text
pub text_one : {A : Type 0} (a b r s : List A) → length a ≡ length b → a ++ r ≡ b ++ s → (a ≡ b) × (r ≡ s)
text_one {A} a b r s same e =
    let n = length b in
    let front : a ≡ b = sym (take_at a r n same) ∙ ap (λ (z : List A). take n z) e ∙ take_at b s n refl in
    let rest : r ≡ s = sym (drop_at a r n same) ∙ ap (λ (z : List A). drop n z) e ∙ drop_at b s n refl in
    (front, rest)

-- the texts of two numbers of so many bytes are those of one number
word_one : (n a b : ℕ) (r s : List ℕ) → a < 256 ^ n → b < 256 ^ n → little_bytes n a ++ r ≡ little_bytes n b ++ s → (a ≡ b) × (r ≡ s)
word_one n a b r s p q e =
    let same : a ≡ b = sym (little_number-reads_back n a r p) ∙ ap (λ (z : List ℕ). little_number n z) e ∙ little_number-reads_back n b s q in
    let sizes : length (little_bytes n a) ≡ length (little_bytes n b) = length-bytes_low_first 0 n a ∙ sym (length-bytes_low_first 0 n b) in
    (same, (text_one (little_bytes n a) (little_bytes n b) r s sizes e).1)

-- what is behind a number that was read
pub behind_word : (n a b : ℕ) (bytes r s : List ℕ) → a < 256 ^ n → b < 256 ^ n → bytes ≡ little_bytes n a ++ r → bytes ≡ little_bytes n b ++ s → (a ≡ b) × (r ≡ s)
behind_word n a b bytes r s p q e f = word_one n a b r s p q (sym e ∙ f)

-- each element of a text is a byte
pub all_bytes : (text : List ℕ) → ((i : ℕ) → get_or text i 0 < 256) → AllByRecursion (λ byte. byte < 2 ^ 8) text
all_bytes [] fits = tt
all_bytes (x ∷ text) fits = (fits 0, all_bytes text (λ i. fits (suc i)))

pub word_length : (n value : ℕ) (bytes left : List ℕ) → bytes ≡ little_bytes n value ++ left → length bytes ≡ n + length left
word_length n value bytes left e = omega (arith, ap length e, length-append (little_bytes n value) left, length-bytes_low_first 0 n value)
