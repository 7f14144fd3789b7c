-- Unsigned LEB128 numbers.
use Rattle.std.proofs.Common.{◌≡◌, ℕ, zero, suc, ◌+◌, ◌-◌, ◌*◌, ◌^◌, ◌<◌, ◌≤◌, List, [], ◌∷◌, ◌++◌, length, drop, refl, ap, sym, ◌∙◌, arith, get_or, subst}
use Rattle.std.proofs.lemmas.Nat.{pow-add}
use Rattle.std.proofs.Math.Pow.{pow_mono}
use Rattle.std.proofs.lemmas.List.{drop_more}
use Rattle.byte_fields.specs.Leb.{SpellsUnsigned, unsigned_last, unsigned_more}
use Rattle.byte_fields.specs.inner.Texts.{LebText, text_last, text_more}
use Rattle.byte_fields.proofs.Texts.{text_some, text_end, text_before, text_one, drop_last}

-- what is spelled is a text
pub unsigned_text : {width n : ℕ} {text : List ℕ} → SpellsUnsigned width text n → LebText text
unsigned_text (unsigned_last p q) = text_last p
unsigned_text (unsigned_more p q r s) = text_more p (unsigned_text s)

-- a text spells one number at most
pub unsigned_once : {width m n : ℕ} {text : List ℕ} → SpellsUnsigned width text m → SpellsUnsigned width text n → m ≡ n
unsigned_once (unsigned_last p q) (unsigned_last r s) = refl
unsigned_once (unsigned_last p q) (unsigned_more r s t u) = absurd (omega arith)
unsigned_once (unsigned_more p q r s) (unsigned_last t u) = absurd (omega arith)
unsigned_once (unsigned_more {byte = b} p q r s) (unsigned_more t u v w) = ap (λ h. 2 ^ 7 * h + (b - 2 ^ 7)) (unsigned_once s w)

-- no spelling begins another, so one number at most is at the front
pub unsigned_one : {width m n : ℕ} {a b : List ℕ} → SpellsUnsigned width a m → SpellsUnsigned width b n → (p q : List ℕ) → a ++ p ≡ b ++ q → (m ≡ n) × (a ≡ b)
unsigned_one {width} {m} {n} {a} {b} s t p q e =
    let same : a ≡ b = text_one (unsigned_text s) (unsigned_text t) p q e in
    let P : List ℕ → Type 0 = λ z. SpellsUnsigned width z m in
    (unsigned_once (subst P same s) t, same)

-- spellings of one number with as many bytes are the same
pub unsigned_same : {width m n : ℕ} {a b : List ℕ} → SpellsUnsigned width a m → SpellsUnsigned width b n → m ≡ n → length a ≡ length b → a ≡ b
unsigned_same (unsigned_last p q) (unsigned_last r s) e l = ap (λ z. z ∷ []) e
unsigned_same (unsigned_last p q) (unsigned_more r s t u) e l = absurd (omega (arith, text_some (unsigned_text u)))
unsigned_same (unsigned_more p q r s) (unsigned_last t u) e l = absurd (omega (arith, text_some (unsigned_text s)))
unsigned_same (unsigned_more {byte = x} {high = m} {bytes = xs} p q r s) (unsigned_more {byte = y} {high = n} {bytes = ys} t u v w) e l =
    let high : m ≡ n = omega arith in
    let byte : x ≡ y = omega arith in
    let rest : xs ≡ ys = unsigned_same s w high (omega arith) in
    cc

-- it takes at most one byte for each seven bits
pub unsigned_most : {width n : ℕ} {text : List ℕ} → 0 < width → SpellsUnsigned width text n → 7 * length text < width + 7
unsigned_most h (unsigned_last p q) = omega arith
unsigned_most {width = w} h (unsigned_more {bytes = bs} p q r s) = let rest = unsigned_most (omega arith) s in omega arith

-- seven bits more
pub seven_more : (width : ℕ) → 7 < width → 2 ^ width ≡ 2 ^ (width - 7) * 128
seven_more width h =
    let parts : width ≡ (width - 7) + 7 = omega arith in
    ap (λ w. 2 ^ w) parts ∙ pow-add 2 (width - 7) 7

-- the number has so many bits
pub unsigned_range : {width n : ℕ} {text : List ℕ} → SpellsUnsigned width text n → n < 2 ^ width
unsigned_range (unsigned_last p q) = q
unsigned_range {width = w} (unsigned_more {byte = b} {high = high} p q r s) =
    let below = unsigned_range s in
    rw (seven_more w r) (omega (arith, below))

-- the last byte has the bits that are left for it
pub unsigned_end : (last left : ℕ) {width n : ℕ} {text : List ℕ} → SpellsUnsigned width text n → length text ≡ last + 1 → left ≡ width - 7 * last → get_or text last 0 < 2 ^ left
unsigned_end zero left {width = w} (unsigned_last p q) e f = let same : left ≡ w = omega arith in rw same q
unsigned_end (suc last) left (unsigned_last p q) e f = absurd (omega arith)
unsigned_end zero left (unsigned_more p q r s) e f = absurd (omega (arith, text_some (unsigned_text s)))
unsigned_end (suc last) left (unsigned_more p q r s) e f = unsigned_end last left s (omega arith) (omega arith)

-- the last byte by itself
pub unsigned_first : (text : List ℕ) (last left : ℕ) → length text ≡ last + 1 → LebText text → get_or text last 0 < 2 ^ left → SpellsUnsigned left (drop last text) (get_or text last 0)
unsigned_first text last left e t h = rw (drop_last text last e) (unsigned_last (text_end last t e) h)

-- one byte more, before those that were read
pub unsigned_step : (text : List ℕ) (width at value byte : ℕ) → 0 < at → at < length text → 7 * at < width → byte ≡ get_or text (at - 1) 0 → LebText text → byte < 256 → SpellsUnsigned (width - 7 * at) (drop at text) value → SpellsUnsigned (width - 7 * (at - 1)) (drop (at - 1) text) (value * 128 + (byte - 128))
unsigned_step text width at value byte p q r e t h s =
    let next : at - 1 + 1 ≡ at = omega arith in
    let bytes : drop (at - 1) text ≡ byte ∷ drop at text = drop_more text (at - 1) 0 (omega arith) ∙ ap (λ z. z ∷ drop (at - 1 + 1) text) (sym e) ∙ ap (λ z. byte ∷ drop z text) next in
    let high : 128 ≤ byte = omega (arith, text_before (at - 1) t (omega arith)) in
    let bits : width - 7 * at ≡ (width - 7 * (at - 1)) - 7 = omega arith in
    let tail : SpellsUnsigned ((width - 7 * (at - 1)) - 7) (drop at text) value = let P : ℕ → Type 0 = λ w. SpellsUnsigned w (drop at text) value in subst P bits s in
    let more : SpellsUnsigned (width - 7 * (at - 1)) (byte ∷ drop at text) (128 * value + (byte - 128)) = unsigned_more high h (omega arith) tail in
    let number : value * 128 + (byte - 128) ≡ 128 * value + (byte - 128) = omega arith in
    rw (bytes, number) more

-- a byte below 128 has any seven bits or more
pub seven_bits : (byte left : ℕ) → byte < 128 → 7 ≤ left → byte < 2 ^ left
seven_bits byte left h p = let grows : 2 ^ 7 ≤ 2 ^ left = pow_mono p in omega arith

-- there is room for seven bits more
pub room_more : (width at value : ℕ) → 0 < at → 7 * at < width → value < 2 ^ (width - 7 * at) → value * 128 + 128 ≤ 2 ^ width
room_more width at value p h s =
    let parts : 2 ^ (width - 7 * at + 7) ≡ 2 ^ (width - 7 * at) * 128 = pow-add 2 (width - 7 * at) 7 in
    let grows : 2 ^ (width - 7 * at + 7) ≤ 2 ^ width = pow_mono (omega arith) in
    omega arith
