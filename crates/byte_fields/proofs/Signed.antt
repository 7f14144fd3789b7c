-- Signed LEB128 numbers.
use Rattle.std.proofs.Common.{◌≡◌, ℕ, zero, suc, ◌+◌, ◌-◌, ◌*◌, ◌^◌, ◌%◌, ◌<◌, ◌≤◌, min, ℤ, pos, negsuc, ◌+ℤ◌, ◌-ℤ◌, ◌*ℤ◌, ◌≤ℤ◌, ◌<ℤ◌, FitsSigned, to_z, of_z, w32, w64, List, [], ◌∷◌, ◌++◌, length, drop, refl, ap, sym, ◌∙◌, arith, get_or, subst}
use Rattle.std.proofs.lemmas.Nat.{pow-add}
use Rattle.std.proofs.lemmas.Int.{ints, to_z-of_z, to_z_pos}
use Rattle.std.proofs.Math.Pow.{pow_mono}
use Rattle.std.proofs.lemmas.List.{drop_more}
use Rattle.byte_fields.specs.Leb.{SpellsSigned, signed_last, signed_negative, signed_more}
use Rattle.byte_fields.specs.inner.Texts.{LebText, text_last, text_more}
use Rattle.byte_fields.proofs.Texts.{text_some, text_before, text_one}

-- what is spelled is a text
pub signed_text : {width : ℕ} {n : ℤ} {text : List ℕ} → SpellsSigned width text n → LebText text
signed_text (signed_last p q) = text_last (omega arith)
signed_text (signed_negative p q r) = text_last q
signed_text (signed_more p q r s) = text_more p (signed_text s)

-- a text spells one number at most
pub signed_once : {width : ℕ} {m n : ℤ} {text : List ℕ} → SpellsSigned width text m → SpellsSigned width text n → m ≡ n
signed_once (signed_last p q) (signed_last r s) = refl
signed_once (signed_last p q) (signed_negative r s t) = absurd (omega arith)
signed_once (signed_last p q) (signed_more r s t u) = absurd (omega arith)
signed_once (signed_negative p q r) (signed_last s t) = absurd (omega arith)
signed_once (signed_negative p q r) (signed_negative s t u) = refl
signed_once (signed_negative p q r) (signed_more s t u v) = absurd (omega arith)
signed_once (signed_more p q r s) (signed_last t u) = absurd (omega arith)
signed_once (signed_more p q r s) (signed_negative t u v) = absurd (omega arith)
signed_once (signed_more {byte = b} p q r s) (signed_more t u v w) = ap (λ h. pos (2 ^ 7) *ℤ h +ℤ pos (b - 2 ^ 7)) (signed_once s w)

-- no spelling begins another, so one number at most is at the front
pub signed_one : {width : ℕ} {m n : ℤ} {a b : List ℕ} → SpellsSigned width a m → SpellsSigned width b n → (p q : List ℕ) → a ++ p ≡ b ++ q → (m ≡ n) × (a ≡ b)
signed_one {width} {m} {n} {a} {b} s t p q e =
    let same : a ≡ b = text_one (signed_text s) (signed_text t) p q e in
    let P : List ℕ → Type 0 = λ z. SpellsSigned width z m in
    (signed_once (subst P same s) t, same)

-- the same low bits, and the same of all, leave the same
pub same_left : (m n : ℤ) (low other : ℕ) → pos (2 ^ 7) *ℤ m +ℤ pos low ≡ pos (2 ^ 7) *ℤ n +ℤ pos other → low < 128 → other < 128 → (m ≡ n) × (low ≡ other)
same_left m n low other e p q = (omega (arith, ints, e), omega (arith, ints, e))

-- spellings of one number with as many bytes are the same
pub signed_same : {width : ℕ} {m n : ℤ} {a b : List ℕ} → SpellsSigned width a m → SpellsSigned width b n → m ≡ n → length a ≡ length b → a ≡ b
signed_same (signed_last p q) (signed_last r s) e l = ap (λ z. z ∷ []) (omega (arith, ints, e))
signed_same (signed_last p q) (signed_negative r s t) e l = absurd (omega (arith, ints, e))
signed_same (signed_negative p q r) (signed_last s t) e l = absurd (omega (arith, ints, e))
signed_same (signed_negative p q r) (signed_negative s t u) e l = ap (λ z. z ∷ []) (omega (arith, ints, e))
signed_same (signed_last p q) (signed_more r s t u) e l = absurd (omega (arith, text_some (signed_text u)))
signed_same (signed_negative p q r) (signed_more s t u v) e l = absurd (omega (arith, text_some (signed_text v)))
signed_same (signed_more p q r s) (signed_last t u) e l = absurd (omega (arith, text_some (signed_text s)))
signed_same (signed_more p q r s) (signed_negative t u v) e l = absurd (omega (arith, text_some (signed_text s)))
signed_same (signed_more {byte = x} {high = m} {bytes = xs} p q r s) (signed_more {byte = y} {high = n} {bytes = ys} t u v w) e l =
    let left = same_left m n (x - 2 ^ 7) (y - 2 ^ 7) e (omega arith) (omega arith) in
    let byte : x ≡ y = omega (arith, left.1) in
    let rest : xs ≡ ys = signed_same s w left.0 (omega arith) in
    cc

-- it takes at most one byte for each seven bits
pub signed_most : {width : ℕ} {n : ℤ} {text : List ℕ} → 0 < width → SpellsSigned width text n → 7 * length text < width + 7
signed_most h (signed_last p q) = omega arith
signed_most h (signed_negative p q r) = omega arith
signed_most {width = w} h (signed_more {bytes = bs} p q r s) = let rest = signed_most (omega arith) s in omega arith

-- the least and the most of half as many numbers as a power
pub record IsWithin (half : ℕ) (n : ℤ) : Type 0 where
  pub least : pos 0 ≤ℤ (n +ℤ pos half)
  pub most : n <ℤ pos half

-- seven bits more, below the number
pub within_more : (half : ℕ) (high : ℤ) (low : ℕ) → IsWithin half high → low < 128 → IsWithin (half * 128) (pos (2 ^ 7) *ℤ high +ℤ pos low)
within_more half (pos a) low h p = record { least = omega (arith, ints, h.least, h.most); most = omega (arith, ints, h.least, h.most) }
within_more half (negsuc a) low h p = record { least = omega (arith, ints, h.least, h.most); most = omega (arith, ints, h.least, h.most) }

pub within_times : (half : ℕ) (z : ℤ) → IsWithin half z → IsWithin (half * 128) (z *ℤ pos 128)
within_times half (pos a) h = record { least = omega (arith, ints, h.least, h.most); most = omega (arith, ints, h.least, h.most) }
within_times half (negsuc a) h = record { least = omega (arith, ints, h.least, h.most); most = omega (arith, ints, h.least, h.most) }

pub within_fits : (half : ℕ) (z : ℤ) → half ≤ 2 ^ 63 → IsWithin half z → FitsSigned w64 z
within_fits half z p h = omega (arith, ints, h.least, h.most)

-- half of the numbers of seven bits more
pub half_more : (width : ℕ) → 7 < width → 2 ^ (width - 1) ≡ 2 ^ (width - 7 - 1) * 128
half_more width h =
    let parts : width - 1 ≡ (width - 7 - 1) + 7 = omega arith in
    ap (λ w. 2 ^ w) parts ∙ pow-add 2 (width - 7 - 1) 7

-- the number has so many bits
pub signed_range : {width : ℕ} {n : ℤ} {text : List ℕ} → 0 < width → SpellsSigned width text n → IsWithin (2 ^ (width - 1)) n
signed_range h (signed_last p q) = record { least = omega (arith, ints); most = omega (arith, ints) }
signed_range {width = w} h (signed_negative {byte = b} p q r) = record { least = omega (arith, ints); most = omega (arith, ints) }
signed_range {width = w} h (signed_more {byte = b} {high = high} p q r s) =
    let below = signed_range (omega arith) s in
    let parts : 2 ^ (w - 1) ≡ 2 ^ (w - 7 - 1) * 128 = half_more w r in
    rw parts (within_more _ high (b - 2 ^ 7) below (omega arith))

-- the last byte is spelled in the bits that are left for it
pub signed_end : (last left : ℕ) {width : ℕ} {n : ℤ} {text : List ℕ} → SpellsSigned width text n → length text ≡ last + 1 → left ≡ width - 7 * last → (m : ℤ) × SpellsSigned left (get_or text last 0 ∷ []) m
signed_end zero left {width = w} (signed_last {byte = b} p q) e f = let same : left ≡ w = omega arith in (pos b, rw same (signed_last p q))
signed_end zero left {width = w} (signed_negative {byte = b} p q r) e f = let same : left ≡ w = omega arith in (pos b -ℤ pos (2 ^ 7), rw same (signed_negative p q r))
signed_end (suc last) left (signed_last p q) e f = absurd (omega arith)
signed_end (suc last) left (signed_negative p q r) e f = absurd (omega arith)
signed_end zero left (signed_more p q r s) e f = absurd (omega (arith, text_some (signed_text s)))
signed_end (suc last) left (signed_more p q r s) e f = signed_end last left s (omega arith) (omega arith)

-- one byte more, before those that were read
pub signed_step : (text : List ℕ) (width at : ℕ) (value : ℤ) (byte : ℕ) → 0 < at → at < length text → 7 * at < width → byte ≡ get_or text (at - 1) 0 → LebText text → byte < 256 → SpellsSigned (width - 7 * at) (drop at text) value → SpellsSigned (width - 7 * (at - 1)) (drop (at - 1) text) (pos (2 ^ 7) *ℤ value +ℤ pos (byte - 2 ^ 7))
signed_step text width at value byte p q r e t h s =
    let next : at - 1 + 1 ≡ at = omega arith in
    let bytes : drop (at - 1) text ≡ byte ∷ drop at text = drop_more text (at - 1) 0 (omega arith) ∙ ap (λ z. z ∷ drop (at - 1 + 1) text) (sym e) ∙ ap (λ z. byte ∷ drop z text) next in
    let high : 128 ≤ byte = omega (arith, text_before (at - 1) t (omega arith)) in
    let bits : width - 7 * at ≡ (width - 7 * (at - 1)) - 7 = omega arith in
    let tail : SpellsSigned ((width - 7 * (at - 1)) - 7) (drop at text) value = let P : ℕ → Type 0 = λ w. SpellsSigned w (drop at text) value in subst P bits s in
    let more : SpellsSigned (width - 7 * (at - 1)) (byte ∷ drop at text) (pos (2 ^ 7) *ℤ value +ℤ pos (byte - 2 ^ 7)) = signed_more high h (omega arith) tail in
    rw bytes more

-- what the reader computes is the number
pub read_sum : (z : ℤ) (low : ℕ) → FitsSigned w64 (z *ℤ pos 128) → low < 128 → to_z w64 (of_z w64 (z *ℤ pos 128)) +ℤ to_z w64 low ≡ pos (2 ^ 7) *ℤ z +ℤ pos low
read_sum z low f p = rw (to_z-of_z w64 (z *ℤ pos 128) f, to_z_pos w64 low (omega arith)) (omega (arith, ints))

-- a number of at most 64 bits fits
pub spelled_fits : {width : ℕ} {n : ℤ} (text : List ℕ) → SpellsSigned width text n → 0 < width → width ≤ 64 → FitsSigned w64 n
spelled_fits {width = w} {n = n} text s p q =
    let grows : 2 ^ (w - 1) ≤ 2 ^ 63 = pow_mono {j = 63} (omega arith) in
    within_fits (2 ^ (w - 1)) n grows (signed_range p s)

-- and so does its multiple, where there are seven bits more
pub times_fits : {left : ℕ} {n : ℤ} (text : List ℕ) → SpellsSigned left text n → 0 < left → left + 7 ≤ 64 → FitsSigned w64 (n *ℤ pos 128)
times_fits {left = w} {n = n} text s p q =
    let grows : 2 ^ (w - 1 + 7) ≤ 2 ^ 63 = pow_mono {j = 63} (omega arith) in
    let parts : 2 ^ (w - 1 + 7) ≡ 2 ^ (w - 1) * 128 = pow-add 2 (w - 1) 7 in
    let fits : 2 ^ (w - 1) * 128 ≤ 2 ^ 63 = omega arith in
    within_fits (2 ^ (w - 1) * 128) (n *ℤ pos 128) fits (within_times (2 ^ (w - 1)) n (signed_range p s))

-- a last byte below half of the numbers is itself
pub low_half : (bits least byte : ℕ) → 0 < bits → least ≡ min bits 7 → byte < 1 * 2 ^ (least - 1) % 256 → SpellsSigned bits (byte ∷ []) (to_z w64 byte)
low_half bits least byte p e h =
    let small : 2 ^ (least - 1) ≤ 2 ^ 6 = pow_mono {j = 6} (omega arith) in
    let within : 2 ^ (least - 1) ≤ 2 ^ (bits - 1) = pow_mono {j = bits - 1} (omega arith) in
    rw (to_z_pos w64 byte (omega arith)) (signed_last {width = bits} {byte = byte} (omega arith) (omega arith))

-- and one among the last half of them stands for a negative number
pub high_half : (bits least byte : ℕ) → 0 < bits → least ≡ min bits 7 → byte < 128 → 128 - 1 * 2 ^ (least - 1) % 256 ≤ byte → SpellsSigned bits (byte ∷ []) (to_z w64 (of_z w64 (to_z w64 byte -ℤ pos 128)))
high_half bits least byte p e q h =
    let small : 2 ^ (least - 1) ≤ 2 ^ 6 = pow_mono {j = 6} (omega arith) in
    let within : 2 ^ (least - 1) ≤ 2 ^ (bits - 1) = pow_mono {j = bits - 1} (omega arith) in
    let fits : FitsSigned w64 (pos byte -ℤ pos 128) = omega (arith, ints) in
    rw (to_z_pos w64 byte (omega arith), to_z-of_z w64 (pos byte -ℤ pos 128) fits) (signed_negative {width = bits} {byte = byte} (omega arith) q (omega arith))

-- what is spelled in 32 bits is kept by a cast to them
pub kept_32 : {n : ℤ} (text : List ℕ) → SpellsSigned 32 text n → to_z w32 (of_z w32 (to_z w64 (of_z w64 n))) ≡ n
kept_32 {n = n} text s =
    let range = signed_range (omega arith) s in
    let fits : FitsSigned w32 n = omega (arith, ints, range.least, range.most) in
    rw (to_z-of_z w64 n (spelled_fits text s (omega arith) (omega arith)), to_z-of_z w32 n fits) refl

pub fits_32 : {n : ℤ} (text : List ℕ) → SpellsSigned 32 text n → FitsSigned w32 (to_z w64 (of_z w64 n))
fits_32 {n = n} text s =
    let range = signed_range (omega arith) s in
    rw (to_z-of_z w64 n (spelled_fits text s (omega arith) (omega arith))) (omega (arith, ints, range.least, range.most))

pub kept_64 : {n : ℤ} (text : List ℕ) → SpellsSigned 64 text n → to_z w64 (of_z w64 n) ≡ n
kept_64 {n = n} text s = to_z-of_z w64 n (spelled_fits text s (omega arith) (omega arith))
