-- Shortest spellings of signed numbers, written a byte at a time.
use Rattle.std.proofs.Common.{◌≡◌, ℕ, ◌+◌, ◌-◌, ◌*◌, ◌%◌, ◌^◌, ◌<◌, ◌≤◌, ◌⊎◌, inl, inr, ℤ, pos, negsuc, ◌+ℤ◌, ◌-ℤ◌, ◌*ℤ◌, ◌<ℤ◌, ◌≤ℤ◌, FitsSigned, to_z, of_z, w64, bit_and, List, [], ◌∷◌, length, refl, sym, ap, ◌∙◌, subst, arith}
use Rattle.std.proofs.lemmas.Nat.{and_mask}
use Rattle.std.proofs.lemmas.Int.{ints, to_z_pos}
use Rattle.std.proofs.Math.Pow.{pow_mono}
use Rattle.std.specs.Int.{int_shr}
use Rattle.std.specs.Int.RustNames.{unsigned_abs}
use Rattle.byte_fields.specs.Front.{SpellsShortest}
use Rattle.byte_fields.specs.Leb.{SpellsSigned, signed_last, signed_negative, signed_more}
use Rattle.byte_fields.proofs.Texts.{text_some}
use Rattle.byte_fields.proofs.Signed.{signed_text, IsWithin, same_left, signed_same}

-- one byte cannot spell it
abbrev pub IsOutside : ℤ → Type 0
IsOutside n = (n <ℤ negsuc 63) ⊎ (pos 64 ≤ℤ n)

pub outside_low : (n : ℤ) (byte : ℕ) → IsOutside n → n ≡ pos byte → 64 ≤ byte
outside_low n byte (inl h) e = omega (arith, ints, h, e)
outside_low n byte (inr h) e = omega (arith, ints, h, e)

pub outside_high : (n : ℤ) (byte : ℕ) → IsOutside n → n ≡ pos byte -ℤ pos (2 ^ 7) → 64 ≤ byte → byte < 128 → ⊥
outside_high n byte (inl h) e p q = omega (arith, ints, h, e)
outside_high n byte (inr h) e p q = omega (arith, ints, h, e)

-- it takes more than seven bits
pub outside_wide : (width : ℕ) (n : ℤ) → IsOutside n → IsWithin (2 ^ (width - 1)) n → 7 < width
outside_wide width n (inl h) w =
    let f : width ≤ 7 → 2 ^ (width - 1) ≤ 2 ^ 6 = λ p. pow_mono {j = 6} (omega arith) in
    let most : 64 < 2 ^ (width - 1) = omega (arith, ints, h, w.least, w.most) in
    grind (arith, f, most)
outside_wide width n (inr h) w =
    let f : width ≤ 7 → 2 ^ (width - 1) ≤ 2 ^ 6 = λ p. pow_mono {j = 6} (omega arith) in
    let most : 64 < 2 ^ (width - 1) = omega (arith, ints, h, w.least, w.most) in
    grind (arith, f, most)

-- the lowest seven bits of a number, and what is left
pub split_low : (z : ℤ) (bits : ℕ) → FitsSigned w64 z → bits ≡ of_z w64 z → z ≡ pos (2 ^ 7) *ℤ int_shr z 7 +ℤ pos (bits % 128)
split_low (pos n) bits f e = omega (arith, ints, f, e)
split_low (negsuc n) bits f e = omega (arith, ints, f, e)

pub low_is : (bits : ℕ) → unsigned_abs (to_z w64 (bit_and bits 127)) ≡ bits % 128
low_is bits =
    let low : bit_and bits 127 ≡ bits % 128 = and_mask bits 7 in
    let small : bits % 128 < 128 = omega arith in
    rw (low, to_z_pos w64 (bits % 128) (omega arith)) refl

pub within_less : (half : ℕ) (z next : ℤ) (low : ℕ) → IsWithin (half * 128) z → z ≡ pos (2 ^ 7) *ℤ next +ℤ pos low → low < 128 → IsWithin half next
within_less half z (pos n) low w e h = record { least = omega (arith, ints, w.least, w.most, e); most = omega (arith, ints, w.least, w.most, e) }
within_less half z (negsuc n) low w e h = record { least = omega (arith, ints, w.least, w.most, e); most = omega (arith, ints, w.least, w.most, e) }

pub signed_no_shorter : {width : ℕ} {n : ℤ} {other : List ℕ} (high : ℤ) (low most : ℕ) → SpellsSigned width other n → IsOutside n → n ≡ pos (2 ^ 7) *ℤ high +ℤ pos low → low < 128 → ((bytes : List ℕ) → SpellsSigned (width - 7) bytes high → most ≤ length bytes) → most + 1 ≤ length other
signed_no_shorter high low most (signed_last {byte = b} p q) o e l f = absurd (omega (arith, outside_low (pos b) b o refl))
signed_no_shorter high low most (signed_negative {byte = b} p q r) o e l f = absurd (outside_high _ b o refl p q)
signed_no_shorter {width = w} high low most (signed_more {byte = b} {high = other} {bytes = bs} p q r s) o e l f =
    let same : other ≡ high = (same_left other high (b - 2 ^ 7) low e (omega arith) l).0 in
    let P : ℤ → Type 0 = λ z. SpellsSigned (w - 7) bs z in
    let rest = f bs (subst P same s) in
    omega arith

pub signed_shortest_more : (width : ℕ) (n : ℤ) (low : ℕ) (high : ℤ) (bytes : List ℕ) → low < 128 → 7 < width → IsOutside n → n ≡ pos (2 ^ 7) *ℤ high +ℤ pos low → SpellsShortest (SpellsSigned (width - 7)) bytes high → SpellsShortest (SpellsSigned width) ((low + 128) ∷ bytes) n
signed_shortest_more width n low high bytes p r o e s =
    let whole : low + 128 - 2 ^ 7 ≡ low = omega arith in
    let number : pos (2 ^ 7) *ℤ high +ℤ pos (low + 128 - 2 ^ 7) ≡ n = ap (λ z. pos (2 ^ 7) *ℤ high +ℤ pos z) whole ∙ sym e in
    let spelled : SpellsSigned width ((low + 128) ∷ bytes) (pos (2 ^ 7) *ℤ high +ℤ pos (low + 128 - 2 ^ 7)) = signed_more (omega arith) (omega arith) r s.0 in
    let least : (other : List ℕ) → SpellsSigned width other n → length bytes + 1 ≤ length other = λ other t. signed_no_shorter high low (length bytes) t o e p s.1 in
    let P : ℤ → Type 0 = λ z. SpellsSigned width ((low + 128) ∷ bytes) z in
    (subst P number spelled, λ other t. omega (arith, least other t))

-- a number of seven bits is its own shortest spelling
pub signed_spelled_last : (width : ℕ) (z : ℤ) (bits : ℕ) → bits ≡ of_z w64 z → negsuc 63 ≤ℤ z → z <ℤ pos 64 → IsWithin (2 ^ (width - 1)) z → SpellsSigned width (bits % 128 ∷ []) z
signed_spelled_last width (pos n) bits e p q w =
    let byte : bits % 128 ≡ n = omega (arith, ints, p, q) in
    rw byte (signed_last {width = width} {byte = n} (omega (arith, ints, q)) (omega (arith, ints, w.most)))
signed_spelled_last width (negsuc n) bits e p q w =
    let small : n < 64 = omega (arith, ints, p) in
    let byte : bits % 128 ≡ 127 - n = omega arith in
    let number : pos (127 - n) -ℤ pos (2 ^ 7) ≡ negsuc n = omega (arith, ints) in
    let spelled : SpellsSigned width ((127 - n) ∷ []) (pos (127 - n) -ℤ pos (2 ^ 7)) = signed_negative (omega arith) (omega arith) (omega (arith, ints, w.least)) in
    let P : ℤ → Type 0 = λ z. SpellsSigned width ((127 - n) ∷ []) z in
    rw byte (subst P number spelled)

pub signed_shortest_last : (width : ℕ) (z : ℤ) (bits : ℕ) → bits ≡ of_z w64 z → negsuc 63 ≤ℤ z → z <ℤ pos 64 → IsWithin (2 ^ (width - 1)) z → SpellsShortest (SpellsSigned width) (bits % 128 ∷ []) z
signed_shortest_last width z bits e p q w = (signed_spelled_last width z bits e p q w, λ other s. omega (arith, text_some (signed_text s)))

-- there is one shortest spelling
pub signed_shortest_one : (width : ℕ) (n : ℤ) (a b : List ℕ) → SpellsShortest (SpellsSigned width) a n → SpellsShortest (SpellsSigned width) b n → a ≡ b
signed_shortest_one width n a b s t =
    let less = s.1 b t.0 in
    let more = t.1 a s.0 in
    signed_same s.0 t.0 refl (omega arith)
