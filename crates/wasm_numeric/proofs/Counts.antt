-- The counts of zeros and ones in the list of a number's bits are those that the machine's instructions give.
use Rattle.std.proofs.Common.{◌≡◌, ℕ, zero, suc, ◌+◌, ◌*◌, ◌/◌, ◌%◌, ◌^◌, ◌<◌, ◌≤◌, inl, inr, cond, List, [], ◌∷◌, ◌++◌, refl, ap, arith}
use Rattle.std.specs.List.{prefix_len, suffix_len, count_by}
use Rattle.std.specs.Int.Count.{count_leading_zeros, count_trailing_zeros, ones, under, leading_unique, leading_length, ones_step}
use Rattle.std.proofs.lemmas.Nat.Bits.{bit_at_above, bit_at-suc, bit_at_lowest}
use Rattle.std.proofs.lemmas.Nat.{div_below, le-div, pow_pos, ones_le_self}
use Rattle.std.proofs.lemmas.Bool.{cases_lt}
use Rattle.std.proofs.lemmas.List.{reverse-append}
use Rattle.std.proofs.lemmas.List.Sums.{sum_by-append}
use Rattle.std.proofs.Math.Nat.{pow-suc}
use Rattle.wasm_numeric.specs.Integers.{ibits, iclz, ictz, ipopcnt, is_zero, is_one}

-- the highest of k + 1 bits
top_zero : (k a : ℕ) → a < 2 ^ k → a / 2 ^ k % 2 ≡ 0
top_zero k a h = bit_at_above a k k h (omega arith)

top_one : (k a : ℕ) → a < 2 ^ suc k → 2 ^ k ≤ a → a / 2 ^ k % 2 ≡ 1
top_one k a h l =
    let positive : 0 < 2 ^ k = pow_pos k in
    let twice : 2 ^ suc k ≡ 2 ^ k * 2 = pow-suc 2 k in
    let within : a < 2 * 2 ^ k = omega (arith, twice) in
    let below : a / 2 ^ k < 2 = div_below a (2 ^ k) 2 positive within in
    let one : 1 * 2 ^ k ≤ a = omega arith in
    let above : 1 ≤ a / 2 ^ k = le-div 1 a (2 ^ k) positive one in
    let is_one : a / 2 ^ k ≡ 1 = omega arith in
    rw is_one refl

zeros_more : (k a : ℕ) → a < 2 ^ k → suc (count_leading_zeros k a) ≡ count_leading_zeros (suc k) a
zeros_more k a h =
    let t = leading_length k a h in
    leading_unique (suc k) a (suc (count_leading_zeros k a)) t.0 (omega (arith, t.1)) t.2 t.3

zeros_none : (k a : ℕ) → a < 2 ^ suc k → 2 ^ k ≤ a → 0 ≡ count_leading_zeros (suc k) a
zeros_none k a h l =
    let twice : 2 ^ suc k ≡ 2 ^ k * 2 = pow-suc 2 k in
    leading_unique (suc k) a 0 (suc k) (omega arith) h (omega (arith, twice))

leading_bits : (k a : ℕ) → a < 2 ^ k → prefix_len is_zero (ibits k a) ≡ count_leading_zeros k a
unfolding ibits count_leading_zeros
leading_bits zero a h = refl
leading_bits (suc k) a h =
    elim (cases_lt a (2 ^ k)) [
      | inl l ↦ rw (top_zero k a l) (omega (arith, leading_bits k a l, zeros_more k a l))
      | inr l ↦ rw (top_one k a h l) (zeros_none k a h l)
    ]

-- the lowest bit, and the bits of the half
bits_low : (k a : ℕ) → ibits (suc k) a ≡ ibits k (a / 2) ++ (a % 2) ∷ []
unfolding ibits
bits_low zero a = ap (λ (b : ℕ). b ∷ []) (bit_at_lowest a)
bits_low (suc k) a = rw (bit_at-suc a k) (ap (λ (bs : List ℕ). a / 2 / 2 ^ k % 2 ∷ bs) (bits_low k a))

not_zero : (b x y : ℕ) → cond (is_zero (suc b)) x y ≡ y
not_zero b x y = grind arith

under_bit : (b t u : ℕ) → b < 2 → t ≡ u → cond (is_zero b) (1 + t) 0 ≡ under b u
under_bit zero t u h e = omega arith
under_bit (suc b) t u h e = not_zero b (1 + t) 0

trailing_bits : (k a : ℕ) → suffix_len is_zero (ibits k a) ≡ count_trailing_zeros k a
unfolding ibits count_trailing_zeros
trailing_bits zero a = refl
trailing_bits (suc k) a =
    let low : a % 2 < 2 = omega arith in
    rw (bits_low k a, reverse-append (ibits k (a / 2)) ((a % 2) ∷ []))
    (under_bit (a % 2) _ _ low (trailing_bits k (a / 2)))

one_bit : (b : ℕ) → b < 2 → cond (is_one b) 1 0 ≡ b
one_bit b h = grind arith

set_bits : (k a : ℕ) → a < 2 ^ k → count_by is_one (ibits k a) ≡ ones a
unfolding ibits
set_bits zero a h =
    let none : a ≡ 0 = omega arith in
    rw none (omega (arith, ones_le_self 0))
set_bits (suc k) a h =
    let twice : 2 ^ suc k ≡ 2 ^ k * 2 = pow-suc 2 k in
    let positive : 0 < 2 ^ k = pow_pos k in
    let within : a < 2 ^ k * 2 = omega (arith, twice) in
    let low : a % 2 < 2 = omega arith in
    let half : a / 2 < 2 ^ k = div_below a 2 (2 ^ k) (omega arith) within in
    rw (bits_low k a, sum_by-append (λ (b : ℕ). cond (is_one b) 1 0) (ibits k (a / 2)) ((a % 2) ∷ []))
    (omega (arith, set_bits k (a / 2) half, one_bit (a % 2) low, ones_step a))

-- for each width
pub iclz_is : (N a : ℕ) → a < 2 ^ N → iclz N a ≡ count_leading_zeros N a
unfolding iclz
iclz_is N a h = leading_bits N a h

pub ictz_is : (N a : ℕ) → ictz N a ≡ count_trailing_zeros N a
unfolding ictz
ictz_is N a = trailing_bits N a

pub ipopcnt_is : (N a : ℕ) → a < 2 ^ N → ipopcnt N a ≡ ones a
unfolding ipopcnt
ipopcnt_is N a h = set_bits N a h
