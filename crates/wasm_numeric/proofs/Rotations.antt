-- A rotation as the machine makes it, by `|` of two shifts, is the sum of the two.
use Rattle.std.proofs.Common.{◌≡◌, ℕ, zero, suc, ◌+◌, ◌-◌, ◌*◌, ◌/◌, ◌%◌, ◌^◌, ◌<◌, sym, ◌∙◌, ap, arith}
use Rattle.std.specs.Int.{rotate_left, rotate_right, Width}
use mir.Val.{bits}
use Rattle.std.specs.Int.Bits.{bit_or, or_self, or_comm}
use Rattle.std.proofs.lemmas.Nat.{pow-add, pow_pos, shr_split, shl_below, mod-mul-add, or_shifted, shr_below, mod_below}
use Rattle.std.proofs.Math.Nat.{mod-lt, mod-eq_of_lt, mod_self, mod-mod, mul-mod_left, div-one, div-eq_of_lt, mul-one, add-zero, sub-zero, add_comm}
use Rattle.wasm_numeric.specs.Integers.{irotl, irotr}

-- a shift to the left by k keeps the low m of m + k bits
kept_low : (n m k : ℕ) → (n * 2 ^ k) % 2 ^ (m + k) ≡ (n % 2 ^ m) * 2 ^ k
kept_low n m k =
    let whole : n / 2 ^ m * 2 ^ m + n % 2 ^ m ≡ n = shr_split n m in
    let shifted : (n / 2 ^ m * 2 ^ m + n % 2 ^ m) * 2 ^ k ≡ n * 2 ^ k = ap (λ (x : ℕ). x * 2 ^ k) whole in
    let power : 2 ^ (m + k) ≡ 2 ^ m * 2 ^ k = pow-add 2 m k in
    let split : n / 2 ^ m * 2 ^ (m + k) + n % 2 ^ m * 2 ^ k ≡ n * 2 ^ k = rw power (omega (arith, shifted)) in
    let low : n % 2 ^ m < 2 ^ m = mod_below n (2 ^ m) (pow_pos m) in
    ap (λ (x : ℕ). x % 2 ^ (m + k)) (sym split)
    ∙ mod-mul-add (n / 2 ^ m) (2 ^ (m + k)) (n % 2 ^ m * 2 ^ k) (shl_below (n % 2 ^ m) m k low)

-- of N bits, the low m move up by k and the high k come in below
joined : (N n m k : ℕ) → N ≡ m + k → n < 2 ^ N → bit_or ((n * 2 ^ k) % 2 ^ N) (n / 2 ^ m) ≡ (n * 2 ^ k) % 2 ^ N + n / 2 ^ m
joined N n m k e h =
    let turned : N ≡ k + m = omega arith in
    let within : n < 2 ^ (k + m) = rw turned at h in
    rw (e, kept_low n m k) (or_shifted (n % 2 ^ m) k (n / 2 ^ m) (shr_below n k m within))

-- by k places of N, where a rotation by 0 changes nothing
turned_left : (N n k : ℕ) → k < N → n < 2 ^ N
    → bit_or ((n * 2 ^ k) % 2 ^ N) (n / 2 ^ ((N - k) % N)) ≡ (n * 2 ^ k) % 2 ^ N + n / 2 ^ (N - k)
turned_left N n zero p h =
    let whole : n * 1 % 2 ^ N ≡ n = ap (λ (x : ℕ). x % 2 ^ N) (mul-one n) ∙ mod-eq_of_lt h in
    let none : (N - 0) % N ≡ 0 = ap (λ (x : ℕ). x % N) (sub-zero N) ∙ mod_self N in
    let nothing : n / 2 ^ (N - 0) ≡ 0 = ap (λ (x : ℕ). n / 2 ^ x) (sub-zero N) ∙ div-eq_of_lt h in
    rw (whole, none, nothing, div-one n) (or_self n ∙ sym (add-zero n))
turned_left N n (suc k) p h =
    let less : N - suc k < N = omega arith in
    rw (mod-eq_of_lt less) (joined N n (N - suc k) (suc k) (omega arith) h)

turned_right : (N n k : ℕ) → k < N → n < 2 ^ N
    → bit_or (n / 2 ^ k) ((n * 2 ^ ((N - k) % N)) % 2 ^ N) ≡ n / 2 ^ k + (n * 2 ^ (N - k)) % 2 ^ N
turned_right N n zero p h =
    let whole : n * 1 % 2 ^ N ≡ n = ap (λ (x : ℕ). x % 2 ^ N) (mul-one n) ∙ mod-eq_of_lt h in
    let none : (N - 0) % N ≡ 0 = ap (λ (x : ℕ). x % N) (sub-zero N) ∙ mod_self N in
    let nothing : n * 2 ^ (N - 0) % 2 ^ N ≡ 0 = ap (λ (x : ℕ). n * 2 ^ x % 2 ^ N) (sub-zero N) ∙ mul-mod_left n (2 ^ N) in
    rw (none, whole, nothing, div-one n) (or_self n ∙ sym (add-zero n))
turned_right N n (suc k) p h =
    let less : N - suc k < N = omega arith in
    rw (mod-eq_of_lt less, or_comm (n / 2 ^ suc k) (n * 2 ^ (N - suc k) % 2 ^ N))
    (joined N n (suc k) (N - suc k) (omega arith) h ∙ add_comm (n * 2 ^ (N - suc k) % 2 ^ N) (n / 2 ^ suc k))

-- for each width
pub rotate_left_is : (w : Width) (a b : ℕ) → 0 < bits w → a < 2 ^ bits w → rotate_left w a (b % bits w) ≡ irotl (bits w) a b
rotate_left_is w a b p h = rw (mod-mod b (bits w)) (turned_left (bits w) a (b % bits w) (mod-lt b p) h)

pub rotate_right_is : (w : Width) (a b : ℕ) → 0 < bits w → a < 2 ^ bits w → rotate_right w a (b % bits w) ≡ irotr (bits w) a b
rotate_right_is w a b p h = rw (mod-mod b (bits w)) (turned_right (bits w) a (b % bits w) (mod-lt b p) h)
