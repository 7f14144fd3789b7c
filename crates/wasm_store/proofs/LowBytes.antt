-- The first bytes of what `to_le_bytes` gives are the lowest bytes of the number.
use Rattle.std.proofs.Common.{◌≡◌, ℕ, zero, suc, ◌/◌, ◌%◌, ◌^◌, List, ◌∷◌, take, refl, sym, ap, ap₂, ◌∙◌}
use Rattle.std.specs.Int.{w64, to_le_bytes, bytes_low_first, byte_at}
use Rattle.std.proofs.Math.Nat.{div-one, div-div-eq-div-mul, pow-suc}
use Rattle.wasm_store.specs.Bytes.{le_bytes}

byte_is : (i n : ℕ) → byte_at i n ≡ n / 256 ^ i % 256
byte_is zero n = ap (λ (x : ℕ). x % 256) (sym (div-one n))
byte_is (suc i) n = refl

next_byte : (i n : ℕ) → n / 256 ^ i / 256 ≡ n / 256 ^ suc i
next_byte i n = div-div-eq-div-mul n (256 ^ i) 256 ∙ ap (λ (x : ℕ). n / x) (sym (pow-suc 256 i))

from_byte : (i k n : ℕ) → bytes_low_first i k n ≡ le_bytes k (n / 256 ^ i)
unfolding le_bytes
from_byte i zero n = refl
from_byte i (suc k) n =
    ap₂ (λ (b : ℕ) (bs : List ℕ). b ∷ bs) (byte_is i n)
    (from_byte (suc i) k n ∙ ap (le_bytes k) (sym (next_byte i n)))

lowest : (k n : ℕ) → bytes_low_first 0 k n ≡ le_bytes k n
lowest k n = from_byte 0 k n ∙ ap (le_bytes k) (div-one n)

-- of the 8 bytes, for each width
pub lowest_1 : (bytes : List ℕ) (n : ℕ) → bytes ≡ to_le_bytes w64 n → take 1 bytes ≡ le_bytes 1 n
lowest_1 bytes n e = ap (take 1) e ∙ lowest 1 n

pub lowest_2 : (bytes : List ℕ) (n : ℕ) → bytes ≡ to_le_bytes w64 n → take 2 bytes ≡ le_bytes 2 n
lowest_2 bytes n e = ap (take 2) e ∙ lowest 2 n

pub lowest_4 : (bytes : List ℕ) (n : ℕ) → bytes ≡ to_le_bytes w64 n → take 4 bytes ≡ le_bytes 4 n
lowest_4 bytes n e = ap (take 4) e ∙ lowest 4 n

pub lowest_8 : (bytes : List ℕ) (n : ℕ) → bytes ≡ to_le_bytes w64 n → bytes ≡ le_bytes 8 n
lowest_8 bytes n e = e ∙ lowest 8 n
