-- LEB128 numbers, as WebAssembly Core 1.0 has them: chapter 5.2.2, "Integers".
use Rattle.std.specs.Prelude.{ℕ, ◌+◌, ◌-◌, ◌*◌, ◌^◌, ◌<◌, ◌≤◌, ℤ, pos, ◌+ℤ◌, ◌-ℤ◌, ◌*ℤ◌, List, [], ◌∷◌}

-- The bytes spell the unsigned number of so many bits. The standard's grammar of uN:
--   n : byte                 is  n                        if n < 2^7 and n < 2^N
--   n : byte, m : u(N - 7)   is  2^7 * m + (n - 2^7)      if n ≥ 2^7 and N > 7
pub data SpellsUnsigned : ℕ → List ℕ → ℕ → Type 0 where
  unsigned_last : {width byte : ℕ}
      → byte < 2 ^ 7
      → byte < 2 ^ width
      → SpellsUnsigned width (byte ∷ []) byte
  unsigned_more : {width byte high : ℕ} {bytes : List ℕ}
      → 2 ^ 7 ≤ byte
      → byte < 2 ^ 8
      → 7 < width
      → SpellsUnsigned (width - 7) bytes high
      → SpellsUnsigned width (byte ∷ bytes) (2 ^ 7 * high + (byte - 2 ^ 7))

-- The bytes spell the signed number of so many bits. The standard's grammar of sN:
--   n : byte                 is  n                        if n < 2^6 and n < 2^(N - 1)
--   n : byte                 is  n - 2^7                  if 2^6 ≤ n < 2^7 and n ≥ 2^7 - 2^(N - 1)
--   n : byte, m : s(N - 7)   is  2^7 * m + (n - 2^7)      if n ≥ 2^7 and N > 7
pub data SpellsSigned : ℕ → List ℕ → ℤ → Type 0 where
  signed_last : {width byte : ℕ}
      → byte < 2 ^ 6
      → byte < 2 ^ (width - 1)
      → SpellsSigned width (byte ∷ []) (pos byte)
  signed_negative : {width byte : ℕ}
      → 2 ^ 6 ≤ byte
      → byte < 2 ^ 7
      → 2 ^ 7 - 2 ^ (width - 1) ≤ byte
      → SpellsSigned width (byte ∷ []) (pos byte -ℤ pos (2 ^ 7))
  signed_more : {width byte : ℕ} {high : ℤ} {bytes : List ℕ}
      → 2 ^ 7 ≤ byte
      → byte < 2 ^ 8
      → 7 < width
      → SpellsSigned (width - 7) bytes high
      → SpellsSigned width (byte ∷ bytes) (pos (2 ^ 7) *ℤ high +ℤ pos (byte - 2 ^ 7))
