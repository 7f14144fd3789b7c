-- Numbers in a module's text: WebAssembly Core 1.0, chapter 6.3.1.
use Rattle.std.specs.Prelude.{◌≡◌, ℕ, ◌+◌, ◌-◌, ◌*◌, ◌^◌, ◌<◌, ◌≤◌, ℤ, pos, ◌-ℤ◌, List, [], ◌∷◌, Some, nat_lt}
use Rattle.std.specs.Prelude.{if◌then◌else◌}
use Rattle.wat_grammar.specs.Tokens.{digit}

-- Behind the digits of one number the text goes on with further ones, each alone or behind a `_`, and they
-- are the digits of the other number.
pub data GoesOn : ℕ → ℕ → List ℕ → ℕ → Type 0 where
  digits_end : {base number : ℕ} → GoesOn base number [] number
  digits_next : {base number byte value total : ℕ} {text : List ℕ} → digit base byte ≡ Some value
      → GoesOn base (base * number + value) text total → GoesOn base number (byte ∷ text) total
  digits_joined : {base number byte value total : ℕ} {text : List ℕ} → digit base byte ≡ Some value
      → GoesOn base (base * number + value) text total → GoesOn base number (0x5f ∷ byte ∷ text) total

-- Digits of a base, one at least, with single `_` between them.
pub data SpellsDigits : ℕ → List ℕ → ℕ → Type 0 where
  spells_digits : {base byte value number : ℕ} {text : List ℕ} → digit base byte ≡ Some value
      → GoesOn base value text number → SpellsDigits base (byte ∷ text) number

-- A number: decimal digits, or `0x` and hexadecimal ones.
pub data SpellsNatural : List ℕ → ℕ → Type 0 where
  natural_decimal : {text : List ℕ} {number : ℕ} → SpellsDigits 10 text number → SpellsNatural text number
  natural_hexadecimal : {text : List ℕ} {number : ℕ} → SpellsDigits 16 text number
      → SpellsNatural (0x30 ∷ 0x78 ∷ text) number

-- An index: a number of 32 bits.
abbrev pub SpellsIndex : List ℕ → ℕ → Type 0
SpellsIndex text number = SpellsNatural text number × (number < 2 ^ 32)

-- the number that stands in so many bits for a natural number below 2 ^ bits
abbrev pub in_bits : ℕ → ℕ → ℤ
in_bits bits number =
    if nat_lt number (2 ^ (bits - 1)) then pos number else pos number -ℤ pos (2 ^ bits)

-- A constant of so many bits: a number below 2 ^ bits, with a `+` or without, or one of at most
-- 2 ^ (bits - 1) behind a `-`.
pub data SpellsConstant : ℕ → List ℕ → ℤ → Type 0 where
  constant_plain : {bits number : ℕ} {text : List ℕ} → SpellsNatural text number → number < 2 ^ bits
      → SpellsConstant bits text (in_bits bits number)
  constant_plus : {bits number : ℕ} {text : List ℕ} → SpellsNatural text number → number < 2 ^ bits
      → SpellsConstant bits (0x2b ∷ text) (in_bits bits number)
  constant_minus : {bits number : ℕ} {text : List ℕ} → SpellsNatural text number
      → number ≤ 2 ^ (bits - 1) → SpellsConstant bits (0x2d ∷ text) (pos 0 -ℤ pos number)
