-- The sign of a constant, and the number behind it.
use Rattle.std.specs.Prelude.{◌≡◌, ℕ, ◌-◌, ◌^◌, ◌<◌, ◌≤◌, ℤ, pos, ◌-ℤ◌, List, ◌∷◌, drop}
use Rattle.wat_grammar.specs.Numbers.{SpellsNatural, in_bits}
use Rattle.wat_tokens.specs.declared.constants.Sign.{Sign}
use Rattle.wat_tokens.specs.declared.constants.Sign.TheVariants.{None, Plus, Minus}

-- The word begins with this sign.
abbrev pub IsSigned : List ℕ → Sign → Type 0
IsSigned word None = ((text : List ℕ) → word ≡ 0x2b ∷ text → ⊥) × ((text : List ℕ) → word ≡ 0x2d ∷ text → ⊥)
IsSigned word Plus = word ≡ 0x2b ∷ drop 1 word
IsSigned word Minus = word ≡ 0x2d ∷ drop 1 word

-- The number is spelled behind the sign.
abbrev pub HasNumber : List ℕ → Sign → ℕ → Type 0
HasNumber word None number = SpellsNatural word number
HasNumber word Plus number = SpellsNatural (drop 1 word) number
HasNumber word Minus number = SpellsNatural (drop 1 word) number

-- The number with the sign is this constant of so many bits.
abbrev pub IsConstant : ℕ → Sign → ℕ → ℤ → Type 0
IsConstant bits None number constant = (number < 2 ^ bits) × (constant ≡ in_bits bits number)
IsConstant bits Plus number constant = (number < 2 ^ bits) × (constant ≡ in_bits bits number)
IsConstant bits Minus number constant = (number ≤ 2 ^ (bits - 1)) × (constant ≡ pos 0 -ℤ pos number)
