-- Numbers as the code holds them.
use Rattle.std.specs.Prelude.{◌≡◌, ℕ, ◌^◌, ◌≤◌}
use Rattle.wat_tokens.specs.declared.numbers.Natural.{Natural}
use Rattle.wat_tokens.specs.declared.numbers.Natural.TheVariants.{Number, TooLarge}

abbrev pub IsNatural : Natural → ℕ → Type 0
IsNatural (Number held) number = number ≡ held
IsNatural TooLarge number = 2 ^ 64 ≤ number
