-- The numbers of a command line.
use Rattle.std.specs.Prelude.{◌≡◌, ℕ, List}
use Rattle.std.specs.Str.Parse.{IsNumeral, digits_value}

-- One digit or more, read as decimal; leading zeros are allowed.
pub record IsNumber (text : List ℕ) (n : ℕ) : Type 0 where
  pub digits : IsNumeral 10 text
  pub value : digits_value 10 text ≡ n
