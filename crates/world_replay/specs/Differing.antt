-- Where two lists of bytes differ.
use Rattle.std.specs.Prelude.{◌≡◌, ◌≢◌, ℕ, List, take, slice_get, Option}

-- They differ first at the place, where one has this byte and the other that one, or none.
pub record DifferAt (at : ℕ) (kept given : Option ℕ) (one other : List ℕ) : Type 0 where
  pub same : take at one ≡ take at other
  pub kept_is : slice_get one at ≡ kept
  pub given_is : slice_get other at ≡ given
  pub differ : kept ≢ given
