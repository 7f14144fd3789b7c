-- Lists of values in front of other bytes: the steps in which contents are read.
use Rattle.std.specs.Prelude.{◌≡◌, ℕ, List, ◌++◌, length}
use Rattle.std.specs.List.{AllByRecursion, flat_map}

-- so many values in their order, each with its form
pub record AreListed {V : Type 0} (InOrder : List V → Type 0) (HasForm : V → Type 0) (count : ℕ)
    (values : List V) : Type 0 where
  pub order : InOrder values
  pub forms : AllByRecursion HasForm values
  pub counted : length values ≡ count

-- their bytes, one behind the other, in front of the rest
abbrev pub list_row : {V : Type 0} → (V → List ℕ) → List V → List ℕ → List ℕ
list_row bytes values rest = flat_map bytes values ++ rest
