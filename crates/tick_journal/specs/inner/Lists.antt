-- Lists of values as bytes: the steps in which contents are written.
use Rattle.std.specs.Prelude.{ℕ, ◌<◌, ◌^◌, List, ◌++◌, length}
use Rattle.std.specs.List.{AllByRecursion, flat_map}
use Rattle.byteorder.specs.Endian.{little_bytes}

-- the bytes of values, one behind the other, behind their number
abbrev pub listed : {V : Type 0} → (V → List ℕ) → List V → List ℕ
listed bytes values = little_bytes 4 (length values) ++ flat_map bytes values

-- The number of the values fits, and each of them does.
abbrev pub ListFits : {V : Type 0} → (V → Type 0) → List V → Type 0
ListFits Fits values = (length values < 2 ^ 32) × AllByRecursion Fits values
