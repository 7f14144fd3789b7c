-- Which owners the objects of a room may have, by their remainders by 64. For private clauses.
use Rattle.std.specs.Prelude.{◌≡◌, ℕ, ◌%◌, Bool, true, List, Some, slice_get}
use Rattle.std.specs.List.{AllByRecursion}
use Rattle.room_table.specs.declared.object.Object.{Object}

-- By these remainders somebody may own an object.
abbrev pub MayOwn : List Bool → ℕ → Type 0
MayOwn remainders owner = slice_get remainders (owner % 64) ≡ Some true

-- The remainders of all owners of these objects are among them.
abbrev pub Covers : List Bool → List Object → Type 0
Covers remainders objects = AllByRecursion (λ object. MayOwn remainders object.owner) objects
