-- Objects of which some have moved no more.
use Rattle.std.specs.Prelude.{ℕ, zero, suc, List, [], ◌∷◌}
use Rattle.room_table.specs.declared.object.Object.{Object}
use Rattle.world_rules.specs.Crossings.{still}

-- the objects with the one at a place made one that has not moved
abbrev pub rested_at : ℕ → List Object → List Object
rested_at place [] = []
rested_at zero (object ∷ objects) = still object ∷ objects
rested_at (suc place) (object ∷ objects) = object ∷ rested_at place objects

-- the objects with the first so many made ones that have not moved
abbrev pub rested_to : ℕ → List Object → List Object
rested_to count [] = []
rested_to zero (object ∷ objects) = object ∷ objects
rested_to (suc count) (object ∷ objects) = still object ∷ rested_to count objects
