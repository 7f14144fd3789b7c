-- Where objects stand, as a roster lists it.
use Rattle.std.specs.Prelude.{ℕ}
use Rattle.room_table.specs.declared.standing.Standing.{Standing}
use Rattle.world_rules.specs.World.{Placed, shown}

abbrev pub id_in : Standing → ℕ
id_in standing = standing.object.now.id

-- the entry of an object in the world
abbrev pub shown_entry : Standing → ℕ × Placed
shown_entry standing = (id_in standing, shown standing)
