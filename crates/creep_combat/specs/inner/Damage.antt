-- What a mass attack does to the objects of a table. For private clauses.
use Rattle.std.specs.Prelude.{ℕ, ◌==◌, Bool, if◌then◌else◌}
use Rattle.room_table.specs.declared.object.Object.{Object}
use Rattle.world_rules.specs.Fights.{is_struck, mass_strength, range_between, shot_strength}

-- what a mass attack of a creep does to an object
abbrev pub mass_damage : Object → Object → ℕ
mass_damage creep object =
    if is_struck creep object then shot_strength (mass_strength (range_between creep object)) creep else 0

-- what it does to those for which this holds
abbrev pub damage_where : (Object → Bool) → Object → Object → ℕ
damage_where test creep object = if test object then mass_damage creep object else 0

-- The object is in this row.
abbrev pub is_in_row : ℕ → Object → Bool
is_in_row y object = object.y == y
