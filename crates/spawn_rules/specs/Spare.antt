-- The memory that the making of creeps may need.
use Rattle.std.specs.Prelude.{ℕ, ◌==◌, Bool, List, length}
use Rattle.std.specs.List.{filter}
use Rattle.game_tables.specs.Numbers.{kind_number}
use Rattle.game_tables.specs.declared.kind.Kind.TheVariants.{Spawn}
use Rattle.room_table.specs.declared.object.Object.{Object}

abbrev pub is_spawn : Object → Bool
is_spawn object = kind_number object.kind == kind_number Spawn

-- Each spawn may make a creep.
abbrev pub may_hatch : List Object → ℕ
may_hatch objects = length (filter is_spawn objects)
