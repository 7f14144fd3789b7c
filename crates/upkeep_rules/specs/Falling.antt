-- How many piles a step of upkeep may make.
use Rattle.std.specs.Prelude.{ℕ, ◌*◌, ◌&&◌, ◌||◌, nat_lt, List}
use Rattle.game_tables.specs.Kinds.{is_building, is_creep}
use Rattle.std.specs.List.{count_by}
use Rattle.room_table.specs.declared.object.Object.{Object}
use Rattle.world_rules.specs.Upkeep.{decays}

-- how many containers and roads hold energy, which falls when they are gone
abbrev pub may_fall : List Object → ℕ
may_fall objects = count_by (λ object. decays object.kind && nat_lt 0 object.energy) objects

-- how many creeps and buildings there are
abbrev pub many_fighters : List Object → ℕ
many_fighters objects = count_by (λ object. is_creep object.kind || is_building object.kind) objects

-- how many piles the steps up to the gain of spawns may make: a creep may leave a pile when its load is too
-- large, and another when it dies
abbrev pub may_leave : List Object → ℕ
may_leave objects = 2 * many_fighters objects
