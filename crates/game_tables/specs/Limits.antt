-- How much there may be in a world.
use Rattle.std.specs.Prelude.{ℕ, ◌^◌}

abbrev pub most_rooms : ℕ
most_rooms = 400

abbrev pub most_objects : ℕ
most_objects = 20000

abbrev pub most_players : ℕ
most_players = 64

-- sites of one player
abbrev pub most_sites : ℕ
most_sites = 100

-- bytes of the memory text of one player
abbrev pub most_memory : ℕ
most_memory = 65536

-- CPU units that a player gets in a tick
abbrev pub most_limit : ℕ
most_limit = 500

-- CPU units that a player may save
abbrev pub most_bucket : ℕ
most_bucket = 10000

-- instructions of a CPU unit
abbrev pub unit_instructions : ℕ
unit_instructions = 10000

-- points of a player
abbrev pub most_points : ℕ
most_points = 2 ^ 53
