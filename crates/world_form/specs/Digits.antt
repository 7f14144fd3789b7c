-- The digits of terrain and of memory texts.
use Rattle.std.specs.Prelude.{ℕ, ◌+◌, ◌/◌, ◌%◌, List, [], ◌∷◌, nat_lt, if◌then◌else◌}
use Rattle.std.specs.List.{flat_map}
use Rattle.room_terrain.specs.declared.terrain.Ground.{Ground}
use Rattle.room_terrain.specs.declared.terrain.Ground.TheVariants.{Plain, Wall, Swamp}

-- 0 is plain, 1 is wall, 2 is swamp
abbrev pub ground_digit : Ground → ℕ
ground_digit Plain = 48
ground_digit Wall = 49
ground_digit Swamp = 50

-- a digit of lower case hexadecimal
abbrev pub hex_digit : ℕ → ℕ
hex_digit n = if nat_lt n 10 then 48 + n else 87 + n

-- bytes in lower case hexadecimal, two digits each
abbrev pub hex : List ℕ → List ℕ
hex bytes = flat_map (λ byte. hex_digit (byte / 16) ∷ hex_digit (byte % 16) ∷ []) bytes
