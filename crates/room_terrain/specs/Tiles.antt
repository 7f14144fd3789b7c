-- The tiles of a room: 50 columns and 50 rows, from the top left.
use Rattle.std.specs.Prelude.{◌≡◌, ℕ, ◌+◌, ◌*◌, ◌⊎◌}
use Rattle.room_terrain.specs.declared.terrain.Ground.{Ground}
use Rattle.room_terrain.specs.declared.terrain.Ground.TheVariants.{Plain, Wall, Swamp}

-- the number of a ground
abbrev pub ground_number : Ground → ℕ
ground_number Plain = 0
ground_number Wall = 1
ground_number Swamp = 2

-- the place of a tile in the list of a room's grounds, row by row
abbrev pub tile : ℕ → ℕ → ℕ
tile x y = 50 * y + x

-- The coordinate is the first or the last of a row or a column.
abbrev pub IsEdge : ℕ → Type 0
IsEdge z = (z ≡ 0) ⊎ (z ≡ 49)

-- The tile is a border tile.
abbrev pub IsBorder : ℕ → ℕ → Type 0
IsBorder x y = IsEdge x ⊎ IsEdge y

-- The tile is one of the four corners.
abbrev pub IsCorner : ℕ → ℕ → Type 0
IsCorner x y = IsEdge x × IsEdge y
