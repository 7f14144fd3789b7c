-- Distances, steps and crossings.
use Rattle.std.specs.Prelude.{◌≡◌, ℕ, ◌+◌, ◌-◌, ◌<◌, max, ◌⊎◌, ℤ, pos, negsuc, ◌+ℤ◌, ◌-ℤ◌}
use Rattle.room_terrain.specs.Names.{IsInRange}
use Rattle.room_terrain.specs.declared.name.RoomName.{RoomName}
use Rattle.room_terrain.specs.declared.direction.Direction.{Direction}
use Rattle.room_terrain.specs.declared.direction.Direction.TheVariants.{Top, TopRight, Right, BottomRight}
use Rattle.room_terrain.specs.declared.direction.Direction.TheVariants.{Bottom, BottomLeft, Left, TopLeft}
use Rattle.room_terrain.specs.declared.terrain.Place.{Place}

-- the distance of two columns or of two rows of tiles
abbrev pub distance : ℕ → ℕ → ℕ
distance a b = (a - b) + (b - a)

-- the range of two tiles of a room, the greater of the two distances
abbrev pub range_of : Place → Place → ℕ
range_of a b = max (distance a.x b.x) (distance a.y b.y)

-- the number of a direction, clockwise from the top
abbrev pub direction_number : Direction → ℕ
direction_number Top = 1
direction_number TopRight = 2
direction_number Right = 3
direction_number BottomRight = 4
direction_number Bottom = 5
direction_number BottomLeft = 6
direction_number Left = 7
direction_number TopLeft = 8

-- what a step in the direction adds to x
abbrev pub dx : Direction → ℤ
dx Top = pos 0
dx TopRight = pos 1
dx Right = pos 1
dx BottomRight = pos 1
dx Bottom = pos 0
dx BottomLeft = negsuc 0
dx Left = negsuc 0
dx TopLeft = negsuc 0

-- what a step in the direction adds to y, which grows downwards
abbrev pub dy : Direction → ℤ
dy Top = negsuc 0
dy TopRight = negsuc 0
dy Right = pos 0
dy BottomRight = pos 1
dy Bottom = pos 1
dy BottomLeft = pos 1
dy Left = pos 0
dy TopLeft = negsuc 0

-- A step in the direction leads from the one tile to the other, in one room.
pub record Steps (at : Place) (to : Direction) (next : Place) : Type 0 where
  pub room : next.room ≡ at.room
  pub x : pos next.x ≡ pos at.x +ℤ dx to
  pub y : pos next.y ≡ pos at.y +ℤ dy to
  pub inside_x : next.x < 50
  pub inside_y : next.y < 50

-- Along a row or a column of rooms, the first tile lies across from the last tile of the room
-- before, and the last tile from the first tile of the room after.
abbrev pub Crosses : ℤ → ℕ → ℤ → ℕ → Type 0
Crosses side z side' z' =
    ((z ≡ 0) × (side' ≡ side -ℤ pos 1) × (z' ≡ 49)) ⊎ ((z ≡ 49) × (side' ≡ side +ℤ pos 1) × (z' ≡ 0))

-- The coordinate is that of a tile between the borders.
abbrev pub IsInner : ℕ → Type 0
IsInner z = (0 < z) × (z < 49)

-- The border tile (x, y) of the room lies across from the tile (x', y') of the other, which is one
-- of the world's: in the same row of the room beside it, or in the same column of the room above or
-- below it. A corner lies across from none.
pub record Mirrors (name : RoomName) (x y : ℕ) (other : RoomName) (x' y' : ℕ) : Type 0 where
  pub in_range : IsInRange other
  pub across :
      (Crosses name.column x other.column x' × IsInner y × (other.row ≡ name.row) × (y' ≡ y))
      ⊎ (Crosses name.row y other.row y' × IsInner x × (other.column ≡ name.column) × (x' ≡ x))
