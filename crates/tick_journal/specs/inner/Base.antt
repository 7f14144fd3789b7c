-- Groups of the fields of a base content in front of other bytes: the steps in which it is read.
use Rattle.std.specs.Prelude.{◌≡◌, ℕ, ℤ, ◌≤◌, ◌^◌, List, ◌++◌, map, length}
use Rattle.byteorder.specs.Endian.{little_bytes}
use Rattle.room_terrain.specs.Tiles.{ground_number}
use Rattle.room_terrain.specs.declared.name.RoomName.{RoomName}
use Rattle.room_terrain.specs.declared.terrain.Ground.{Ground}
use Rattle.object_store.specs.declared.account.Account.{Account}
use Rattle.object_store.specs.declared.world.Room.{Room}
use Rattle.world_bytes.specs.Forms.{account_bytes}
use Rattle.tick_journal.specs.Contents.{base_room, magic, signed_bytes}
use Rattle.tick_journal.specs.inner.Lists.{listed}

-- The tick fits.
abbrev pub IsTick : ℕ → Type 0
IsTick tick = tick ≤ 2 ^ 53

-- the mark, the version and the tick
abbrev pub start_row : ℕ → List ℕ → List ℕ
start_row tick rest = magic ++ (little_bytes 4 1 ++ (little_bytes 8 tick ++ rest))

-- a column or a row
abbrev pub side_row : ℤ → List ℕ → List ℕ
side_row side rest = signed_bytes side ++ rest

-- the column and the row of a name
abbrev pub name_row : RoomName → List ℕ → List ℕ
name_row name rest = signed_bytes name.column ++ (signed_bytes name.row ++ rest)

-- There is a ground for each tile.
abbrev pub AreTiles : List Ground → Type 0
AreTiles grounds = length grounds ≡ 2500

-- a byte for each ground
abbrev pub terrain_row : List Ground → List ℕ → List ℕ
terrain_row grounds rest = map ground_number grounds ++ rest

-- a room
abbrev pub base_room_row : Room → List ℕ → List ℕ
base_room_row room rest = base_room room ++ rest

-- rooms behind their number
abbrev pub base_rooms_row : List Room → List ℕ → List ℕ
base_rooms_row rooms rest = listed base_room rooms ++ rest

-- accounts behind their number
abbrev pub accounts_row : List Account → List ℕ → List ℕ
accounts_row accounts rest = listed account_bytes accounts ++ rest
