-- Crossings, after all rooms: creeps that moved onto a border tile go to the mirrored tile of the next room.
use Rattle.std.specs.Prelude.{ℕ, ◌==◌, ◌&&◌, ◌||◌, not, Bool, false, nat_le, if◌then◌else◌, ℤ, pos, negsuc}
use Rattle.std.specs.Prelude.{◌+ℤ◌, ◌-ℤ◌, List, [], ◌∷◌, map, Option, Some, None, option_map, option_and_then}
use Rattle.std.specs.Prelude.{slice_get}
use Rattle.std.specs.List.{filter, find, list_any}
use Rattle.std.specs.Ordering.{int_eq}
use Rattle.std.specs.FinMap.{get, insert, values, entries, from_entries}
use Rattle.room_terrain.specs.Tiles.{tile}
use Rattle.room_terrain.specs.declared.name.RoomName.{RoomName}
use Rattle.room_table.specs.declared.object.Object.{Object}
use Rattle.world_rules.specs.World.{Placed, Frame, World}
use Rattle.world_rules.specs.Moves.{is_open_ground}
use Rattle.game_tables.specs.Kinds.{is_creep}

-- a tile of a room
pub record Place : Type 0 where
  pub room : ℕ
  pub x : ℕ
  pub y : ℕ

-- ---- what lies beyond a border

-- The coordinate is the first or the last of a row or a column.
abbrev pub is_edge : ℕ → Bool
is_edge z = (z == 0) || (z == 49)

-- Along a row or a column of rooms, the room beside that of this number, and its coordinate that lies across
-- from the first or the last one.
abbrev pub across : ℤ → ℕ → ℤ × ℕ
across side z = if z == 0 then (side -ℤ pos 1, 49) else (side +ℤ pos 1, 0)

-- The number of a column or a row of rooms is one of the world's.
abbrev pub is_side_in_range : ℤ → Bool
is_side_in_range (pos n) = nat_le n 127
is_side_in_range (negsuc n) = nat_le n 127

-- a tile of the room of a name
pub record NamedTile : Type 0 where
  pub name : RoomName
  pub x : ℕ
  pub y : ℕ

abbrev pub beside : RoomName → ℕ → ℕ → NamedTile
beside name x y =
    let next : ℤ × ℕ = across name.column x in
    record { name = record { column = next.0; row = name.row }; x = next.1; y = y }

abbrev pub above_or_below : RoomName → ℕ → ℕ → NamedTile
above_or_below name x y =
    let next : ℤ × ℕ = across name.row y in
    record { name = record { column = name.column; row = next.0 }; x = x; y = next.1 }

-- a named tile, where the room may be one of the world
abbrev pub in_range : NamedTile → Option NamedTile
in_range found =
    if is_side_in_range found.name.column && is_side_in_range found.name.row then Some found else None

-- The tile that lies across the border from a border tile of a room; none does from a corner, or from a tile
-- inside.
abbrev pub mirrored : RoomName → ℕ → ℕ → Option NamedTile
mirrored name x y =
    if is_edge x && not (is_edge y) then in_range (beside name x y)
    else if is_edge y && not (is_edge x) then in_range (above_or_below name x y)
    else None

abbrev pub same_name : RoomName → RoomName → Bool
same_name one other = int_eq one.column other.column && int_eq one.row other.row

-- the index of the room of a name
abbrev pub room_named : World → RoomName → Option ℕ
room_named world name =
    option_map (λ found. found.0) (find (λ entry. same_name entry.1.name name) (entries world.rooms))

-- the place of a named tile, where its room is in the world
abbrev pub place_of : World → NamedTile → Option Place
place_of world found =
    option_map (λ room. record { room = room; x = found.x; y = found.y }) (room_named world found.name)

-- the place beyond the tile of an object
abbrev pub beyond : World → Placed → Option Place
beyond world placed =
    let tile_of : Frame → Option NamedTile = λ frame. mirrored frame.name placed.object.x placed.object.y in
    option_and_then (place_of world) (option_and_then tile_of (get world.rooms placed.room))

-- ---- who may enter

-- A creep stands on the place.
abbrev pub is_taken : World → Place → Bool
is_taken world place =
    let stands : Placed → Bool = λ placed.
    (placed.room == place.room)
    && is_creep placed.object.kind
    && (placed.object.x == place.x)
    && (placed.object.y == place.y) in
    list_any stands (values world.objects)

-- The place is no wall in this room.
abbrev pub is_open_in : Place → Option Frame → Bool
is_open_in place None = false
is_open_in place (Some frame) = is_open_ground (slice_get frame.grounds (tile place.x place.y))

abbrev pub may_enter : World → Place → Bool
may_enter world place = is_open_in place (get world.rooms place.room) && not (is_taken world place)

-- ---- crossings

-- an object on another place
abbrev pub with_place : Object → Place → Placed
with_place object place = record { room = place.room; object = record object { x = place.x; y = place.y } }

-- the world with it
abbrev pub with_object_on : World → ℕ → Object → Place → World
with_object_on world id object place =
    record world {
      objects = insert world.objects id (with_place object place);
    }

-- the world after a creep goes to the place beyond its border, where there is one and it may enter; else it
-- stays
abbrev pub crossed_to : World → ℕ → Object → Option Place → World
crossed_to world id object None = world
crossed_to world id object (Some place) =
    if may_enter world place then with_object_on world id object place else world

abbrev pub crossed_by : World → ℕ → Option Placed → World
crossed_by world id None = world
crossed_by world id (Some placed) = crossed_to world id placed.object (beyond world placed)

-- the world after these creeps crossed, one after the other
abbrev pub crossed_over : List ℕ → World → World
crossed_over [] world = world
crossed_over (id ∷ later) world = crossed_over later (crossed_by world id (get world.objects id))

-- It is a creep that moved onto a border tile.
abbrev pub is_crosser : Object → Bool
is_crosser object =
    is_creep object.kind && (object.other_ticks == 1) && (is_edge object.x || is_edge object.y)

-- the crossers of the world, in rising id
abbrev pub crossers : World → List ℕ
crossers world = map (λ entry. entry.0) (filter (λ entry. is_crosser entry.1.object) (entries world.objects))

-- an object that, if it is a creep, has moved no more
abbrev pub still : Object → Object
still object = if is_creep object.kind then record object { other_ticks = 0 } else object

abbrev pub rested : Placed → Placed
rested placed = record placed { object = still placed.object }

-- the world in which no creep has moved
abbrev pub all_rested : World → World
all_rested world =
    record world { objects = from_entries (map (λ entry. (entry.0, rested entry.1)) (entries world.objects)) }

-- the world after crossings: its crossers in rising id over the whole world, then no creep has moved
abbrev pub crossed : World → World
crossed world = all_rested (crossed_over (crossers world) world)
