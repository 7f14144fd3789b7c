-- The moves of creeps: who would step and to which tile, and how tired a step makes a creep.
use Rattle.std.specs.Prelude.{ℕ, ◌+◌, ◌*◌, ◌/◌, ◌==◌, ◌&&◌, not, Bool, true, false, nat_lt, if◌then◌else◌, ℤ}
use Rattle.std.specs.Prelude.{pos, negsuc, ◌+ℤ◌, List, [], ◌∷◌, length, Option, Some, None, option_map}
use Rattle.std.specs.Prelude.{option_and_then, slice_get}
use Rattle.std.specs.List.{filter, filter_map, find}
use Rattle.std.specs.FinMap.{get, values}
use Rattle.game_tables.specs.declared.action.Action.TheVariants.{Move}
use Rattle.game_tables.specs.declared.kind.Kind.TheVariants.{Road}
use Rattle.game_tables.specs.declared.kind.Part.{Part}
use Rattle.game_tables.specs.declared.kind.Part.TheVariants as parts
use Rattle.room_terrain.specs.Geometry.{direction_number, dx, dy}
use Rattle.room_terrain.specs.Tiles.{tile}
use Rattle.room_terrain.specs.declared.direction.Direction.{Direction}
use Rattle.room_terrain.specs.declared.direction.Direction.TheVariants.{Top, TopRight, Right, BottomRight}
use Rattle.room_terrain.specs.declared.direction.Direction.TheVariants.{Bottom, BottomLeft, Left, TopLeft}
use Rattle.room_terrain.specs.declared.terrain.Ground.{Ground}
use Rattle.room_terrain.specs.declared.terrain.Ground.TheVariants.{Wall, Swamp}
use Rattle.room_table.specs.Tables.{is_obstructed, first_on}
use Rattle.room_table.specs.declared.object.Object.{Object}
use Rattle.std.specs.Option.{is_some}
use Rattle.intent_book.specs.declared.intent.Intent.{Intent}
use Rattle.world_rules.specs.RoomParts.{RoomPart}
use Rattle.world_rules.specs.Checks.{may_take_effect}
use Rattle.world_rules.specs.Movement.{Mover, moved_by}

-- ---- steps

abbrev pub directions : List Direction
directions = Top ∷ TopRight ∷ Right ∷ BottomRight ∷ Bottom ∷ BottomLeft ∷ Left ∷ TopLeft ∷ []

-- the direction of a number
abbrev pub direction_of : ℕ → Option Direction
direction_of number = find (λ direction. direction_number direction == number) directions

-- a coordinate, where it is one of a tile of a room
abbrev pub inside : ℤ → Option ℕ
inside (pos z) = if nat_lt z 50 then Some z else None
inside (negsuc z) = None

-- the tile that lies in a direction of another, where it is in the room
abbrev pub tile_towards : Direction → ℕ → ℕ → Option (ℕ × ℕ)
tile_towards to x y =
    option_and_then (λ column. option_map (λ row. (column, row)) (inside (pos y +ℤ dy to)))
    (inside (pos x +ℤ dx to))

-- ---- ground

-- The tile with this surface is one to stand on.
abbrev pub is_open_ground : Option Ground → Bool
is_open_ground None = false
is_open_ground (Some Wall) = false
is_open_ground (Some other) = true

-- The tile is no wall, and nothing that stands there obstructs the player's creeps.
abbrev pub is_open : RoomPart → ℕ → ℕ × ℕ → Bool
is_open part player at =
    is_open_ground (slice_get part.grounds (tile at.0 at.1))
    && not (is_obstructed at.0 at.1 player (values part.objects))

-- ---- who would step

-- the mover of a creep that would step to a tile, where the tile is open
abbrev pub mover_to : RoomPart → Object → ℕ × ℕ → Option Mover
mover_to part creep at =
    if is_open part creep.owner at then Some (record { creep = creep.id; x = at.0; y = at.1 }) else None

-- the mover of a creep that would step in the direction of a number
abbrev pub mover_towards : RoomPart → ℕ → Object → Option Mover
mover_towards part number creep =
    let ahead : Direction → Option (ℕ × ℕ) = λ to. tile_towards to creep.x creep.y in
    option_and_then (mover_to part creep) (option_and_then ahead (direction_of number))

-- the mover of an entry, where its checks hold
abbrev pub mover_of : RoomPart → Intent → Option Mover
mover_of part entry =
    if may_take_effect Move entry part
    then option_and_then (mover_towards part entry.amount) (get part.objects entry.actor) else None

-- the movers of entries
abbrev pub candidates : RoomPart → List Intent → List Mover
candidates part list = filter_map (mover_of part) list

-- ---- fatigue

-- MOVE and CARRY weigh nothing.
abbrev pub weighs : Part → Bool
weighs parts.Move = false
weighs parts.Carry = false
weighs part = true

-- what a creep weighs: its other parts, live or not, and 1 for each 50 of its load that were begun
abbrev pub weight : Object → ℕ
weight creep = length (filter weighs creep.body) + (creep.energy + 49) / 50

-- what a step costs for each weight, onto a road or onto a ground
abbrev pub pace : Bool → Option Ground → ℕ
pace true surface = 1
pace false (Some Swamp) = 10
pace false other = 2

-- The tile has a road.
abbrev pub has_road : RoomPart → ℕ → ℕ → Bool
has_road part x y = is_some (first_on x y Road (values part.objects))

-- how tired a creep is after its step
abbrev pub fatigue : RoomPart → Object → Mover → ℕ
fatigue part creep one =
    weight creep * pace (has_road part one.x one.y) (slice_get part.grounds (tile one.x one.y))

-- ---- movement

-- what the kept moves of a room make of it, all at once
abbrev pub moved : List Intent → RoomPart → RoomPart
moved list part = moved_by (fatigue part) (candidates part list) part
