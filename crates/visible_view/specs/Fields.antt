-- What a module is told of what its player sees.
use Rattle.std.specs.Prelude.{ℕ, suc, ◌+◌, ◌-◌, ◌*◌, ◌==◌, ◌&&◌, nat_lt, if◌then◌else◌, List, [], ◌∷◌, length}
use Rattle.std.specs.Prelude.{map, Option, Some, None, option_map, option_and_then, slice_get}
use Rattle.std.specs.List.{filter, find}
use Rattle.game_tables.specs.Bodies.{part_hits}
use Rattle.game_tables.specs.Kinds.{hits_max, is_controller}
use Rattle.game_tables.specs.Numbers.{kind_number, part_number}
use Rattle.game_tables.specs.declared.kind.Kind.{Kind}
use Rattle.game_tables.specs.declared.kind.Kind.TheVariants.{Creep}
use Rattle.room_terrain.specs.Tiles.{tile}
use Rattle.room_terrain.specs.declared.terrain.Ground.{Ground}
use Rattle.room_table.specs.declared.object.Object.{Object}
use Rattle.room_table.specs.Stores.{capacity_as}
use Rattle.world_rules.specs.World.{Placed}
use Rattle.visible_view.specs.Sights.{SeenRoom, Sight}

-- the place of a number in a list, by what each has for its number
abbrev pub place_by : {A : Type 0} → (A → ℕ) → ℕ → List A → Option ℕ
place_by key number [] = None
place_by key number (first ∷ later) =
    if key first == number then Some 0 else option_map suc (place_by key number later)

-- ---- rooms

-- the place of an index among the rooms that are seen
abbrev pub room_place : ℕ → List SeenRoom → Option ℕ
room_place index rooms = place_by (λ room. room.index) index rooms

-- the room of an index, where it is seen
abbrev pub room_at : Sight → ℕ → Option SeenRoom
room_at sight index = find (λ room. room.index == index) sight.rooms

-- the ground of a tile of a room that is seen
abbrev pub ground_in : ℕ → ℕ → SeenRoom → Option Ground
ground_in x y room = if nat_lt x 50 && nat_lt y 50 then slice_get room.grounds (tile x y) else None

abbrev pub ground_at : Sight → ℕ → ℕ → ℕ → Option Ground
ground_at sight index x y = option_and_then (ground_in x y) (room_at sight index)

-- ---- objects

-- the place of an id among the objects
abbrev pub place_of : ℕ → List Placed → Option ℕ
place_of id objects = place_by (λ placed. placed.object.id) id objects

-- the objects of a room that is seen, in rising id
abbrev pub objects_at : Sight → ℕ → List Object
objects_at sight index =
    map (λ placed. placed.object) (filter (λ placed. placed.room == index) sight.objects)

-- the controller of a room that is seen
abbrev pub controller_at : Sight → ℕ → Option Object
controller_at sight index =
    option_map (λ placed. placed.object)
    (find (λ placed. (placed.room == index) && is_controller placed.object.kind) sight.objects)

-- the hits of a part with so many parts after it: those of a spawn's body, which is being made, are whole
abbrev pub hits_as : Kind → Object → ℕ → ℕ
hits_as Creep object after = part_hits object.hits after
hits_as kind object after = 100

-- a part of the body: its number times 1,000 and its hits
abbrev pub part_field : Object → ℕ → Option ℕ
part_field object i =
    option_map (λ part. part_number part * 1000 + hits_as object.kind object (length object.body - 1 - i))
    (slice_get object.body i)

-- the fields of an object by their numbers
abbrev pub field_of : Sight → Placed → ℕ → Option ℕ
field_of sight placed field =
    if field == 0 then Some placed.object.id
    else if field == 1 then Some (kind_number placed.object.kind)
    else if field == 2 then Some placed.room
    else if field == 3 then Some placed.object.x
    else if field == 4 then Some placed.object.y
    else if field == 5 then Some placed.object.owner
    else if field == 6 then Some placed.object.hits
    else if field == 7 then Some (hits_max placed.object.kind placed.object.body)
    else if field == 8 then Some placed.object.energy
    else if field == 9
    then Some (capacity_as placed.object.kind (controller_at sight placed.room) placed.object)
    else if field == 10 then Some placed.object.timer
    else if field == 11 then Some placed.object.extra
    else if field == 12 then Some placed.object.progress
    else if field == 13 then Some placed.object.other
    else if field == 14 then Some placed.object.other_ticks
    else if field == 15 then Some (length placed.object.body)
    else if nat_lt field 100 then None
    else part_field placed.object (field - 100)

-- the field of the object at a place
abbrev pub field_at : Sight → ℕ → ℕ → Option ℕ
field_at sight index field =
    option_and_then (λ placed. field_of sight placed field) (slice_get sight.objects index)
