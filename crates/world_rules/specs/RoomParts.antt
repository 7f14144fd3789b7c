-- What a room has of the world, and how a change of it is lifted to the world: in this one place.
use Rattle.std.specs.Prelude.{ℕ, ◌==◌, not, if◌then◌else◌, List, [], ◌∷◌, ◌++◌, map, Option, Some, None}
use Rattle.std.specs.Prelude.{option_map}
use Rattle.std.specs.List.{filter, filter_map}
use Rattle.std.specs.Ordering.{nat_cmp}
use Rattle.std.specs.FinMap.{FinMap, get, insert, keys, values, from_entries, entries}
use Rattle.room_terrain.specs.declared.terrain.Ground.{Ground}
use Rattle.room_table.specs.Controllers.{controller_among}
use Rattle.room_table.specs.declared.object.Object.{Object}
use Rattle.room_table.specs.Tables.{Table}
use Rattle.world_rules.specs.World.{Placed, Frame, World, stands_in}

-- a room's part of the world: the rules number, its index, its grounds, the serial of its next new object,
-- and its objects by id
pub record RoomPart : Type 0 where
  pub rules : ℕ
  pub index : ℕ
  pub grounds : List Ground
  pub next : ℕ
  pub objects : FinMap nat_cmp Object

-- the part of a room with these grounds and this table
abbrev pub table_part : List Ground → Table → RoomPart
table_part grounds table = record {
  rules = 1;
  index = table.index;
  grounds = grounds;
  next = table.next;
  objects = from_entries (map (λ object. (object.id, object)) table.objects);
}

-- the controller of a room
abbrev pub controller_of : RoomPart → Option Object
controller_of part = controller_among (values part.objects)

-- the object of an entry, where it stands in this room
abbrev pub standing_in : ℕ → ℕ × Placed → Option (ℕ × Object)
standing_in room entry = if entry.1.room == room then Some (entry.0, entry.1.object) else None

-- the objects that stand in a room
abbrev pub objects_in : World → ℕ → FinMap nat_cmp Object
objects_in world room = from_entries (filter_map (standing_in room) (entries world.objects))

-- the part of the room that has this frame
abbrev pub part_of : World → ℕ → Frame → RoomPart
part_of world room frame = record {
  rules = world.rules;
  index = room;
  grounds = frame.grounds;
  next = frame.next;
  objects = objects_in world room;
}

-- the part of a room, where there is one
abbrev pub part_at : World → ℕ → Option RoomPart
part_at world room = option_map (part_of world room) (get world.rooms room)

-- the entries of a room's objects in the world
abbrev pub placed_in : ℕ → List (ℕ × Object) → List (ℕ × Placed)
placed_in room es = map (λ entry. (entry.0, record { room = room; object = entry.1 })) es

-- the entries of the objects that stand in other rooms
abbrev pub entries_elsewhere : World → ℕ → List (ℕ × Placed)
entries_elsewhere world room = filter (λ entry. not (stands_in room entry)) (entries world.objects)

-- the world with this frame and these objects in a room
abbrev pub with_room : World → ℕ → Frame → FinMap nat_cmp Object → World
with_room world room frame objects = record world {
  rooms = insert world.rooms room frame;
  objects = from_entries (placed_in room (entries objects) ++ entries_elsewhere world room);
}

-- the world with this in the place of a room's part: its objects and its serial, for a room's name and
-- grounds never change
abbrev pub with_part : World → ℕ → Frame → RoomPart → World
with_part world room frame part = with_room world room (record frame { next = part.next }) part.objects

-- a change of a room's part, in the room that has this frame
abbrev pub in_frame : (RoomPart → RoomPart) → ℕ → World → Option Frame → World
in_frame change room world None = world
in_frame change room world (Some frame) = with_part world room frame (change (part_of world room frame))

-- a change of a room's part, in one room of the world
abbrev pub in_room : (RoomPart → RoomPart) → ℕ → World → World
in_room change room world = in_frame change room world (get world.rooms room)

-- a change for each room, in these rooms
abbrev pub in_rooms : (ℕ → RoomPart → RoomPart) → List ℕ → World → World
in_rooms change [] world = world
in_rooms change (room ∷ later) world = in_rooms change later (in_room (change room) room world)

-- a change for each room, in every room of the world
abbrev pub in_every_room : (ℕ → RoomPart → RoomPart) → World → World
in_every_room change world = in_rooms change (keys world.rooms) world
