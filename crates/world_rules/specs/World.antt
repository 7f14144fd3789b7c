-- The world: a rules number, a tick, rooms by index, one finite map from id to object with its room, and
-- accounts.
use Rattle.std.specs.Prelude.{ℕ, suc, ◌==◌, Bool, List, [], ◌∷◌, ◌++◌, map}
use Rattle.std.specs.List.{filter}
use Rattle.std.specs.Ordering.{nat_cmp}
use Rattle.std.specs.FinMap.{FinMap, from_entries, entries, retain_keys}
use Rattle.room_terrain.specs.declared.name.RoomName.{RoomName}
use Rattle.room_terrain.specs.declared.terrain.Ground.{Ground}
use Rattle.room_table.specs.declared.object.Object.{Object}
use Rattle.room_table.specs.declared.standing.Standing.{Standing}
use Rattle.object_store.specs.declared.account.Account.{Account}
use Rattle.object_store.specs.declared.world.Room.{Room}
use Rattle.object_store.specs.Stored.{Stored}

-- an object and the index of the room that it stands in
pub record Placed : Type 0 where
  pub room : ℕ
  pub object : Object

-- the same, as it is lent
abbrev pub shown : Standing → Placed
shown standing = record { room = standing.room; object = standing.object.now }

-- the objects of the world, by id
abbrev pub Objects : Type 0
Objects = FinMap nat_cmp Placed

-- a room without its objects: its name, the grounds of its tiles row by row, and the serial of its next new
-- object
pub record Frame : Type 0 where
  pub name : RoomName
  pub grounds : List Ground
  pub next : ℕ

pub record World : Type 0 where
  pub rules : ℕ
  pub tick : ℕ
  pub rooms : FinMap nat_cmp Frame
  pub objects : Objects
  pub accounts : FinMap nat_cmp Account

-- The entry of an object says that it stands in this room.
abbrev pub stands_in : ℕ → ℕ × Placed → Bool
stands_in room entry = entry.1.room == room

-- the world that has one room alone, under its own index
abbrev pub alone : World → ℕ → World
alone world room = record world {
  rooms = retain_keys world.rooms (λ index. index == room);
  objects = from_entries (filter (stands_in room) (entries world.objects));
}

-- ---- a world as a file or a table lists it: room by room, with the objects of each

pub record ListedRoom : Type 0 where
  pub frame : Frame
  pub objects : List Object

pub record Listing : Type 0 where
  pub rules : ℕ
  pub tick : ℕ
  pub rooms : List ListedRoom
  pub accounts : List Account

-- the objects of the rooms from one index on, each with its id and its room
abbrev pub placed_from : ℕ → List ListedRoom → List (ℕ × Placed)
placed_from index [] = []
placed_from index (room ∷ rooms) =
    map (λ object. (object.id, record { room = index; object = object })) room.objects
    ++ placed_from (suc index) rooms

-- the frames of the rooms from one index on, each with its index
abbrev pub framed_from : ℕ → List ListedRoom → List (ℕ × Frame)
framed_from index [] = []
framed_from index (room ∷ rooms) = (index, room.frame) ∷ framed_from (suc index) rooms

abbrev pub placed : Listing → List (ℕ × Placed)
placed listing = placed_from 0 listing.rooms

-- the world that is listed
abbrev pub world_listed : Listing → World
world_listed listing = record {
  rules = listing.rules;
  tick = listing.tick;
  rooms = from_entries (framed_from 0 listing.rooms);
  objects = from_entries (placed listing);
  accounts = from_entries (map (λ account. (account.player, account)) listing.accounts);
}

-- what a stored room lists
abbrev pub listed_room : Room → ListedRoom
listed_room room = record {
  frame = record { name = room.name; grounds = room.terrain; next = room.table.next };
  objects = room.table.objects;
}

-- what a stored world lists; its rules number is 1 until the store has one
abbrev pub listing_of : Stored → Listing
listing_of stored =
    record { rules = 1; tick = stored.tick; rooms = map listed_room stored.rooms; accounts = stored.accounts }

-- the world that is stored
abbrev pub world_of : Stored → World
world_of stored = world_listed (listing_of stored)
