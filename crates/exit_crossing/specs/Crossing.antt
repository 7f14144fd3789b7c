-- The creeps that cross, as tables list them, and what a crossing asks of a world and keeps of it.
use Rattle.std.specs.Prelude.{◌≡◌, ◌≢◌, ℕ, ◌<◌, ◌≤◌, true, List, map, Option, Some, None, slice_get}
use Rattle.std.specs.List.{All, AllPairs, AllByRecursion, filter}
use Rattle.game_tables.specs.Kinds.{is_creep}
use Rattle.room_table.specs.declared.object.Object.{Object}
use Rattle.object_store.specs.declared.world.Room.{Room}
use Rattle.room_table.specs.Tables.{Table, IsOnTile, HasId, find_object}
use Rattle.room_table.specs.Tallies.{no_tallies}
use Rattle.object_store.specs.Stored.{Stored}
use Rattle.world_rules.specs.Crossings.{is_crosser, still}
use Rattle.exit_crossing.specs.declared.leaving.Crosser.{Crosser}

-- a crosser of a room
abbrev pub crosser_in : ℕ → Object → Crosser
crosser_in room object = record { id = object.id; room = room }

-- the crossers of a table, in rising id
abbrev pub crossers_of : Table → List Crosser
crossers_of table = map (crosser_in table.index) (filter is_crosser table.objects)

-- a table, and a room, in which no creep has moved
abbrev pub rested_table : Table → Table
rested_table table = record table { objects = map still table.objects }

abbrev pub rested_room : Room → Room
rested_room room = record room { table = rested_table room.table }

-- The crosser is a creep of its room.
abbrev pub IsCreepOf : List Room → Crosser → Type 0
IsCreepOf rooms crosser =
    (room : Room) × (creep : Object)
    × (slice_get rooms crosser.room ≡ Some room)
    × (find_object crosser.id room.table.objects ≡ Some creep)
    × (is_creep creep.kind ≡ true)

-- They are creeps of their rooms, in rising id.
pub record AreCrossers (rooms : List Room) (list : List Crosser) : Type 0 where
  pub rising : AllPairs (λ one later. one.id < later.id) list
  pub creeps : All (IsCreepOf rooms) list

-- No id stands in two rooms.
abbrev pub AreIdsApart : List Room → Type 0
AreIdsApart rooms =
    (one other id : ℕ) (first second : Room)
    → slice_get rooms one ≡ Some first → slice_get rooms other ≡ Some second
    → HasId id first.table.objects → HasId id second.table.objects → one ≡ other

-- the most creeps that may come to a room, one for each border tile
abbrev pub most_arrivals : ℕ
most_arrivals = 196

-- A world that is ready for crossings: each table is in the place of its index and has memory for as many as
-- may come, its objects stand on tiles of the room, no two rooms have one name, and no id stands in two.
pub record IsReadyToCross (rooms : List Room) : Type 0 where
  pub places : (index : ℕ) (room : Room) → slice_get rooms index ≡ Some room → room.table.index ≡ index
  pub spare : AllByRecursion (λ room. most_arrivals ≤ room.table.spare) rooms
  pub tiles : AllByRecursion (λ room. AllByRecursion IsOnTile room.table.objects) rooms
  pub names : AllPairs (λ one other. one.name ≢ other.name) rooms
  pub ids : AreIdsApart rooms

-- Nothing is told of what was done to the objects of the rooms.
abbrev pub AreForgotten : List Room → Type 0
AreForgotten rooms = AllByRecursion (λ room. room.table.tallies ≡ no_tallies) rooms

-- A room keeps its name and terrain, and its table the index and the serial of its next new object. Creeps
-- that come take of its memory, and it takes no more. Where nothing was done to its objects, nothing is told
-- of those that come.
pub record KeepsFrame (room after : Room) : Type 0 where
  pub name : after.name ≡ room.name
  pub terrain : after.terrain ≡ room.terrain
  pub index : after.table.index ≡ room.table.index
  pub next : after.table.next ≡ room.table.next
  pub spare : after.table.spare ≤ room.table.spare
  pub sums : room.table.tallies ≡ no_tallies → after.table.tallies ≡ no_tallies

abbrev pub KeepsFrameAt : Option Room → Option Room → Type 0
KeepsFrameAt None None = Unit {0}
KeepsFrameAt (Some room) (Some after) = KeepsFrame room after
KeepsFrameAt room after = ⊥

-- The tick, the accounts and the frames of the rooms stay.
pub record KeepsFrames (world after : Stored) : Type 0 where
  pub tick : after.tick ≡ world.tick
  pub accounts : after.accounts ≡ world.accounts
  pub rooms : (index : ℕ) → KeepsFrameAt (slice_get world.rooms index) (slice_get after.rooms index)
