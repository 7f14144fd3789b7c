-- Where a creep comes to, and what becomes of the rooms when it goes.
use Rattle.std.specs.Prelude.{◌≡◌, ℕ, ◌<◌, ◌≤◌, ◌⊎◌, true, List, Some, None, slice_get, slice_set}
use Rattle.game_tables.specs.declared.kind.Kind.TheVariants.{Creep}
use Rattle.room_terrain.specs.Geometry.{Mirrors}
use Rattle.room_terrain.specs.Tiles.{tile}
use Rattle.room_terrain.specs.declared.name.RoomName.{RoomName}
use Rattle.room_table.specs.declared.object.Object.{Object}
use Rattle.object_store.specs.declared.world.Room.{Room}
use Rattle.room_table.specs.Tables.{find_object, first_on}
use Rattle.object_store.specs.Stored.{Stored, IsRoomNamed}
use Rattle.world_rules.specs.Moves.{is_open_ground}
use Rattle.room_rules.specs.Crossed.{left_by, entered_by}
use Rattle.exit_crossing.specs.Crossing.{AreIdsApart}
use Rattle.exit_crossing.specs.declared.leaving.Crosser.{Crosser}
use Rattle.exit_crossing.specs.declared.crossing.Landing.{Landing}

-- The creep of the crosser may go to this tile.
pub record Lands (rooms : List Room) (crosser : Crosser) (at : Landing) : Type 0 where
  pub was : Room
  pub other : Room
  pub creep : Object
  pub name : RoomName
  pub left : slice_get rooms crosser.room ≡ Some was
  pub stood : find_object crosser.id was.table.objects ≡ Some creep
  pub mirrors : Mirrors was.name creep.x creep.y name at.x at.y
  pub named : IsRoomNamed name rooms at.room
  pub least : (k : ℕ) → k < at.room → ¬ IsRoomNamed name rooms k
  pub entered : slice_get rooms at.room ≡ Some other
  pub passable : is_open_ground (slice_get other.terrain (tile at.x at.y)) ≡ true
  pub free : first_on at.x at.y Creep other.table.objects ≡ None

-- the rooms without the object of an id in one that was like this
abbrev pub rooms_left : List Room → ℕ → ℕ → Room → List Room
rooms_left rooms index id was = slice_set rooms index (left_by id was)

-- the rooms with an object more in one that was like this
abbrev pub rooms_entered : List Room → ℕ → Object → Room → List Room
rooms_entered rooms index object other = slice_set rooms index (entered_by object other)

-- the rooms once the creep went to this tile
abbrev pub rooms_gone : (rooms : List Room) (crosser : Crosser) (at : Landing) → Lands rooms crosser at
    → List Room
rooms_gone rooms crosser at lands =
    rooms_entered
    (rooms_left rooms crosser.room crosser.id lands.was)
    at.room
    (record lands.creep { x = at.x; y = at.y })
    lands.other

-- The creep of a crosser went to a tile that it may go to, or there is none and it stays.
abbrev pub GoesOrStays : Stored → Crosser → Stored → Type 0
GoesOrStays stored crosser after =
    ((at : Landing) × (lands : Lands stored.rooms crosser at)
    × (after ≡ record stored { rooms = rooms_gone stored.rooms crosser at lands }))
    ⊎ (((at : Landing) → Lands stored.rooms crosser at → ⊥) × (after ≡ stored))

-- The crosser is a creep of its room, no id stands in two rooms, and there is memory where it may go.
pub record CanCross (rooms : List Room) (crosser : Crosser) : Type 0 where
  pub was : Room
  pub creep : Object
  pub left : slice_get rooms crosser.room ≡ Some was
  pub stood : find_object crosser.id was.table.objects ≡ Some creep
  pub ids : AreIdsApart rooms
  pub spare : (at : Landing) → Lands rooms crosser at → (other : Room) → slice_get rooms at.room ≡ Some other
      → 1 ≤ other.table.spare
