-- A stored world in which one creep went to another room.
use Rattle.std.specs.Prelude.{◌≡◌, ◌≢◌, ℕ, ◌-◌, ◌≤◌, true, None, Some, slice_get, slice_set}
use Rattle.game_tables.specs.Kinds.{is_creep}
use Rattle.game_tables.specs.declared.kind.Kind.TheVariants.{Creep}
use Rattle.room_terrain.specs.Tiles.{IsBorder}
use Rattle.room_table.specs.declared.object.Object.{Object}
use Rattle.object_store.specs.declared.world.Room.{Room}
use Rattle.room_table.specs.Tables.{find_object, first_on, removed, with_new}
use Rattle.object_store.specs.Stored.{Stored}
use Rattle.world_rules.specs.Rules.{IsWall}

-- the room without the object of an id
abbrev pub left_by : ℕ → Room → Room
left_by id room = record room { table = removed id room.table }

-- the room with an object more, for which it had memory
abbrev pub entered_by : Object → Room → Room
entered_by object room =
    record room {
      table = record room.table {
        objects = with_new object room.table.objects;
        spare = room.table.spare - 1;
      };
    }

-- A creep of one room stands on a border tile of another afterwards, which is no wall and had no creep.
pub record HasCrossed (stored after : Stored) : Type 0 where
  pub from : ℕ
  pub to : ℕ
  pub was : Room
  pub other : Room
  pub creep : Object
  pub x : ℕ
  pub y : ℕ
  pub apart : from ≢ to
  pub left : slice_get stored.rooms from ≡ Some was
  pub entered : slice_get stored.rooms to ≡ Some other
  pub stood : find_object creep.id was.table.objects ≡ Some creep
  pub kind : is_creep creep.kind ≡ true
  pub column : x ≤ 49
  pub row : y ≤ 49
  pub border : IsBorder x y
  pub passable : ¬ IsWall other.terrain x y
  pub free : first_on x y Creep other.table.objects ≡ None
  pub crossed : after ≡ record stored {
    rooms = slice_set
        (slice_set stored.rooms from (left_by creep.id was)) to
        (entered_by (record creep { x = x; y = y }) other);
  }
