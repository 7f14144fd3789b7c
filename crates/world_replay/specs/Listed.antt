-- A world as the journal and the printed lines list it: its rooms by index, each with its objects in rising
-- id, and its accounts in rising player.
use Rattle.std.specs.Prelude.{ℕ, map}
use Rattle.std.specs.FinMap.{entries, values}
use Rattle.object_store.specs.declared.world.Room.{Room}
use Rattle.object_store.specs.Stored.{Stored}
use Rattle.room_table.specs.Tallies.{no_tallies}
use Rattle.world_rules.specs.World.{Frame, World}
use Rattle.world_rules.specs.RoomParts.{objects_in}

abbrev pub listed_room : World → ℕ × Frame → Room
listed_room world entry = record {
  name = entry.1.name;
  terrain = entry.1.grounds;
  table = record {
    index = entry.0;
    next = entry.1.next;
    objects = values (objects_in world entry.0);
    spare = 0;
    tallies = no_tallies;
  };
}

abbrev pub listed : World → Stored
listed world = record {
  tick = world.tick;
  rooms = map (listed_room world) (entries world.rooms);
  accounts = values world.accounts;
}
