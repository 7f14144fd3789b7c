-- What the test of the rules is given: rooms, by their index, and accounts.
use Rattle.std.specs.Prelude.{ℕ, List, map}
use Rattle.std.specs.List.{AllByRecursion}
use Rattle.std.specs.List.Sorted.{IsNonDecreasingBy}
use Rattle.object_store.specs.declared.account.Account.{Account}
use Rattle.room_table.specs.Tables.{IsOnTile}
use Rattle.world_rules.specs.World.{ListedRoom, Listing}
use Rattle.rule_check.specs.declared.view.RoomView.{RoomView}

-- the room as a file or a table lists it
abbrev pub viewed_room : RoomView → ListedRoom
viewed_room room = record {
  frame = record { name = room.name; grounds = room.terrain.now; next = room.next };
  objects = room.objects.now;
}

-- the world that the rooms and accounts list, at some tick
abbrev pub viewed : List RoomView → List Account → ℕ → Listing
viewed rooms accounts tick =
    record { rules = 1; tick = tick; rooms = map viewed_room rooms; accounts = accounts }

-- The objects stand in the order of their ids, of which two may be the same, each on a tile of the room.
pub record IsOrdered (room : RoomView) : Type 0 where
  pub order : IsNonDecreasingBy (λ object. object.id) room.objects.now
  pub tiles : AllByRecursion IsOnTile room.objects.now
