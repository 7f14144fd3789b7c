-- What is seen of a world at a room.
use Rattle.std.specs.Prelude.{ℕ, Option}
use Rattle.std.specs.Ordering.{nat_cmp}
use Rattle.std.specs.FinMap.{FinMap, get}
use Rattle.room_table.specs.declared.object.Object.{Object}
use Rattle.world_rules.specs.World.{Frame, World}
use Rattle.world_rules.specs.RoomParts.{objects_in}

-- the rules number, the room's frame, where there is such a room, and the objects that stand in it
pub record Seen : Type 0 where
  pub rules : ℕ
  pub frame : Option Frame
  pub objects : FinMap nat_cmp Object

abbrev pub seen : World → ℕ → Seen
seen world room =
    record { rules = world.rules; frame = get world.rooms room; objects = objects_in world room }
