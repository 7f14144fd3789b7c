-- Worlds in which a room has used up its serials, and worlds in which none has.
use Rattle.std.specs.Prelude.{◌≡◌, ℕ, ◌<◌, ◌≤◌, Some, slice_get}
use Rattle.std.specs.FinMap.{get}
use Rattle.object_store.specs.Stored.{Stored}
use Rattle.object_store.specs.declared.world.Room.{Room}
use Rattle.world_rules.specs.Sound.{serials_bound}
use Rattle.world_rules.specs.World.{Frame, World}

-- No room has used up its serials.
abbrev pub HasSerials : World → Type 0
HasSerials world =
    (index : ℕ) (frame : Frame) → get world.rooms index ≡ Some frame → frame.next ≤ serials_bound

-- The room of this index is the first that has used up its serials.
pub record IsExhausted (world : World) (index : ℕ) : Type 0 where
  pub frame : Frame
  pub stands : get world.rooms index ≡ Some frame
  pub above : serials_bound < frame.next
  pub first : (earlier : ℕ) (other : Frame) → earlier < index → get world.rooms earlier ≡ Some other
      → other.next ≤ serials_bound

-- The same of a world as it is stored.
pub record HasRunOut (world : Stored) (index : ℕ) : Type 0 where
  pub room : Room
  pub stands : slice_get world.rooms index ≡ Some room
  pub above : serials_bound < room.table.next
  pub first : (earlier : ℕ) (other : Room) → earlier < index → slice_get world.rooms earlier ≡ Some other
      → other.table.next ≤ serials_bound
