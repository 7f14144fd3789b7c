-- The steps of all rooms of a world, each by its list of entries.
use Rattle.std.specs.Prelude.{◌≡◌, ℕ, ◌<◌, ◌≤◌, ◌^◌, List, [], length}
use Rattle.std.specs.Prelude.{Option, Some, None, slice_get, slice_index_or}
use Rattle.intent_book.specs.declared.intent.Intent.{Intent}
use Rattle.object_store.specs.declared.world.Room.{Room}
use Rattle.world_rules.specs.Sound.{serials_bound}
use Rattle.room_rules.specs.Within.{between}
use Rattle.room_step.specs.Stepping.{IsStepped, KeepsItsRules}
use Rattle.room_step.specs.declared.steppers.SteppedRoom.{SteppedRoom}

-- the entries of the room of an index
abbrev pub list_at : List (List Intent) → ℕ → List Intent
list_at lists index = slice_index_or lists index []

-- The room may be stepped by these entries.
pub record MayStep (room : Room) (entries : List Intent) : Type 0 where
  pub rules : KeepsItsRules between room.terrain room.table
  pub serials : room.table.next ≤ serials_bound
  pub few : length entries ≤ 2 ^ 18

-- Each room may be stepped by its list of entries, and each table's index is its room's place.
pub record MayBeStepped (rooms : List Room) (lists : List (List Intent)) : Type 0 where
  pub many : length lists ≡ length rooms
  pub short : length rooms < 2 ^ 32
  pub places : (k : ℕ) (room : Room) → slice_get rooms k ≡ Some room → room.table.index ≡ k
  pub each : (k : ℕ) (room : Room) → slice_get rooms k ≡ Some room → MayStep room (list_at lists k)

-- It is the step of the room by these entries, under its name and on its ground.
pub record IsStepOf (entries : List Intent) (room : Room) (stepped : SteppedRoom) : Type 0 where
  pub name : stepped.name ≡ room.name
  pub terrain : stepped.terrain ≡ room.terrain
  pub step : IsStepped room.terrain entries room.table stepped.done

-- the same where there is a room, and no step where there is none
abbrev pub IsStepAt : List Intent → Option Room → Option SteppedRoom → Type 0
IsStepAt entries None None = Unit {0}
IsStepAt entries (Some room) (Some stepped) = IsStepOf entries room stepped
IsStepAt entries room stepped = ⊥

-- At each place is the step of its room by its list of entries.
abbrev pub AreStepped : List (List Intent) → List Room → List SteppedRoom → Type 0
AreStepped lists rooms steps = (k : ℕ) → IsStepAt (list_at lists k) (slice_get rooms k) (slice_get steps k)
