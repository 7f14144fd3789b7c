-- The rooms of a world that are stepped one after the other.
use Rattle.std.specs.Prelude.{◌≡◌, ℕ, ◌+◌, ◌≤◌, ◌==◌, if◌then◌else◌, List, [], ◌∷◌, ◌++◌, length, map, suc}
use Rattle.std.specs.Prelude.{Option, Some, None, slice_get}
use Rattle.std.specs.List.{AllByRecursion}
use Rattle.intent_book.specs.declared.intent.Intent.{Intent}
use Rattle.intent_book.specs.declared.player_run.PlayerRun.{PlayerRun}
use Rattle.object_store.specs.declared.account.Account.{Account}
use Rattle.object_store.specs.declared.world.Room.{Room}
use Rattle.room_table.specs.Tables.{IsOnTile, IsRising}
use Rattle.room_table.specs.Tallies.{no_tallies}
use Rattle.world_rules.specs.RoomTick.{room_tick}
use Rattle.world_rules.specs.Tick.{account_after, book, run_of, total_for}
use Rattle.room_rules.specs.Followed.{part_stored}
use Rattle.exit_crossing.specs.Crossing.{most_arrivals, rested_room}
use Rattle.exit_crossing.specs.inner.Leaving.{crossers_among}
use Rattle.ruled_tick.specs.inner.Entered.{AreGains}
use Rattle.room_step.specs.Stepping.{IsStepped}
use Rattle.room_step.specs.Steps.{list_at}
use Rattle.room_step.specs.declared.steppers.SteppedRoom.{SteppedRoom}
use Rattle.room_step.specs.declared.step.StepDone.{StepDone}
use Rattle.room_step.specs.declared.rooms.Underway.{Underway}

-- an account after these runs, with the points that its player gained
abbrev pub accounted : (ℕ → ℕ) → List PlayerRun → Account → Account
accounted gain runs account = account_after (gain account.player) account (run_of account.player runs)

-- what a player has with points that another, or he, gained
abbrev pub with_points : ℕ → ℕ → (ℕ → ℕ) → ℕ → ℕ
with_points player points gain other = gain other + (if player == other then points else 0)

-- A room more was stepped by these entries.
pub record IsAdded (accounts : List Account) (room : Room) (entries : List Intent)
    (old new : Underway) : Type 0 where
  pub done : StepDone
  pub step : IsStepped room.terrain entries room.table done
  pub world : new.world ≡ record old.world {
    rooms = old.world.rooms ++ record room { table = done.room } ∷ [];
  }
  pub crossers : new.crossers.items ≡ old.crossers.items ++ done.crossers
  pub gains : (gain : ℕ → ℕ) → AreGains gain accounts old.gains.items
      → AreGains (with_points done.player done.points gain) accounts new.gains.items

-- A stepped room was added to the others.
pub record IsPut (accounts : List Account) (room : SteppedRoom) (old new : Underway) : Type 0 where
  pub world : new.world ≡ record old.world {
    rooms = old.world.rooms
        ++ record { name = room.name; terrain = room.terrain; table = room.done.room } ∷ [];
  }
  pub crossers : new.crossers.items ≡ old.crossers.items ++ room.done.crossers
  pub gains : (gain : ℕ → ℕ) → AreGains gain accounts old.gains.items
      → AreGains (with_points room.done.player room.done.points gain) accounts new.gains.items

-- The room is as its tick by these entries leaves it, before its creeps come to rest.
pub record IsLeft (entries : List Intent) (room left : Room) : Type 0 where
  pub name : left.name ≡ room.name
  pub terrain : left.terrain ≡ room.terrain
  pub tick : part_stored left ≡ (room_tick book entries (part_stored room)).part
  pub rising : IsRising left.table.objects
  pub tiles : AllByRecursion IsOnTile left.table.objects
  pub sums : left.table.tallies ≡ no_tallies
  pub memory : most_arrivals ≤ left.table.spare

abbrev pub IsLeftAt : List Intent → Option Room → Option Room → Type 0
IsLeftAt entries None None = Unit {0}
IsLeftAt entries (Some room) (Some left) = IsLeft entries room left
IsLeftAt entries room left = ⊥

-- the points that a player gains in rooms from an index on
abbrev pub earned_from : (ℕ → List Intent) → ℕ → List Room → ℕ → ℕ
earned_from lists index [] player = 0
earned_from lists index (room ∷ later) player =
    total_for (room_tick book (lists index) (part_stored room)).points player
    + earned_from lists (suc index) later player

-- These rooms were stepped, each by its entries.
pub record HasStepped (tick : ℕ) (accounts : List Account) (lists : List (List Intent)) (done : List Room)
    (now : Underway) : Type 0 where
  pub left : List Room
  pub world : now.world ≡ record { tick = tick; rooms = map rested_room left; accounts = [] }
  pub each : (index : ℕ) → IsLeftAt (list_at lists index) (slice_get done index) (slice_get left index)
  pub many : length left ≡ length done
  pub crossers : now.crossers.items ≡ crossers_among left
  pub gains : AreGains (earned_from (list_at lists) 0 done) accounts now.gains.items
