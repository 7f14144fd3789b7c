-- The tick of one room by itself, on its table.
use Rattle.std.specs.Prelude.{◌≡◌, ℕ, ◌+◌, ◌-◌, ◌*◌, ◌≤◌, ◌==◌, max, if◌then◌else◌, Bool, true, List, length}
use Rattle.std.specs.List.{AllByRecursion}
use Rattle.room_terrain.specs.declared.terrain.Ground.{Ground}
use Rattle.room_table.specs.Tables.{Table, IsOnTile, IsRising}
use Rattle.room_table.specs.Tallies.{no_tallies}
use Rattle.intent_book.specs.declared.intent.Intent.{Intent}
use Rattle.world_rules.specs.RoomParts.{table_part}
use Rattle.world_rules.specs.RoomTick.{kept_in, room_tick}
use Rattle.world_rules.specs.Tick.{book, total_for}
use Rattle.room_rules.specs.RoomRules.{KeepsRoomRules}
use Rattle.room_rules.specs.Within.{Stage, between}
use Rattle.exit_crossing.specs.Crossing.{crossers_of, most_arrivals, rested_table}
use Rattle.room_step.specs.declared.step.StepDone.{StepDone}

-- Anybody may own what stands in a room: who has an account is not told by one room.
abbrev pub anybody : ℕ → Bool
anybody player = true

-- The room of these grounds and this table keeps its rules, at this stage of a tick, whoever the players are.
abbrev pub KeepsItsRules : Stage → List Ground → Table → Type 0
KeepsItsRules stage grounds table = KeepsRoomRules anybody stage (table_part grounds table)

-- The second table keeps its rules where the first one does, among the same players.
abbrev pub StaysInRules : List Ground → Table → Table → Type 0
StaysInRules grounds old new =
    (players : ℕ → Bool) → KeepsRoomRules players between (table_part grounds old)
    → KeepsRoomRules players between (table_part grounds new)

-- A table that came of another has memory for no more objects than there was memory at hand for, or than
-- twice those that stood and were made, and all creeps that may come, may need.
abbrev pub HasAtMost : ℕ → Table → Table → Type 0
HasAtMost at_hand old new =
    new.spare ≤ max at_hand (2 * (length old.objects + (new.next - old.next)) + most_arrivals)

-- the memory that a step asks for: for each of the entries that count in the room, for four times its objects
-- and for all creeps that may come
abbrev pub asked_for : List Ground → List Intent → Table → ℕ
asked_for grounds entries table =
    length (kept_in (table_part grounds table) entries) + (4 * length table.objects + most_arrivals)

-- All points of the list are one player's, and these are as many. Where there are none, the player is 0.
pub record AreOf (player points : ℕ) (list : List (ℕ × ℕ)) : Type 0 where
  pub gained : (other : ℕ) → total_for list other ≡ (if player == other then points else 0)
  pub nobody : points ≡ 0 → player ≡ 0

-- The table of a room of these grounds was stepped by these entries: it is the table that the tick of the
-- room by itself leaves, once the creeps that are to cross were listed, in rising id, and no creep has moved
-- any more; and all points that the tick gives in the room are told. Of what was done to its objects nothing
-- is told, and it has memory for all creeps that may come.
pub record IsStepped (grounds : List Ground) (entries : List Intent) (old : Table)
    (done : StepDone) : Type 0 where
  pub left : Table
  pub tick : table_part grounds left ≡ (room_tick book entries (table_part grounds old)).part
  pub rising : IsRising left.objects
  pub tiles : AllByRecursion IsOnTile left.objects
  pub sums : left.tallies ≡ no_tallies
  pub memory : most_arrivals ≤ left.spare
  pub room : done.room ≡ rested_table left
  pub crossers : done.crossers ≡ crossers_of left
  pub points : AreOf done.player done.points (room_tick book entries (table_part grounds old)).points
