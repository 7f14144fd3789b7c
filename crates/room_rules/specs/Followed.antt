-- A stored world whose rooms come of those of another: nothing but objects and serials of its rooms differ.
use Rattle.std.specs.Prelude.{◌≡◌, ℕ, ◌≤◌, ◌==◌, Bool, true, Option, Some, None, slice_get}
use Rattle.object_store.specs.declared.world.Room.{Room}
use Rattle.std.specs.List.{count_by}
use Rattle.room_table.specs.Tables.{IsRising}
use Rattle.object_store.specs.Stored.{Stored, AreRising}
use Rattle.world_rules.specs.World.{world_of}
use Rattle.world_rules.specs.RuleBook.{Follows}
use Rattle.world_rules.specs.RoomParts.{RoomPart, table_part}
use Rattle.room_rules.specs.Within.{Stage}
use Rattle.room_rules.specs.RoomRules.{KeepsRoomRules, is_player}

-- the part of a stored room
abbrev pub part_stored : Room → RoomPart
part_stored room = table_part room.terrain room.table

-- The room keeps its name, its terrain and its index; its objects follow, in rising id, and it keeps its
-- rules, at this stage of a tick.
pub record FollowsRoom (players : ℕ → Bool) (stage : Stage) (room after : Room) : Type 0 where
  pub name : after.name ≡ room.name
  pub terrain : after.terrain ≡ room.terrain
  pub index : after.table.index ≡ room.table.index
  pub rising : IsRising after.table.objects
  pub follows : Follows (part_stored room) (part_stored after)
  pub keeps : KeepsRoomRules players stage (part_stored after)

abbrev pub FollowsAt : (ℕ → Bool) → Stage → Option Room → Option Room → Type 0
FollowsAt players stage None None = Unit {0}
FollowsAt players stage (Some room) (Some after) = FollowsRoom players stage room after
FollowsAt players stage room after = ⊥

-- Each room of the second world follows the one at its place in the first.
abbrev pub FollowRooms : (ℕ → Bool) → Stage → Stored → Stored → Type 0
FollowRooms players stage stored after =
    (index : ℕ) → FollowsAt players stage (slice_get stored.rooms index) (slice_get after.rooms index)

-- The players stay, and none has more accounts.
pub record KeepsPlayers (stored after : Stored) : Type 0 where
  pub rising : AreRising after.accounts
  pub players : (player : ℕ) → is_player (world_of stored) player ≡ true
      → is_player (world_of after) player ≡ true
  pub fewer : (player : ℕ) → count_by (λ account. account.player == player) after.accounts
      ≤ count_by (λ account. account.player == player) stored.accounts
