-- The rules of a world that speak of one room alone, told of its part: which ids its objects have, on which
-- tiles they stand, what may share a tile, whose they are, and in which ranges their fields are.
use Rattle.std.specs.Prelude.{◌≡◌, ◌≢◌, ℕ, ◌/◌, ◌%◌, ◌^◌, ◌<◌, ◌≤◌, Bool, true, Some}
use Rattle.std.specs.Option.{is_some}
use Rattle.std.specs.FinMap.{get}
use Rattle.room_table.specs.declared.object.Object.{Object}
use Rattle.room_table.specs.Tables.{IsOnTile}
use Rattle.game_tables.specs.Kinds.{clash, is_controller, may_have_owner}
use Rattle.world_rules.specs.World.{World}
use Rattle.world_rules.specs.RoomParts.{RoomPart}
use Rattle.world_rules.specs.Rules.{IsOnWrongTile}
use Rattle.intent_book.specs.declared.intent.Intent.{Intent}
use Rattle.room_rules.specs.Within.{Stage, within, IsInRangeIn}

-- The object stands in the room under this id.
abbrev pub Holds : RoomPart → ℕ → Object → Type 0
Holds part id object = get part.objects id ≡ Some object

-- The player has an account.
abbrev pub is_player : World → ℕ → Bool
is_player world player = is_some (get world.accounts player)

-- Its owner and its reserver are among these players, and its kind may have them.
pub record HasRightOwner (players : ℕ → Bool) (object : Object) : Type 0 where
  pub owner : object.owner ≢ 0 → (players object.owner ≡ true) × (may_have_owner object.kind ≡ true)
  pub other : object.other ≢ 0 → (players object.other ≡ true) × (is_controller object.kind ≡ true)

-- The room keeps its rules, where these are the players, at this stage of a tick.
pub record KeepsRoomRules (players : ℕ → Bool) (stage : Stage) (part : RoomPart) : Type 0 where
  -- serials begin at 1
  pub begun : 1 ≤ part.next
  -- an object stands under its id, and one that was born here has a serial that was given
  pub ids : (id : ℕ) (object : Object) → Holds part id object → object.id ≡ id
  pub born : (id : ℕ) (object : Object) → Holds part id object → id / 2 ^ 32 ≡ part.index
      → (1 ≤ id % 2 ^ 32) × (id % 2 ^ 32 < part.next)
  -- it stands on a tile of the room, and on one for its kind
  pub inside : (id : ℕ) (object : Object) → Holds part id object → IsOnTile object
  pub tiles : (id : ℕ) (object : Object) → Holds part id object → ¬ IsOnWrongTile part.grounds object
  -- two objects share a tile only where their kinds may
  pub shared : (one other : ℕ) (first second : Object) → one ≢ other
      → Holds part one first → Holds part other second → first.x ≡ second.x → first.y ≡ second.y
      → ¬ (clash first.kind second.kind ≡ true)
  pub owners : (id : ℕ) (object : Object) → Holds part id object → HasRightOwner players object
  -- there is at most one controller
  pub controllers : (one other : ℕ) (first second : Object) → one ≢ other
      → Holds part one first → Holds part other second → is_controller first.kind ≡ true
      → ¬ (is_controller second.kind ≡ true)
  -- no field is out of its range
  pub ranges : (id : ℕ) (object : Object) → Holds part id object → ¬ ¬ IsInRangeIn object.kind stage object

-- What an entry of somebody makes of a room that keeps its rules within a tick keeps them.
abbrev pub KeepsBy : Intent → (RoomPart → RoomPart) → Type 0
KeepsBy entry change =
    (players : ℕ → Bool) (part : RoomPart) → 1 ≤ entry.player
    → KeepsRoomRules players within part → KeepsRoomRules players within (change part)

-- The change leads a room that keeps its rules at one stage of a tick to one that keeps those of another.
abbrev pub Leads : Stage → Stage → (RoomPart → RoomPart) → Type 0
Leads before after change =
    (players : ℕ → Bool) (part : RoomPart)
    → KeepsRoomRules players before part → KeepsRoomRules players after (change part)
