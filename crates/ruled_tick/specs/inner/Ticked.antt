-- What one tick makes of what is stored.
use Rattle.std.specs.Prelude.{◌≡◌, ℕ, ◌+◌, ◌-◌, ◌*◌, ◌^◌, ◌<◌, ◌≤◌, ◌==◌, ◌&&◌, max, Bool, List, [], length}
use Rattle.std.specs.Prelude.{map, Option, Some, None, slice_get, slice_index_or}
use Rattle.std.specs.List.{AllByRecursion, filter}
use Rattle.game_tables.specs.Actions.{action_number}
use Rattle.game_tables.specs.declared.action.Action.TheVariants.{Move}
use Rattle.room_terrain.specs.declared.terrain.Ground.{Ground}
use Rattle.object_store.specs.declared.account.Account.{Account}
use Rattle.object_store.specs.declared.world.Room.{Room}
use Rattle.room_table.specs.Tables.{Table, IsRising, IsOnTile, HasNoId}
use Rattle.room_table.specs.Tallies.{no_tallies}
use Rattle.object_store.specs.Stored.{Stored}
use Rattle.intent_book.specs.declared.intent.Intent.{Intent}
use Rattle.kept_entries.specs.declared.entries.Entry.{Entry}
use Rattle.world_rules.specs.World.{world_of}
use Rattle.world_rules.specs.RoomParts.{RoomPart, table_part}
use Rattle.world_rules.specs.RuleBook.{Sums}
use Rattle.world_rules.specs.RoomTick.{room_after_steps}
use Rattle.world_rules.specs.Moves.{moved}
use Rattle.world_rules.specs.Crossings.{crossed, crossed_over}
use Rattle.world_rules.specs.Upkeep.{steps}
use Rattle.world_rules.specs.Tick.{account_raised, book, inner}
use Rattle.world_rules.specs.Sound.{IsSound}
use Rattle.room_rules.specs.Calls.{AreSumsOf, IsMovable}
use Rattle.exit_crossing.specs.declared.leaving.Crosser.{Crosser}
use Rattle.exit_crossing.specs.Crossing.{AreCrossers, AreForgotten, IsReadyToCross, most_arrivals}

-- ---- moves

-- The entry is a move of a creep in the room.
abbrev pub is_move_in : ℕ → Entry → Bool
is_move_in room entry = (entry.room == room) && (action_number entry.intent.action == action_number Move)

-- the moves of a room among entries
abbrev pub moves_in : ℕ → List Entry → List Intent
moves_in room entries = map (λ entry. entry.intent) (filter (is_move_in room) entries)

-- These are the moves of each of so many rooms.
pub record AreMoves (rooms : ℕ) (entries : List Entry) (lists : List (List Intent)) : Type 0 where
  pub long : length lists ≡ rooms
  pub each : (room : ℕ) → room < rooms → slice_index_or lists room [] ≡ moves_in room entries

-- ---- rooms

-- what movement and upkeep make of a room's part
abbrev pub ticked_part : List Intent → Sums → RoomPart → RoomPart
ticked_part moves sums part = room_after_steps sums steps (moved moves part)

-- A table that is ready for movement, and no object has an id that the room will give.
pub record IsReadyToTick (table : Table) : Type 0 where
  pub movable : IsMovable table
  pub fresh : (serial : ℕ) → table.next ≤ serial → serial < 2 ^ 32
      → HasNoId (table.index * 2 ^ 32 + serial) table.objects

-- It has serials and memory for so many objects.
pub record HasMemory (many : ℕ) (old new : Table) : Type 0 where
  pub serials : old.next + many ≤ 2 ^ 32 - 1
  pub same : new ≡ record old { spare = max old.spare many }

-- A table of a room with these grounds after movement and upkeep. Nothing is told any more of what was done
-- to its objects. It has memory for the creeps that may come, and no more than it had or than twice the
-- objects that stood and were made, and those creeps, may need.
pub record IsTickedTable (moves : List Intent) (grounds : List Ground) (old new : Table) : Type 0 where
  pub index : new.index ≡ old.index
  pub part : (sums : Sums) → AreSumsOf sums old
      → table_part grounds new ≡ ticked_part moves sums (table_part grounds old)
  pub rising : IsRising new.objects
  pub tiles : AllByRecursion IsOnTile new.objects
  pub sums : new.tallies ≡ no_tallies
  pub later : old.next ≤ new.next
  pub spare : most_arrivals ≤ new.spare
  pub most : new.spare ≤ max old.spare (2 * (length old.objects + (new.next - old.next)) + most_arrivals)

-- A room after movement and upkeep.
pub record IsTicked (moves : List Intent) (room later : Room) : Type 0 where
  pub name : later.name ≡ room.name
  pub terrain : later.terrain ≡ room.terrain
  pub table : IsTickedTable moves room.terrain room.table later.table

abbrev pub IsTickedAt : List Intent → Option Room → Option Room → Type 0
IsTickedAt moves None None = Unit {0}
IsTickedAt moves (Some room) (Some later) = IsTicked moves room later
IsTickedAt moves room later = ⊥

-- All rooms after movement and upkeep.
abbrev pub AreTicked : List Entry → List Room → List Room → Type 0
AreTicked entries old new =
    (index : ℕ) → IsTickedAt (moves_in index entries) (slice_get old index) (slice_get new index)

-- an account with the points that its player gained
abbrev pub raised_by : (ℕ → ℕ) → Account → Account
raised_by gain account = account_raised (gain account.player) account

-- Each table's index is its room's place.
abbrev pub AreInPlace : List Room → Type 0
AreInPlace rooms = (index : ℕ) (room : Room) → slice_get rooms index ≡ Some room → room.table.index ≡ index

-- Without accounts, it is a tick of the rooms of a sound world up to crossings, and with these to cross it is
-- the tick by any entries of which this holds. The world is sound again.
pub record IsRuledRooms (stored : Stored) (Tells : List Intent → Type 0) (later : Stored)
    (list : List Crosser) : Type 0 where
  pub rested : Stored
  pub tick : rested.tick ≡ stored.tick
  pub accounts : rested.accounts ≡ stored.accounts
  pub rooms : length rested.rooms ≡ length stored.rooms
  pub sound : IsSound rested
  pub forgotten : AreForgotten rested.rooms
  pub ready : IsReadyToCross rested.rooms
  pub crossers : AreCrossers rested.rooms list
  pub same : (intents : List Intent) → Tells intents
      → crossed_over (map (λ crosser. crosser.id) list) (world_of rested)
      ≡ crossed (inner book (world_of stored) intents).world
  pub next : later ≡ record rested { tick = stored.tick + 1; accounts = [] }
