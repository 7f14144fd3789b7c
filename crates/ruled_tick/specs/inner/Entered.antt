-- What the entries of a tick make of what is stored.
use Rattle.std.specs.Prelude.{◌≡◌, ◌≢◌, ℕ, ◌+◌, ◌-◌, ◌*◌, ◌^◌, ◌<◌, ◌≤◌, ◌==◌, min, max}
use Rattle.std.specs.Prelude.{List, [], ◌∷◌, ◌++◌, length, map, Option, Some, None, option_map, slice_get}
use Rattle.std.specs.Prelude.{slice_set, slice_index}
use Rattle.std.specs.List.{count_by}
use Rattle.std.specs.Option.{option_to_list}
use Rattle.room_terrain.specs.declared.terrain.Ground.{Ground}
use Rattle.object_store.specs.declared.account.Account.{Account}
use Rattle.object_store.specs.declared.world.Room.{Room}
use Rattle.room_table.specs.Tables.{Table, IsRising, AreTalliesOf}
use Rattle.room_table.specs.Tallies.{no_tallies}
use Rattle.object_store.specs.Stored.{Stored}
use Rattle.intent_book.specs.declared.intent.Intent.{Intent}
use Rattle.kept_entries.specs.declared.entries.Entry.{Entry}
use Rattle.kept_entries.specs.Turns.{placed}
use Rattle.room_rules.specs.Calls.{AreSumsOf, IsHarmedBy, Keeps}
use Rattle.room_rules.specs.Followed.{FollowRooms}
use Rattle.room_rules.specs.RoomRules.{is_player}
use Rattle.room_rules.specs.Within.{within}
use Rattle.world_rules.specs.World.{World, world_of}
use Rattle.world_rules.specs.RoomParts.{RoomPart, table_part, in_room, part_at}
use Rattle.world_rules.specs.RuleBook.{Harm}
use Rattle.world_rules.specs.Tick.{Gain, book, harms_in, points_of, sums_of}
use Rattle.world_rules.specs.Sound.{serials_bound}

-- ---- worlds

-- a world after an entry in a room, if it is in one
abbrev pub entered_in : Intent → World → Option ℕ → World
entered_in intent world None = world
entered_in intent world (Some room) = in_room (λ part. (book.effect intent part).part) room world

-- a world after entries with their rooms, one after the other
abbrev pub entered_all : World → List (Option ℕ × Intent) → World
entered_all world [] = world
entered_all world (entry ∷ later) = entered_all (entered_in entry.1 world entry.0) later

-- what an entry in a room does to objects, if it is in one, read in a world
abbrev pub harm_entered : Intent → World → Option ℕ → List (ℕ × Harm)
harm_entered intent world None = []
harm_entered intent world (Some room) =
    option_to_list (option_map (λ part. (room, book.harm intent part)) (part_at world room))

-- what entries with their rooms do to objects, one after the other
abbrev pub harms_entered : World → List (Option ℕ × Intent) → List (ℕ × Harm)
harms_entered world [] = []
harms_entered world (entry ∷ later) =
    harm_entered entry.1 world entry.0 ++ harms_entered (entered_in entry.1 world entry.0) later

-- what they do to the objects of a room
abbrev pub harms_entered_in : ℕ → World → List (Option ℕ × Intent) → List Harm
harms_entered_in room world list = map (λ harm. harm.1) (harms_in room (harms_entered world list))

-- ---- gains

-- what the rule of an entry in a room gives its player, if it is in one, read in a world
abbrev pub gain_entered : Intent → World → Option ℕ → List Gain
gain_entered intent world None = []
gain_entered intent world (Some room) =
    let gain : RoomPart → Gain = λ part. record {
      room = room;
      player = intent.player;
      points = (book.effect intent part).points;
    } in
    option_to_list (option_map gain (part_at world room))

-- what the rules of entries with their rooms give, one after the other
abbrev pub gains_entered : World → List (Option ℕ × Intent) → List Gain
gains_entered world [] = []
gains_entered world (entry ∷ later) =
    gain_entered entry.1 world entry.0 ++ gains_entered (entered_in entry.1 world entry.0) later

-- the points that they give each player
abbrev pub points_entered : World → List (Option ℕ × Intent) → ℕ → ℕ
points_entered world list player = points_of player (gains_entered world list)

-- Beside each account stands what its player gained, as far as 64 bits hold it.
abbrev pub AreGains : (ℕ → ℕ) → List Account → List ℕ → Type 0
AreGains gain accounts gains = gains ≡ map (λ account. min (2 ^ 64 - 1) (gain account.player)) accounts

-- The account of a player stands at this place.
pub record IsPlaceOf (accounts : List Account) (player place : ℕ) : Type 0 where
  pub inside : place < length accounts
  pub own : (account : Account) → slice_get accounts place ≡ Some account → account.player ≡ player

-- No account is a player's.
abbrev pub HasNoAccount : List Account → ℕ → Type 0
HasNoAccount accounts player =
    (place : ℕ) (account : Account) → slice_get accounts place ≡ Some account → account.player ≢ player

-- ---- memory

-- how many entries a room has
abbrev pub many_in : ℕ → List Entry → ℕ
many_in room entries = count_by (λ entry. entry.room == room) entries

-- How many entries each of so many rooms has.
pub record AreCounts (rooms : ℕ) (entries : List Entry) (counts : List ℕ) : Type 0 where
  pub long : length counts ≡ rooms
  pub each : (room : ℕ) → room < rooms → slice_index counts room ≡ many_in room entries

-- the memory for what so many entries and a step of upkeep may make of so many objects
abbrev pub wanted_spare : ℕ → ℕ → ℕ
wanted_spare count objects = count + (4 * objects + 196)

-- a table to whose objects nothing was done yet, with that memory, or with what it has, where that is more
abbrev pub widened_table : ℕ → Table → Table
widened_table count table =
    record table { spare = max table.spare (wanted_spare count (length table.objects)); tallies = no_tallies }

abbrev pub widened : ℕ → Room → Room
widened count room = record room { table = widened_table count room.table }

-- ---- rooms

-- The rule of an entry was called on a table of a room with these grounds, whose objects rise, and what it
-- does to objects was added up.
pub record IsRuled (grounds : List Ground) (entry : Intent) (old new : Table) : Type 0 where
  pub rule : table_part grounds new ≡ (book.effect entry (table_part grounds old)).part
  pub harm : IsHarmedBy (book.harm entry (table_part grounds old)) old new
  pub told : AreTalliesOf old.objects old.tallies
  pub keeps : Keeps old new
  pub rising : IsRising new.objects

-- By an entry that is ruled on this table, its player gains so many points.
abbrev pub IsGained : Intent → Table → ℕ → Type 0
IsGained entry table points =
    (grounds : List Ground) → points ≡ (book.effect entry (table_part grounds table)).points

-- An entry was ruled in the room of this index, if there is one, and gained so many points.
abbrev pub IsRuledIn : Option Room → ℕ → Intent → ℕ → List Room → List Room → Type 0
IsRuledIn None index entry points old new = (new ≡ old) × (points ≡ 0)
IsRuledIn (Some room) index entry points old new =
    (table : Table) × (new ≡ slice_set old index (record room { table = table }))
    × IsRuled room.terrain entry room.table table × IsGained entry room.table points

-- After so many entries, there are serials left, and memory for so many that are still to come.
pub record HasRoomFor (done later : ℕ) (table : Table) : Type 0 where
  pub serial : table.next ≤ serials_bound + done
  pub spare : later ≤ table.spare

-- The sums of this harm are beside the table, and none of it is of an id that the room will still give.
pub record HasSumsOf (harms : List Harm) (table : Table) : Type 0 where
  pub sums : AreSumsOf (sums_of harms) table
  pub fresh_damage : (serial : ℕ) → table.next ≤ serial → serial < 2 ^ 32
      → (sums_of harms).damage (table.index * 2 ^ 32 + serial) ≡ 0
  pub fresh_healing : (serial : ℕ) → table.next ≤ serial → serial < 2 ^ 32
      → (sums_of harms).healing (table.index * 2 ^ 32 + serial) ≡ 0

-- These entries of a tick of a sound world were ruled so far, and those are still to come.
pub record IsActed (stored : Stored) (done later : List Entry) (rooms : List Room) : Type 0 where
  pub many : length rooms ≡ length stored.rooms
  pub follow : FollowRooms (is_player (world_of stored)) within stored (record stored { rooms = rooms })
  pub ready : (index : ℕ) (room : Room) → slice_get rooms index ≡ Some room
      → HasRoomFor (length done) (many_in index later) room.table
  pub summed : (index : ℕ) (room : Room) → slice_get rooms index ≡ Some room
      → HasSumsOf (harms_entered_in index (world_of stored) (map placed done)) room.table
  pub same : world_of (record stored { rooms = rooms }) ≡ entered_all (world_of stored) (map placed done)
