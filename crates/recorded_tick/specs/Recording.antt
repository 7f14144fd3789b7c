-- What is recorded of a tick: the uploads and the runs, and of what is stored the accounts and the rooms that
-- changed.
use Rattle.std.specs.Prelude.{◌≡◌, ◌⊎◌, List, [], ◌∷◌, length, map}
use Rattle.room_terrain.specs.declared.name.RoomName.{RoomName}
use Rattle.room_terrain.specs.declared.terrain.Ground.{Ground}
use Rattle.intent_book.specs.declared.player_run.PlayerRun.{PlayerRun}
use Rattle.object_store.specs.declared.account.Account.{Account}
use Rattle.object_store.specs.declared.world.Room.{Room}
use Rattle.object_store.specs.Stored.{Stored}
use Rattle.room_table.specs.Tables.{Table, without_spare}
use Rattle.tick_journal.specs.BaseForms.{world_as_read}
use Rattle.tick_journal.specs.Contents.{run_entry}
use Rattle.tick_journal.specs.declared.entries.UploadEntry.{UploadEntry}
use Rattle.tick_journal.specs.declared.tick_record.TickRecord.{TickRecord}
use Rattle.recorded_tick.specs.declared.recorder.Recorder.{Recorder}

-- They are written alike: nothing that is read from a table differs.
abbrev pub AreAlike : Table → Table → Type 0
AreAlike one other = without_spare one ≡ without_spare other

-- The tables are those of the rooms after that are not as before, in their order.
abbrev pub AreChangedRooms : List Room → List Room → List Table → Type 0
AreChangedRooms [] after tables = tables ≡ []
AreChangedRooms (room ∷ before) [] tables = tables ≡ []
AreChangedRooms (one ∷ before) (other ∷ after) tables =
    (AreAlike one.table other.table × AreChangedRooms before after tables)
    ⊎ ((AreAlike one.table other.table → ⊥) × (table : Table) × (later : List Table)
    × (tables ≡ table ∷ later) × AreAlike table other.table × AreChangedRooms before after later)

-- The accounts are those after that are not as before, in their order.
abbrev pub AreChangedAccounts : List Account → List Account → List Account → Type 0
AreChangedAccounts [] after accounts = accounts ≡ []
AreChangedAccounts (account ∷ before) [] accounts = accounts ≡ []
AreChangedAccounts (one ∷ before) (other ∷ after) accounts =
    ((one ≡ other) × AreChangedAccounts before after accounts)
    ⊎ ((one ≡ other → ⊥) × (later : List Account) × (accounts ≡ other ∷ later)
    × AreChangedAccounts before after later)

-- The record of a tick with these uploads and runs, between two stored worlds.
pub record IsRecordOf (before after : Stored) (uploads : List UploadEntry) (runs : List PlayerRun)
    (entry : TickRecord) : Type 0 where
  pub tick : entry.tick ≡ after.tick
  pub uploads_are : entry.uploads ≡ uploads
  pub runs_are : entry.runs ≡ map run_entry runs
  pub accounts : AreChangedAccounts before.accounts after.accounts entry.accounts
  pub rooms : AreChangedRooms before.rooms after.rooms entry.rooms

-- There are as many rooms and as many accounts.
pub record HaveAsMany (before after : Stored) : Type 0 where
  pub rooms : length before.rooms ≡ length after.rooms
  pub accounts : length before.accounts ≡ length after.accounts

-- Nothing that is read from one of the two worlds differs.
abbrev pub AreReadAlike : Stored → Stored → Type 0
AreReadAlike one other = world_as_read one ≡ world_as_read other

-- The recorder stands at the world.
abbrev pub StandsAt : Recorder → Stored → Type 0
StandsAt recorder world = AreReadAlike recorder.last world

-- the name and the grounds of a room
abbrev pub ground_of : Room → RoomName × List Ground
ground_of room = (room.name, room.terrain)

-- The worlds have rooms of the same names and grounds, and accounts of the same players.
pub record HaveSameFrame (one other : Stored) : Type 0 where
  pub rooms : map ground_of one.rooms ≡ map ground_of other.rooms
  pub players : map (λ account. account.player) one.accounts
      ≡ map (λ account. account.player) other.accounts
