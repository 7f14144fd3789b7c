-- Which records of a tick may follow a world, and the world after them.
use Rattle.std.specs.Prelude.{◌≡◌, ◌==◌, ◌+◌, ◌<◌, List, length, map, unwrap_or}
use Rattle.std.specs.List.{AllByRecursion, find}
use Rattle.object_store.specs.declared.account.Account.{Account}
use Rattle.object_store.specs.declared.world.Room.{Room}
use Rattle.object_store.specs.Stored.{Stored, HasAccount, find_account}
use Rattle.room_table.specs.Tables.{Table}
use Rattle.player_run.specs.Admission.{IsAccepted}
use Rattle.rule_check.specs.Kept.{KeepsObjectRules}
use Rattle.tick_journal.specs.declared.entries.UploadEntry.{UploadEntry}
use Rattle.tick_journal.specs.declared.tick_record.TickRecord.{TickRecord}

-- the room with the recorded table of its index, where there is one
abbrev pub room_after : List Table → Room → Room
room_after tables room =
    record room { table = unwrap_or (find (λ table. table.index == room.table.index) tables) room.table }

-- the recorded account of the player, where there is one, and else this
abbrev pub account_after : List Account → Account → Account
account_after accounts account = unwrap_or (find_account account.player accounts) account

-- the world after: what is recorded, and what isn't as it was
abbrev pub after : Stored → TickRecord → Stored
after before entry = record {
  tick = entry.tick;
  rooms = map (room_after entry.rooms) before.rooms;
  accounts = map (account_after entry.accounts) before.accounts;
}

-- An accepted upload is of a player of the world, and its bytes are a module that he may have.
abbrev pub IsAdmitted : Stored → UploadEntry → Type 0
IsAdmitted before upload =
    upload.result_number ≡ 0 → HasAccount upload.player before.accounts × IsAccepted upload.bytes

-- The tick is the next one; the rooms, and the players of runs and accounts, are those of the world; after it
-- the world keeps the rules of objects; and accepted uploads are rightly so.
pub record Follows (before : Stored) (entry : TickRecord) : Type 0 where
  pub tick : entry.tick ≡ before.tick + 1
  pub rooms : AllByRecursion (λ table. table.index < length before.rooms) entry.rooms
  pub runs : AllByRecursion (λ run. HasAccount run.player before.accounts) entry.runs
  pub accounts : AllByRecursion (λ account. HasAccount account.player before.accounts) entry.accounts
  pub rules : KeepsObjectRules (after before entry)
  pub uploads : AllByRecursion (IsAdmitted before) entry.uploads

-- All of this but the rules of the world after it.
pub record Fits (before : Stored) (entry : TickRecord) : Type 0 where
  pub tick : entry.tick ≡ before.tick + 1
  pub rooms : AllByRecursion (λ table. table.index < length before.rooms) entry.rooms
  pub runs : AllByRecursion (λ run. HasAccount run.player before.accounts) entry.runs
  pub accounts : AllByRecursion (λ account. HasAccount account.player before.accounts) entry.accounts
  pub uploads : AllByRecursion (IsAdmitted before) entry.uploads
