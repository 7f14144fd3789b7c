-- What a content has in front of other bytes: the steps in which it is read.
use Rattle.std.specs.Prelude.{◌≡◌, ℕ, ◌+◌, ◌*◌, ◌≤◌, ◌<◌, ◌^◌, List, ◌++◌, length}
use Rattle.std.specs.List.{AllByRecursion}
use Rattle.byteorder.specs.Endian.{little_bytes}
use Rattle.game_tables.specs.Actions.{action_number}
use Rattle.intent_book.specs.declared.intent.Intent.{Intent}
use Rattle.room_table.specs.Tables.{Table, without_spare}
use Rattle.world_bytes.specs.Forms.{HasIntentForm, HasRoomForm}
use Rattle.tick_journal.specs.TickForms.{HasRunForm, HasTickForm, HasUploadForm, IsRisingBy, tick_as_read}
use Rattle.tick_journal.specs.TickForms.{most_kept}
use Rattle.tick_journal.specs.declared.entries.RunEntry.{RunEntry}
use Rattle.tick_journal.specs.declared.entries.UploadEntry.{UploadEntry}
use Rattle.tick_journal.specs.declared.tick_record.TickRecord.{TickRecord}

-- a value's bytes in front of others
abbrev pub before : {V : Type 0} → (V → List ℕ) → V → List ℕ → List ℕ
before form value rest = form value ++ rest

-- ---- the bytes of a module

pub record HasModuleForm (text : List ℕ) : Type 0 where
  pub most : length text ≤ most_kept
  pub bytes : AllByRecursion (λ byte. byte < 2 ^ 8) text

unfoldable pub module_bytes : List ℕ → List ℕ
module_bytes text = little_bytes 4 (length text) ++ text

-- ---- entries of a player or as they are read

-- an intent of the player
pub record IsIntentOf (player : ℕ) (intent : Intent) : Type 0 where
  pub form : HasIntentForm intent
  pub own : intent.player ≡ player

-- a table without room for more objects
pub record IsReadTable (table : Table) : Type 0 where
  pub form : HasRoomForm table
  pub full : table ≡ without_spare table

-- ---- lists

pub record HasUploadsForm (uploads : List UploadEntry) : Type 0 where
  pub forms : AllByRecursion HasUploadForm uploads
  pub count : length uploads < 2 ^ 32

pub record HasRunsForm (runs : List RunEntry) : Type 0 where
  pub forms : AllByRecursion HasRunForm runs
  pub rising : IsRisingBy (λ (run : RunEntry). run.player) runs
  pub count : length runs < 2 ^ 32

pub record AreReadTables (tables : List Table) : Type 0 where
  pub forms : AllByRecursion IsReadTable tables
  pub rising : IsRisingBy (λ (table : Table). table.index) tables
  pub count : length tables < 2 ^ 32

-- ---- a record

pub record IsReadTick (entry : TickRecord) : Type 0 where
  pub form : HasTickForm entry
  pub full : entry ≡ tick_as_read entry

-- ---- orders

-- where an intent stands in canonical order, as one number: by its action, and then by its actor
abbrev pub rank : Intent → ℕ
rank intent = action_number intent.action * 2 ^ 64 + intent.actor
