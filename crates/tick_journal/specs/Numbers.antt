-- The numbers of a record or a world fit their fields in the bytes, as all numbers of a program's values do.
use Rattle.std.specs.Prelude.{◌<◌, ◌^◌, length}
use Rattle.std.specs.List.{AllByRecursion}
use Rattle.object_store.specs.Stored.{Stored}
use Rattle.world_bytes.specs.Numbers.{AccountFits, IntentFits, TableFits}
use Rattle.tick_journal.specs.declared.entries.RunEntry.{RunEntry}
use Rattle.tick_journal.specs.declared.entries.UploadEntry.{UploadEntry}
use Rattle.tick_journal.specs.declared.tick_record.TickRecord.{TickRecord}

pub record UploadFits (entry : UploadEntry) : Type 0 where
  pub player : entry.player < 2 ^ 32
  pub count : length entry.bytes < 2 ^ 32
  pub bytes : AllByRecursion (λ byte. byte < 2 ^ 8) entry.bytes

pub record RunFits (run : RunEntry) : Type 0 where
  pub player : run.player < 2 ^ 32
  pub used : run.used < 2 ^ 64
  pub count : length run.intents < 2 ^ 32
  pub intents : AllByRecursion IntentFits run.intents

pub record RecordFits (entry : TickRecord) : Type 0 where
  pub tick : entry.tick < 2 ^ 64
  pub uploads : AllByRecursion UploadFits entry.uploads
  pub uploads_count : length entry.uploads < 2 ^ 32
  pub runs : AllByRecursion RunFits entry.runs
  pub runs_count : length entry.runs < 2 ^ 32
  pub accounts : AllByRecursion AccountFits entry.accounts
  pub accounts_count : length entry.accounts < 2 ^ 32
  pub rooms : AllByRecursion TableFits entry.rooms
  pub rooms_count : length entry.rooms < 2 ^ 32

pub record WorldFits (world : Stored) : Type 0 where
  pub tick : world.tick < 2 ^ 64
  pub rooms : AllByRecursion (λ room. TableFits room.table) world.rooms
  pub rooms_count : length world.rooms < 2 ^ 32
  pub accounts : AllByRecursion AccountFits world.accounts
  pub accounts_count : length world.accounts < 2 ^ 32
