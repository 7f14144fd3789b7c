-- What is made of a journal that is read.
use Rattle.std.specs.Prelude.{◌≡◌, ◌==◌, ℕ, ◌-◌, ◌<◌, ◌^◌, min, List, [], ◌∷◌, map, length}
use Rattle.std.specs.List.{filter, flat_map}
use Rattle.std.specs.FinMap.{empty, from_entries}
use Rattle.object_store.specs.declared.account.Account.{Account}
use Rattle.record_follows.specs.Courses.{modules_after, world_after}
use Rattle.tick_journal.specs.declared.entries.UploadEntry.{UploadEntry}
use Rattle.tick_journal.specs.declared.tick_record.TickRecord.{TickRecord}
use Rattle.world_journal.specs.Journals.{IsCourse}
use Rattle.world_journal.specs.declared.recovered.Recovered.{Recovered}
use Rattle.world_journal.specs.declared.recovered.UploadCount.{UploadCount}

-- the uploads of a player in these records, in their order
abbrev pub uploads_of : ℕ → List TickRecord → List UploadEntry
uploads_of player entries =
    filter (λ upload. upload.player == player) (flat_map (λ (entry : TickRecord). entry.uploads) entries)

-- the number of the last upload's result, and this where there is none
abbrev pub last_result : ℕ → List UploadEntry → ℕ
last_result none [] = none
last_result none (upload ∷ later) = last_result upload.result_number later

-- how many uploads a player has in these records, up to 2^64 - 1, and the result of the last, 255 for none
abbrev pub count_of : List TickRecord → Account → UploadCount
count_of entries account = record {
  player = account.player;
  uploads = min (length (uploads_of account.player entries)) (2 ^ 64 - 1);
  last = last_result 255 (uploads_of account.player entries);
}

-- The world is that after all records, the modules are the latest accepted ones, and for each account its
-- uploads are counted.
pub record HasRecovered (entries : List TickRecord) (found : Recovered) : Type 0 where
  pub course : IsCourse found.base entries
  pub world : found.world ≡ world_after found.base entries
  pub tick : found.world.tick < 2 ^ 63
  pub modules : from_entries found.modules.entries ≡ modules_after empty entries
  pub uploads : found.uploads ≡ map (count_of entries) found.base.accounts
