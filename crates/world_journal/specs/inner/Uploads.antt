-- What uploads lead to.
use Rattle.std.specs.Prelude.{◌≡◌, List, map}
use Rattle.std.specs.List.{flat_map}
use Rattle.std.specs.FinMap.{empty, from_entries}
use Rattle.object_store.specs.declared.account.Account.{Account}
use Rattle.record_follows.specs.Courses.{modules_with}
use Rattle.tick_journal.specs.declared.entries.UploadEntry.{UploadEntry}
use Rattle.tick_journal.specs.declared.tick_record.TickRecord.{TickRecord}
use Rattle.world_journal.specs.declared.uploaded.Uploaded.{Uploaded}
use Rattle.world_journal.specs.inner.Counting.{count_for}

-- The modules and the counts are those after these uploads, with a count for each account.
pub record HasUploaded (accounts : List Account) (uploads : List UploadEntry) (uploaded : Uploaded)
    : Type 0 where
  pub modules : from_entries uploaded.modules.entries ≡ modules_with empty uploads
  pub counts : uploaded.counts.items ≡ map (λ account. count_for account.player uploads) accounts

-- the uploads of records, in their order
abbrev pub uploads_in : List TickRecord → List UploadEntry
uploads_in entries = flat_map (λ entry. entry.uploads) entries
