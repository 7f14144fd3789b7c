use Rattle.std.proofs.Common.{List, ◌++◌}
use Rattle.object_store.specs.declared.account.Account.{Account}
use Rattle.room_table.specs.inner.Ordered.{Rises}
use Rattle.tick_journal.specs.declared.entries.UploadEntry.{UploadEntry}
use Rattle.world_journal.specs.inner.Uploads.{HasUploaded}
use Rattle.world_journal.proofs.uploaded.Uploaded.add_all.Given as goal

abbrev pub invariant-each : goal.invariant-each
invariant-each l = record {
  added : (accounts : List Account) (before : List UploadEntry) → HasUploaded accounts before l.fn.self → HasUploaded accounts (before ++ l.yielded) l.self;
  rising : Rises (λ count. count.player) l.self.counts.items;
}
