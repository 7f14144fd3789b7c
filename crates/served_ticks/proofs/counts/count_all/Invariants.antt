use Rattle.std.proofs.Common.{◌≡◌, List, ◌++◌, length, map}
use Rattle.object_store.specs.declared.account.Account.{Account}
use Rattle.tick_journal.specs.declared.entries.UploadEntry.{UploadEntry}
use Rattle.world_journal.specs.inner.Counting.{count_for}
use Rattle.served_ticks.proofs.counts.count_all.Given as goal

abbrev pub invariant-each : goal.invariant-each
invariant-each l = record {
  done : List UploadEntry;
  split : l.uploads ≡ done ++ l.left;
  counted : (accounts : List Account) (before : List UploadEntry) → l.fn.counts.items ≡ map (λ account. count_for account.player before) accounts
      → l.after.items ≡ map (λ account. count_for account.player (before ++ done)) accounts;
}

abbrev pub decreases-each : goal.decreases-each
decreases-each l = length l.left
