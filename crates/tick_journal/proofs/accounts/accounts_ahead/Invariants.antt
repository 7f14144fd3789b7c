use Rattle.std.proofs.Common.{◌≡◌, ◌+◌, length}
use Rattle.std.specs.List.{AllByRecursion}
use Rattle.object_store.specs.Stored.{AreRising}
use Rattle.world_bytes.specs.Forms.{HasAccountForm, account_bytes}
use Rattle.tick_journal.specs.inner.Rows.{list_row}
use Rattle.tick_journal.proofs.accounts.accounts_ahead.Given as goal

abbrev pub invariant-each : goal.invariant-each
invariant-each l = record {
  counted : length l.accounts.items ≡ l.counter;
  rising : AreRising l.accounts.items;
  forms : AllByRecursion HasAccountForm l.accounts.items;
  whole : l.initial.from.0 ≡ list_row account_bytes l.accounts.items l.from.0;
  place : l.from.1 + length l.from.0 ≡ l.initial.from.1 + length l.initial.from.0;
}
