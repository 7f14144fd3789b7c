use Rattle.std.proofs.Common.{◌≡◌, length}
use Rattle.tick_journal.specs.Contents.{upload_bytes}
use Rattle.tick_journal.specs.TickForms.{HasUploadForm}
use Rattle.tick_journal.proofs.Listed.{IsUnder}
use Rattle.tick_journal.proofs.entry_reader.read_uploads.Given as goal

abbrev pub invariant-each : goal.invariant-each
invariant-each l = record {
  counted : length l.list.items ≡ l.counter;
  under : IsUnder HasUploadForm upload_bytes l.count l.fn.from.0 l.list.items l.from.0;
}
