use Rattle.std.proofs.Common.{◌≡◌, ◌++◌, length}
use Rattle.std.specs.List.{AllByRecursion, flat_map}
use Rattle.tick_journal.specs.Contents.{upload_bytes}
use Rattle.tick_journal.specs.Numbers.{UploadFits}
use Rattle.judged_uploads.proofs.piece.put_entries.Given as goal

abbrev pub invariant-each : goal.invariant-each
invariant-each l = record {
  written : l.out.items ++ flat_map upload_bytes l.entries ≡ l.fn.out.items ++ flat_map upload_bytes l.judged;
  fits : AllByRecursion UploadFits l.entries → AllByRecursion UploadFits l.judged;
}

abbrev pub decreases-each : goal.decreases-each
decreases-each l = length l.entries
