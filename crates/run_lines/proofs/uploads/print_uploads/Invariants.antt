use Rattle.std.proofs.Common.{◌≡◌, ◌++◌, [], List, length}
use Rattle.std.specs.List.{flat_map}
use Rattle.tick_journal.specs.declared.entries.UploadEntry.{UploadEntry}
use Rattle.run_lines.specs.Lines.{upload_line}
use Rattle.run_lines.specs.inner.Pieces.{Gives}
use Rattle.run_lines.proofs.uploads.print_uploads.Given as goal

abbrev pub invariant-each : goal.invariant-each
invariant-each g l = record {
  given : (done : List UploadEntry) × (l.uploads ≡ done ++ l.left) × Gives (g.O.Sink.written l.fn.out) (g.O.Sink.written l.out) [] l.piece.items (flat_map upload_line done);
  steady : g.O.Sink.faults l.out ≡ g.O.Sink.faults l.fn.out;
}

abbrev pub decreases-each : goal.decreases-each
decreases-each g l = length l.left
