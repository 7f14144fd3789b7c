use Rattle.std.proofs.Common.{length}
use Rattle.judged_uploads.proofs.piece.entries_size.Given as goal

abbrev pub decreases-each : goal.decreases-each
decreases-each l = length l.entries
