use Rattle.std.proofs.Common.{◌≡◌, ◌+◌, List, length}
use Rattle.upload_stream.specs.Streams.{Upload, UploadList}
use Rattle.upload_stream.proofs.Parts.{HasPassed}
use Rattle.upload_stream.proofs.uploads.length_before.Given as goal

abbrev pub invariant-each : goal.invariant-each
invariant-each l = record {
  passed : (uploads : List Upload) → UploadList l.bytes uploads → HasPassed l.tick l.from.0 l.from.1 uploads;
  place : l.from.1 + length l.from.0 ≡ length l.bytes;
}

abbrev pub decreases-each : goal.decreases-each
decreases-each l = length l.from.0
