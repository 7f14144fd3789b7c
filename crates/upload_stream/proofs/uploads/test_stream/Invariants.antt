use Rattle.std.proofs.Common.{◌≡◌, ◌+◌, List, length}
use Rattle.upload_stream.specs.Streams.{Upload}
use Rattle.upload_stream.proofs.Judged.{LeadsTo}
use Rattle.upload_stream.proofs.uploads.test_stream.Given as goal

abbrev pub invariant-each : goal.invariant-each
invariant-each l =
    ((uploads : List Upload) × LeadsTo 0 l.bytes uploads l.least l.from.0)
    × (l.from.1 + length l.from.0 ≡ length l.bytes)

abbrev pub decreases-each : goal.decreases-each
decreases-each l = length l.from.0
