use Rattle.std.proofs.Common.{◌≡◌}
use Rattle.std.specs.List.{flat_map}
use Rattle.upload_stream.specs.Streams.{entry_bytes}
use Rattle.world_gen.specs.Uploads.{uploads_to}
use Rattle.world_gen.proofs.stream.entries.Given as goal

abbrev pub invariant-loop-before : goal.invariant-loop-before
invariant-loop-before l = l.bytes.items ≡ flat_map entry_bytes (uploads_to l.fn.text l.before)
