use Rattle.std.proofs.Common.{◌≡◌, take}
use Rattle.std.specs.List.{AllByRecursion}
use Rattle.upload_stream.specs.Streams.{HasEntryForm, stream_bytes}
use Rattle.served_ticks.specs.Given.{sent_at}
use Rattle.served_ticks.proofs.given.stream_of.Given as goal

abbrev pub invariant-loop-upload : goal.invariant-loop-upload
invariant-loop-upload l = record {
  written : l.stream.items ≡ stream_bytes (sent_at l.tick (take l.upload-index l.taken));
  forms : AllByRecursion HasEntryForm (sent_at l.tick (take l.upload-index l.taken));
}
