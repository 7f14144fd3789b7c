-- The uploads that ticks take from a hub.
use Rattle.std.specs.Prelude.{ℕ, List, map, length, nat_le, [], if◌then◌else◌}
use Rattle.upload_stream.specs.Streams.{Upload, module_bytes_bound}
use Rattle.tick_journal.specs.declared.entries.UploadEntry.{UploadEntry}
use Rattle.world_hub.specs.declared.queue.Upload.{Upload as Sent}

-- an upload of the hub, for the tick that takes it
abbrev pub sent : ℕ → Sent → Upload
sent tick upload = record { tick = tick; player = upload.player; bytes = upload.bytes.items }

abbrev pub sent_at : ℕ → List Sent → List Upload
sent_at tick uploads = map (sent tick) uploads

-- who sent which bytes
abbrev pub sender : Sent → ℕ × List ℕ
sender upload = (upload.player, upload.bytes.items)

abbrev pub told_sender : Upload → ℕ × List ℕ
told_sender upload = (upload.player, upload.bytes)

-- who sent which bytes, as far as a journal keeps them: none of a module of more than 1 MiB
abbrev pub kept_sender : Upload → ℕ × List ℕ
kept_sender upload =
    (upload.player, if nat_le (length upload.bytes) module_bytes_bound then upload.bytes else [])

abbrev pub recorded_sender : UploadEntry → ℕ × List ℕ
recorded_sender entry = (entry.player, entry.bytes)
