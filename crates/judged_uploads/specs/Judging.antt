-- What a journal records of the uploads of a tick.
use Rattle.std.specs.Prelude.{ℕ, List, [], ◌∷◌, length, nat_le, if◌then◌else◌}
use Rattle.upload_stream.specs.Streams.{Upload, module_bytes_bound}
use Rattle.tick_journal.specs.declared.entries.UploadEntry.{UploadEntry}
use Rattle.tick_journal.specs.declared.tick_record.TickRecord.{TickRecord}

-- what is recorded of an upload with the number of its result: the bytes too, but for a module of more than
-- 1 MiB
abbrev pub judged_entry : Upload → ℕ → UploadEntry
judged_entry upload number = record {
  player = upload.player;
  result_number = number;
  bytes = if nat_le (length upload.bytes) module_bytes_bound then upload.bytes else [];
}

-- uploads with the numbers of their results, both in order
abbrev pub judged : List Upload → List ℕ → List UploadEntry
judged [] numbers = []
judged (upload ∷ later) [] = []
judged (upload ∷ later) (number ∷ more) = judged_entry upload number ∷ judged later more

-- the record with these uploads in the place of its own
abbrev pub with_uploads : List UploadEntry → TickRecord → TickRecord
with_uploads uploads entry = record entry { uploads = uploads }
