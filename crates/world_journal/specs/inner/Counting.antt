-- How uploads are counted, one by one.
use Rattle.std.specs.Prelude.{◌==◌, ℕ, ◌+◌, ◌-◌, ◌^◌, min, if◌then◌else◌, List, length}
use Rattle.std.specs.List.{filter}
use Rattle.tick_journal.specs.declared.entries.UploadEntry.{UploadEntry}
use Rattle.world_journal.specs.Recovering.{last_result}
use Rattle.world_journal.specs.declared.recovered.UploadCount.{UploadCount}

-- the uploads of a player among these
abbrev pub uploads_from : ℕ → List UploadEntry → List UploadEntry
uploads_from player uploads = filter (λ upload. upload.player == player) uploads

-- the count of a player after these uploads
abbrev pub count_for : ℕ → List UploadEntry → UploadCount
count_for player uploads = record {
  player = player;
  uploads = min (length (uploads_from player uploads)) (2 ^ 64 - 1);
  last = last_result 255 (uploads_from player uploads);
}

-- the count after one more upload, which may be another player's
abbrev pub counted : ℕ → ℕ → UploadCount → UploadCount
counted player number count =
    if count.player == player
    then record { player = count.player; uploads = min (count.uploads + 1) (2 ^ 64 - 1); last = number }
    else count
