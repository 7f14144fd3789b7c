-- What players are told of the world after the records of a journal.
use Rattle.std.specs.Prelude.{◌≡◌, ◌-◌, ◌^◌, List, [], ◌∷◌, map, min, length}
use Rattle.object_store.specs.Stored.{Stored}
use Rattle.object_store.specs.declared.account.Account.{Account}
use Rattle.run_lines.specs.Lines.{object_count, total_energy}
use Rattle.tick_journal.specs.declared.tick_record.TickRecord.{TickRecord}
use Rattle.world_hub.specs.declared.summary.PlayerLine.{PlayerLine}
use Rattle.world_hub.specs.declared.summary.Summary.{Summary}
use Rattle.world_hub.specs.Summary.{lines_of}
use Rattle.world_journal.specs.Recovering.{count_of}
use Rattle.world_journal.specs.declared.recovered.UploadCount.{UploadCount}

-- the line of an account, of whose uploads this is the count
abbrev pub line_with : Account → UploadCount → PlayerLine
line_with account count = record {
  player = account.player;
  uploads = count.uploads;
  last = count.last;
  bucket = account.bucket;
  points = account.points;
}

-- the lines of accounts by the counts at their places
abbrev pub lines_with : List Account → List UploadCount → List PlayerLine
lines_with [] counts = []
lines_with (account ∷ accounts) [] = []
lines_with (account ∷ accounts) (count ∷ counts) = line_with account count ∷ lines_with accounts counts

-- the line of an account after these records, which count his uploads and tell the result of the last
abbrev pub line_of : List TickRecord → Account → PlayerLine
line_of entries account = line_with account (count_of entries account)

-- The summary is that of this world after these records.
pub record IsSummaryOf (entries : List TickRecord) (world : Stored) (summary : Summary) : Type 0 where
  pub tick : summary.tick ≡ world.tick
  pub rooms : summary.rooms ≡ length world.rooms
  pub objects : summary.objects ≡ object_count world
  pub energy : summary.energy ≡ min (total_energy world) (2 ^ 64 - 1)
  pub lines : lines_of summary ≡ map (line_of entries) world.accounts
