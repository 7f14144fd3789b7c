-- Runs as they are held: by stored worlds. For private clauses; Runs and Ends say the same of worlds.
use Rattle.std.specs.Prelude.{◌≡◌, ℕ, ◌≤◌, ◌^◌, List, [], ◌∷◌, ◌++◌, length, map, Option, IfSome}
use Rattle.std.specs.Prelude.{false}
use Rattle.std.specs.List.{AllByRecursion, flat_map}
use Rattle.std.specs.FinMap.{empty}
use Rattle.std.specs.Io.KnownBytes.{Appends}
use Rattle.frame_log.specs.Frames.{IsLog}
use Rattle.object_store.specs.Stored.{Stored}
use Rattle.object_store.specs.declared.world.Room.{Room}
use Rattle.intent_book.specs.declared.player_run.PlayerRun.{PlayerRun}
use Rattle.world_rules.specs.Sound.{HaveSerials}
use Rattle.world_io.specs.Moments.{Moment}
use Rattle.world_io.specs.Told.{AppendsPrefix}
use Rattle.upload_stream.specs.Streams.{Upload, uploads_at}
use Rattle.tick_journal.specs.BaseForms.{world_as_read}
use Rattle.tick_journal.specs.declared.entries.UploadEntry.{UploadEntry}
use Rattle.tick_journal.specs.declared.tick_record.TickRecord.{TickRecord}
use Rattle.record_follows.specs.Courses.{modules_after, world_after}
use Rattle.recorded_tick.specs.Recording.{IsRecordOf, StandsAt}
use Rattle.site_limit.specs.FewSites.{HaveFewSites}
use Rattle.hosted_tick.specs.Next.{Next}
use Rattle.hosted_tick.specs.Hosting.{Held, IsHosted, state_of}
use Rattle.world_journal.specs.Journals.{HasJournal, IsWholeJournal, MayBegin}
use Rattle.run_lines.specs.Lines.{start_line, tick_lines}
use Rattle.world_run.specs.Runs.{AppendsPart, Stood}
use Rattle.world_run.specs.declared.kept.Kept.{Kept}

-- ---- the ticks

-- the uploads of a tick with their results, the runs of its players, the world after it with the players'
-- modules, and its record as it is read
pub record Step : Type 0 where
  pub uploads : List UploadEntry
  pub runs : List PlayerRun
  pub after : Held
  pub recorded : TickRecord

abbrev pub recorded_of : List Step → List TickRecord
recorded_of steps = map (λ (step : Step). step.recorded) steps

-- all lines of a tick
abbrev pub step_lines : Step → List ℕ
step_lines step = tick_lines step.uploads step.runs step.after.world

-- The step is the tick that comes with the uploads of its number in this stream, and its record has what it
-- changed.
pub record IsStep (stream : List Upload) (before : Held) (step : Step) : Type 0 where
  pub made : Next (state_of before) (uploads_at before.world.tick stream) step.uploads step.runs
      (state_of step.after)
  pub recorded : IsRecordOf before.world step.after.world step.uploads step.runs step.recorded

-- Each step is the tick after the world before it, in which no room has used up its serials.
abbrev pub Follow : List Upload → Held → List Step → Type 0
Follow stream before [] = IsHosted before.world
Follow stream before (step ∷ later) =
    IsHosted before.world × HaveSerials before.world.rooms × IsStep stream before step
    × Follow stream step.after later

-- the world after all steps, with its modules
abbrev pub last_of : Held → List Step → Held
last_of before [] = before
last_of before (step ∷ later) = last_of step.after later

-- what a run prints: the opening line, then the lines of each tick
abbrev pub output : Stored → List Step → List ℕ
output first steps = start_line first ++ flat_map step_lines steps

-- ---- the journal

-- Each room has 2,500 tiles.
abbrev pub HaveTiles : List Room → Type 0
HaveTiles rooms = AllByRecursion (λ room. length room.terrain ≡ 2500) rooms

-- A run may start from this world of a file.
pub record MayStart (world : Stored) : Type 0 where
  pub tick : world.tick ≤ 2 ^ 53
  pub hosted : IsHosted world
  pub few : HaveFewSites world
  pub begins : MayBegin world

-- The world with its modules is the one that these records of the journal lead to.
pub record IsAt (base : Stored) (entries : List TickRecord) (held : Held) : Type 0 where
  pub world : world_as_read held.world ≡ world_after base entries
  pub modules : (state_of held).modules ≡ modules_after empty entries
  pub hosted : IsHosted held.world
  pub few : HaveFewSites held.world

-- A world that is run stands at the end of its journal, which is on the disk where that tells.
pub record IsKeptAt (base : Stored) (entries : List TickRecord) (kept : Kept) (seen : Option (List ℕ))
    (moments : List Moment) : Type 0 where
  pub at_end : IsAt base entries kept.hosted
  pub recorder : StandsAt kept.recorder kept.hosted.world
  pub journal : IfSome seen (λ bytes. HasJournal base entries kept.journal.log.gate seen moments)
  pub log : IsLog kept.journal.log.gate seen moments
  pub is_open : kept.journal.log.is_closed ≡ false

-- ---- what is left

-- A journal of the world of a file stood on the disk, or none; these are ticks behind it, and the sink was
-- given their lines.
pub record Prints (disk_old sink_old sink_new : Option (List ℕ)) (stream : List Upload) (world : Stored)
    (steps : List Step) : Type 0 where
  pub entries : List TickRecord
  pub first : Held
  pub stood : Stood disk_old (world_as_read world) entries
  pub at_end : IsAt (world_as_read world) entries first
  pub follow : Follow stream first steps
  pub output_is : Appends sink_old sink_new (output first.world steps)

-- The same, and the disk has the journal with their records, where it tells.
pub record Leaves (disk_old disk_new sink_old sink_new : Option (List ℕ)) (stream : List Upload)
    (world : Stored) (steps : List Step) : Type 0 where
  pub prints : Prints disk_old sink_old sink_new stream world steps
  pub journal_is : IfSome disk_new
      (IsWholeJournal (world_as_read world) (prints.entries ++ recorded_of steps))

-- The sink was given the opening line, the lines of all steps but the last, and a part of those of the last;
-- or only a part of the opening line, where there is no step.
abbrev pub CutsLast : Option (List ℕ) → Option (List ℕ) → Stored → List Step → Type 0
CutsLast old new first [] = AppendsPrefix old new (start_line first)
CutsLast old new first steps =
    (earlier : List Step) × (last : Step) × (steps ≡ earlier ++ last ∷ [])
    × AppendsPart old new (output first earlier) (step_lines last)

-- As Leaves, but that the sink was given only a part of the last lines.
pub record LeavesPart (disk_old disk_new sink_old sink_new : Option (List ℕ)) (stream : List Upload)
    (world : Stored) (steps : List Step) : Type 0 where
  pub entries : List TickRecord
  pub first : Held
  pub stood : Stood disk_old (world_as_read world) entries
  pub at_end : IsAt (world_as_read world) entries first
  pub follow : Follow stream first steps
  pub journal_is : IfSome disk_new (IsWholeJournal (world_as_read world) (entries ++ recorded_of steps))
  pub output_is : CutsLast sink_old sink_new first.world steps
