-- What a run makes of its inputs: the worlds of its ticks, their records, and the lines.
use Rattle.std.specs.Prelude.{◌≡◌, ℕ, ◌+◌, ◌^◌, ◌≤◌, ◌⊎◌, List, [], ◌∷◌, ◌++◌, length, map, take}
use Rattle.std.specs.Prelude.{Option, Some, None, IfSome, ⊤}
use Rattle.std.specs.List.{flat_map}
use Rattle.std.specs.Io.KnownBytes.{Appends}
use Rattle.std.specs.FinMap.{empty}
use Rattle.frame_log.specs.Frames.{IsEmpty}
use Rattle.intent_book.specs.declared.player_run.PlayerRun.{PlayerRun}
use Rattle.object_store.specs.Stored.{Stored}
use Rattle.world_rules.specs.World.{World, world_of}
use Rattle.world_form.specs.Files.{WorldForm, HasFault}
use Rattle.world_form.specs.declared.fault.WorldFault.{WorldFault}
use Rattle.world_form.specs.declared.fault.WorldFault.TheVariants as faults
use Rattle.world_io.specs.Told.{GaveAll, Gave}
use Rattle.upload_stream.specs.Streams.{Upload, UploadList, IsFirstBad, uploads_at}
use Rattle.tick_journal.specs.Contents.{base_content}
use Rattle.tick_journal.specs.declared.entries.UploadEntry.{UploadEntry}
use Rattle.tick_journal.specs.declared.tick_record.TickRecord.{TickRecord}
use Rattle.record_follows.specs.Courses.{modules_after, world_after}
use Rattle.recorded_tick.specs.Recording.{IsRecordOf}
use Rattle.world_journal.specs.Journals.{IsJournal}
use Rattle.hosted_tick.specs.Next.{Next, State}
use Rattle.run_lines.specs.Lines.{start_line, tick_lines}
use Rattle.world_replay.specs.Differing.{DifferAt}
use Rattle.world_replay.specs.Listed.{listed}
use Rattle.world_replay.specs.Serials.{HasSerials}
use Rattle.run_status.specs.declared.status.Status.{Status}
use Rattle.run_status.specs.declared.status.Status.TheVariants as statuses

-- ---- the ticks

-- a tick that was made: its uploads with their results, the runs of its players, the world after it with the
-- players' modules, and what is recorded of it
pub record Step : Type 0 where
  pub uploads : List UploadEntry
  pub runs : List PlayerRun
  pub after : State
  pub recorded : TickRecord

-- what is recorded of steps
abbrev pub recorded_of : List Step → List TickRecord
recorded_of steps = map (λ (step : Step). step.recorded) steps

-- the world that a journal's records lead to, and the latest modules that were accepted in them
abbrev pub resumed : Stored → List TickRecord → State
resumed base entries =
    record { world = world_of (world_after base entries); modules = modules_after empty entries }

-- The step is the tick that comes with the uploads of its number in this stream, and its record has what it
-- changed.
pub record IsStep (stream : List Upload) (before : State) (step : Step) : Type 0 where
  pub made : Next before (uploads_at before.world.tick stream) step.uploads step.runs step.after
  pub recorded : IsRecordOf (listed before.world) (listed step.after.world) step.uploads step.runs
      step.recorded

-- Each step is the tick after the world before it, in which no room has used up its serials.
abbrev pub Follow : List Upload → State → List Step → Type 0
Follow stream before [] = Unit {0}
Follow stream before (step ∷ later) =
    HasSerials before.world × IsStep stream before step × Follow stream step.after later

-- the world after all steps, with its modules
abbrev pub last_of : State → List Step → State
last_of before [] = before
last_of before (step ∷ later) = last_of step.after later

-- ---- the lines

-- the lines of a tick
abbrev pub step_lines : Step → List ℕ
step_lines step = tick_lines step.uploads step.runs (listed step.after.world)

-- what a run prints: the opening line, then the lines of each tick
abbrev pub output : World → List Step → List ℕ
output first steps = start_line (listed first) ++ flat_map step_lines steps

-- ---- what is read

-- The source was read to its end, and its bytes are an accepted world file of this world.
abbrev pub ReadsWorld : Option (List ℕ) → Option (List ℕ) → World → Type 0
ReadsWorld old new world = (bytes : List ℕ) × GaveAll old new bytes × WorldForm bytes world

-- A world file with this fault was read: to its end, or one byte past 64 MiB.
abbrev pub ReadsFault : Option (List ℕ) → Option (List ℕ) → WorldFault → Type 0
ReadsFault old new faults.TooLong = Gave old new (2 ^ 26 + 1)
ReadsFault old new faults.Memory = ⊥
ReadsFault old new fault = (bytes : List ℕ) × GaveAll old new bytes × HasFault bytes fault

-- The source was read to its end, and its bytes are a stream of these uploads, of 256 MiB at most.
abbrev pub ReadsUploads : Option (List ℕ) → Option (List ℕ) → List Upload → Type 0
ReadsUploads old new stream =
    (bytes : List ℕ) × GaveAll old new bytes × (length bytes ≤ 2 ^ 28) × UploadList bytes stream

-- A stream with a bad entry, the first at this place, was read to its end; or one byte past 256 MiB, whatever
-- its entries are.
abbrev pub ReadsBad : Option (List ℕ) → Option (List ℕ) → ℕ → Type 0
ReadsBad old new at =
    ((bytes : List ℕ) × GaveAll old new bytes × (length bytes ≤ 2 ^ 28) × IsFirstBad bytes at)
    ⊎ ((at ≡ 2 ^ 28) × Gave old new (2 ^ 28 + 1))

-- ---- what is on the disk

-- Where the disk told its bytes, nothing was ever committed on it, and there is no record; or a journal of
-- this world stood there with these records.
abbrev pub Stood : Option (List ℕ) → Stored → List TickRecord → Type 0
Stood None base entries = ⊤
Stood (Some bytes) base entries = (IsEmpty bytes × (entries ≡ [])) ⊎ IsJournal base entries bytes

-- The disk is as it was, where it tells; or a journal stood there and stands there still, and what followed
-- it may be cut off.
abbrev pub IsKept : Option (List ℕ) → Option (List ℕ) → Type 0
IsKept old new = (new ≡ old) ⊎ ((base : Stored) × (entries : List TickRecord)
    × IfSome old (IsJournal base entries) × IfSome new (IsJournal base entries))

-- A journal of another world stands on the disk: its base content differs from the file's, first at the
-- place.
pub record HasOther (at : ℕ) (kept given : Option ℕ) (world : World) (bytes : List ℕ) : Type 0 where
  pub base : Stored
  pub entries : List TickRecord
  pub is : IsJournal base entries bytes
  pub contents : DifferAt at kept given (base_content base) (base_content (listed world))

-- ---- how far a run came, by its status

-- It found words of a run.
abbrev pub IsPastWords : Status → Type 0
IsPastWords statuses.Usage = ⊥
IsPastWords statuses.Memory = ⊥
IsPastWords status = Unit {0}

-- ---- what a run leaves

-- These bytes were appended, and a part of those that come next.
abbrev pub AppendsPart : Option (List ℕ) → Option (List ℕ) → List ℕ → List ℕ → Type 0
AppendsPart old new whole next = (count : ℕ) × Appends old new (whole ++ take count next)
