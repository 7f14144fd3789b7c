-- With which statuses each stage can end a run, and what the ticks leave.
use Rattle.std.specs.Prelude.{◌≡◌, ℕ, List, [], ◌∷◌, ◌++◌, Option, IfSome}
use Rattle.std.specs.List.{flat_map}
use Rattle.std.specs.Io.KnownBytes.{Appends}
use Rattle.upload_stream.specs.Streams.{Upload}
use Rattle.hosted_tick.specs.Hosting.{Held}
use Rattle.world_form.specs.declared.fault.WorldFault.{WorldFault}
use Rattle.world_form.specs.declared.fault.WorldFault.TheVariants as faults
use Rattle.world_run.specs.Runs.{AppendsPart}
use Rattle.object_store.specs.Stored.{Stored}
use Rattle.tick_journal.specs.declared.tick_record.TickRecord.{TickRecord}
use Rattle.world_io.specs.Moments.{Moment}
use Rattle.world_journal.specs.Journals.{IsWholeJournal}
use Rattle.world_run.specs.declared.kept.Kept.{Kept}
use Rattle.world_run.specs.inner.Held.{Follow, IsKeptAt, Step, recorded_of, step_lines}
use Rattle.run_status.specs.declared.status.Status.{Status}
use Rattle.run_status.specs.declared.status.Status.TheVariants as statuses

-- ---- how far a run came, by its status

-- A run can end so: only a check refuses a module, only a show looks for a tick, and only a replay rules one
-- again.
abbrev pub IsOfRun : Status → Type 0
IsOfRun (statuses.Refused refusal) = ⊥
IsOfRun (statuses.NoSuchTick first last) = ⊥
IsOfRun (statuses.Differs tick room at kept ruled) = ⊥
IsOfRun statuses.NoJournal = ⊥
IsOfRun status = Unit {0}

-- It accepted the world file.
abbrev pub IsPastWorld : Status → Type 0
IsPastWorld (statuses.Uploads at) = Unit {0}
IsPastWorld (statuses.NotAJournal at) = Unit {0}
IsPastWorld (statuses.OtherWorld at kept given) = Unit {0}
IsPastWorld (statuses.IdsExhausted index) = Unit {0}
IsPastWorld statuses.DiskFault = Unit {0}
IsPastWorld statuses.WriteFault = Unit {0}
IsPastWorld statuses.Done = Unit {0}
IsPastWorld status = ⊥

-- It accepted the upload stream.
abbrev pub IsPastUploads : Status → Type 0
IsPastUploads (statuses.NotAJournal at) = Unit {0}
IsPastUploads (statuses.OtherWorld at kept given) = Unit {0}
IsPastUploads (statuses.IdsExhausted index) = Unit {0}
IsPastUploads statuses.DiskFault = Unit {0}
IsPastUploads statuses.WriteFault = Unit {0}
IsPastUploads statuses.Done = Unit {0}
IsPastUploads status = ⊥

-- It ended before it looked at the disk.
abbrev pub IsBeforeJournal : Status → Type 0
IsBeforeJournal statuses.Usage = Unit {0}
IsBeforeJournal (statuses.World fault) = Unit {0}
IsBeforeJournal (statuses.Uploads at) = Unit {0}
IsBeforeJournal statuses.ReadFault = Unit {0}
IsBeforeJournal status = ⊥

-- ---- how each stage ends

-- The reading of the words can end a run so.
abbrev pub IsOfWords : Status → Type 0
IsOfWords statuses.Usage = Unit {0}
IsOfWords statuses.Memory = Unit {0}
IsOfWords status = ⊥

-- The reading of the world file can end a run so.
abbrev pub IsOfWorld : Status → Type 0
IsOfWorld (statuses.World fault) = Unit {0}
IsOfWorld statuses.ReadFault = Unit {0}
IsOfWorld statuses.Memory = Unit {0}
IsOfWorld status = ⊥

-- the status for a fault of the world file
abbrev pub status_of_fault : WorldFault → Status
status_of_fault faults.Memory = statuses.Memory
status_of_fault fault = statuses.World fault

-- The reading of the upload stream can end a run so.
abbrev pub IsOfUploads : Status → Type 0
IsOfUploads (statuses.Uploads at) = Unit {0}
IsOfUploads statuses.ReadFault = Unit {0}
IsOfUploads statuses.Memory = Unit {0}
IsOfUploads status = ⊥

-- The reading of the inputs can end a run so.
abbrev pub IsOfInputs : Status → Type 0
IsOfInputs statuses.Usage = Unit {0}
IsOfInputs (statuses.World fault) = Unit {0}
IsOfInputs (statuses.Uploads at) = Unit {0}
IsOfInputs statuses.ReadFault = Unit {0}
IsOfInputs statuses.Memory = Unit {0}
IsOfInputs status = ⊥

-- The making and recording of a tick can end a run so.
abbrev pub IsOfMaking : Status → Type 0
IsOfMaking (statuses.IdsExhausted index) = Unit {0}
IsOfMaking statuses.DiskFault = Unit {0}
IsOfMaking statuses.Memory = Unit {0}
IsOfMaking status = ⊥

-- The opening of the journal can end a run so.
abbrev pub IsOfOpening : Status → Type 0
IsOfOpening (statuses.NotAJournal at) = Unit {0}
IsOfOpening (statuses.OtherWorld at kept given) = Unit {0}
IsOfOpening statuses.DiskFault = Unit {0}
IsOfOpening statuses.Memory = Unit {0}
IsOfOpening status = ⊥

-- A tick can end a run so.
abbrev pub IsOfTick : Status → Type 0
IsOfTick (statuses.IdsExhausted index) = Unit {0}
IsOfTick statuses.DiskFault = Unit {0}
IsOfTick statuses.WriteFault = Unit {0}
IsOfTick statuses.Memory = Unit {0}
IsOfTick status = ⊥

-- The ticks can end a run so.
abbrev pub IsOfTicks : Status → Type 0
IsOfTicks statuses.Done = Unit {0}
IsOfTicks status = IsOfTick status

-- What comes after the inputs can end a run so.
abbrev pub IsOfJournal : Status → Type 0
IsOfJournal (statuses.NotAJournal at) = Unit {0}
IsOfJournal (statuses.OtherWorld at kept given) = Unit {0}
IsOfJournal status = IsOfTicks status

-- Each step is the tick after the world before it, and their lines came to the sink.
pub record Grows (sink_old sink_new : Option (List ℕ)) (stream : List Upload) (first : Held)
    (steps : List Step) : Type 0 where
  pub follow : Follow stream first steps
  pub lines : Appends sink_old sink_new (flat_map step_lines steps)

-- The same, but that only a part of the lines of the last step came to the sink.
pub record GrowsPart (sink_old sink_new : Option (List ℕ)) (stream : List Upload) (first : Held)
    (steps : List Step) : Type 0 where
  pub follow : Follow stream first steps
  pub earlier : List Step
  pub last : Step
  pub ordered : steps ≡ earlier ++ last ∷ []
  pub lines : AppendsPart sink_old sink_new (flat_map step_lines earlier) (step_lines last)

-- The records of the steps stand in the journal behind those that were there, where the disk tells.
abbrev pub Continues : Kept → Option (List ℕ) → List Moment → Option (List ℕ) → List Step → Type 0
Continues first seen moments seen_after steps = (base : Stored) (entries : List TickRecord)
    → IsKeptAt base entries first seen moments
    → IfSome seen_after (IsWholeJournal base (entries ++ recorded_of steps))
