-- How a run ends, by its status.
use Rattle.std.specs.Prelude.{◌≡◌, ◌≢◌, ℕ, suc, ◌^◌, ◌≤◌, ◌⊎◌, List, [], ◌∷◌, ◌++◌, length, Option, Some}
use Rattle.std.specs.Prelude.{IfSome}
use Rattle.std.specs.Io.KnownBytes.{Appends}
use Rattle.world_io.specs.Causes.{Rose}
use Rattle.frame_log.specs.Frames.{IsEmpty}
use Rattle.object_store.specs.Stored.{Stored}
use Rattle.world_io.specs.Moments.{IsLeftNow, LeavesNow, LeavesSince, Moment, Rests}
use Rattle.world_io.specs.Told.{AppendsPrefix}
use Rattle.world_rules.specs.World.{World}
use Rattle.world_form.specs.Files.{WorldForm}
use Rattle.upload_stream.specs.Streams.{Upload, UploadList}
use Rattle.tick_journal.specs.declared.tick_record.TickRecord.{TickRecord}
use Rattle.world_journal.specs.Faults.{FailsAt}
use Rattle.world_journal.specs.Journals.{IsJournal, IsQuiet, IsWholeJournal}
use Rattle.run_lines.specs.Lines.{start_line}
use Rattle.world_replay.specs.Listed.{listed}
use Rattle.command_words.specs.Words.{AreRunBy, Asks, AsksAtLeast}
use Rattle.world_replay.specs.Serials.{IsExhausted}
use Rattle.world_run.specs.Runs.{Step, Follow, last_of, output, recorded_of, resumed, step_lines}
use Rattle.world_run.specs.Runs.{AppendsPart, ReadsWorld, ReadsFault, ReadsUploads, ReadsBad, HasOther}
use Rattle.world_run.specs.Runs.{IsKept, Stood}
use Rattle.world_run.specs.Images.{HasAtLeast, IsOpening}
use Rattle.run_status.specs.declared.status.Status.{Status}
use Rattle.run_status.specs.declared.status.Status.TheVariants as statuses

-- What a run works on: what its two sources have left, what its sink was given and the bytes of its disk,
-- where they tell, and the counts of the faults of each.
pub record Outside : Type 0 where
  pub world : Option (List ℕ)
  pub uploads : Option (List ℕ)
  pub written : Option (List ℕ)
  pub disk : Option (List ℕ)
  pub moments : List Moment
  pub world_faults : ℕ
  pub uploads_faults : ℕ
  pub sink_faults : ℕ
  pub disk_faults : ℕ

-- The sink was given the opening line, the lines of all steps but the last, and a part of those of the last;
-- or only a part of the opening line, where there is no step.
abbrev pub CutsLast : Option (List ℕ) → Option (List ℕ) → World → List Step → Type 0
CutsLast old new first [] = AppendsPrefix old new (start_line (listed first))
CutsLast old new first steps =
    (earlier : List Step) × (last : Step) × (steps ≡ earlier ++ last ∷ [])
    × AppendsPart old new (output first earlier) (step_lines last)

-- Of the most workers that a call takes, of its words, and of what is outside before and after it:
module _ (most : ℕ) (words : List (List ℕ)) (old new : Outside) where
  abbrev pub AcceptsWorld : Type 0
  AcceptsWorld = (world : World) × ReadsWorld old.world new.world world

  abbrev pub AcceptsUploads : Type 0
  AcceptsUploads = (stream : List Upload) × ReadsUploads old.uploads new.uploads stream

  -- Neither the disk nor the sink was changed.
  abbrev pub IsUntouched : Type 0
  IsUntouched = (new.disk ≡ old.disk) × (new.written ≡ old.written)

  -- Nothing was printed, and the disk is as it was, but for what followed a journal that stands there.
  pub record IsUnprinted : Type 0 where
    pub disk : IsKept old.disk new.disk
    pub sink : new.written ≡ old.written

  -- The inputs are a world and uploads; a journal of the world stood on the disk with these records, or none
  -- was there; and these are ticks behind them.
  pub record Makes (first : World) (stream : List Upload) (entries : List TickRecord)
      (steps : List Step) : Type 0 where
    pub world : ReadsWorld old.world new.world first
    pub uploads : ReadsUploads old.uploads new.uploads stream
    pub stood : Stood old.disk (listed first) entries
    pub follow : Follow stream (resumed (listed first) entries) steps

  -- The disk has the journal of the world, with those records and the steps' behind them, and nothing more.
  abbrev pub Keeps : World → List TickRecord → List Step → Type 0
  Keeps first entries steps = IfSome new.disk (IsWholeJournal (listed first) (entries ++ recorded_of steps))

  -- the world that the run starts from
  abbrev pub start_of : World → List TickRecord → World
  start_of first entries = (resumed (listed first) entries).world

  -- The disk has their journal, and the sink was given their lines.
  pub record Leaves (first : World) (stream : List Upload) (entries : List TickRecord)
      (steps : List Step) : Type 0 where
    pub makes : Makes first stream entries steps
    pub journal_is : Keeps first entries steps
    pub output_is : Appends old.written new.written (output (start_of first entries) steps)

  -- The same, but that the sink was given only a part of the last lines.
  pub record LeavesPart (first : World) (stream : List Upload) (entries : List TickRecord)
      (steps : List Step) : Type 0 where
    pub makes : Makes first stream entries steps
    pub journal_is : Keeps first entries steps
    pub output_is : CutsLast old.written new.written (start_of first entries) steps

  -- Some ticks were made of a world, of uploads and of a journal, of which this is known.
  abbrev pub Some_made : (World → List Upload → List TickRecord → List Step → Type 0) → Type 0
  Some_made Known = (first : World) × (stream : List Upload) × (entries : List TickRecord)
      × (steps : List Step) × Known first stream entries steps

  -- At least so many ticks were asked for.
  abbrev pub Asked : List Step → Type 0
  Asked steps = AsksAtLeast most words (length steps)

  -- A run ends with this status.
  abbrev pub Ends : Status → Type 0
  -- All was done: the journal has the file's world, the records that it had, and one for each tick, with what
  -- each player's module emits of what he sees; and their lines were printed.
  Ends statuses.Done =
      Some_made (λ first stream entries steps. Asks most words (length steps)
      × Leaves first stream entries steps)
  -- The words are not those of a run; nothing was read.
  Ends statuses.Usage =
      (AreRunBy most words → ⊥) × IsUntouched × (new.world ≡ old.world) × (new.uploads ≡ old.uploads)
  -- The world file has this fault; the uploads were not read.
  Ends (statuses.World fault) =
      AreRunBy most words × ReadsFault old.world new.world fault × IsUntouched × (new.uploads ≡ old.uploads)
  -- The stream of uploads has its first bad entry there.
  Ends (statuses.Uploads at) =
      AreRunBy most words × AcceptsWorld × ReadsBad old.uploads new.uploads at × IsUntouched
  -- A source failed: that of the world file, or that of the uploads behind an accepted world file.
  Ends statuses.ReadFault =
      AreRunBy most words
      × ((Rose old.world_faults new.world_faults × (new.uploads ≡ old.uploads))
      ⊎ (Rose old.uploads_faults new.uploads_faults × AcceptsWorld))
      × IsUntouched
  -- The disk has bytes that are no journal: the frame behind the gate at the place is the first that fails.
  Ends (statuses.NotAJournal at) =
      AreRunBy most words × AcceptsWorld × AcceptsUploads × IfSome old.disk (FailsAt at) × IsUntouched
  -- The journal on the disk begins with another world than the file's.
  Ends (statuses.OtherWorld at kept given) =
      AreRunBy most words × AcceptsUploads
      × ((first : World) × ReadsWorld old.world new.world first
      × IfSome old.disk (HasOther at kept given first))
      × IsUnprinted
  -- The disk failed: nothing was printed, or the lines of some ticks. What it holds then is told apart.
  Ends statuses.DiskFault =
      AreRunBy most words × AcceptsWorld × AcceptsUploads × Rose old.disk_faults new.disk_faults
      × ((new.written ≡ old.written) ⊎ Some_made (λ first stream entries steps. Asked steps
      × Makes first stream entries steps
      × Appends old.written new.written (output (start_of first entries) steps)))
  -- The sink failed: the journal has whole ticks, and only the last lines are cut.
  Ends statuses.WriteFault =
      Rose old.sink_faults new.sink_faults
      × Some_made (λ first stream entries steps. Asked steps × LeavesPart first stream entries steps)
  -- Before a further tick this room is the first whose serials are used up; all ticks before it were done.
  Ends (statuses.IdsExhausted index) =
      Some_made (λ first stream entries steps. AsksAtLeast most words (suc (length steps))
      × Leaves first stream entries steps
      × IsExhausted (last_of (resumed (listed first) entries) steps).world index)
  -- Memory was wanted: before anything was printed, or behind some ticks, which were done.
  Ends statuses.Memory =
      IsUnprinted ⊎ Some_made (λ first stream entries steps. Asked steps × Leaves first stream entries steps)
  Ends (statuses.Refused refusal) = ⊥
  Ends (statuses.NoSuchTick first last) = ⊥
  Ends (statuses.Differs tick room at kept ruled) = ⊥
  Ends statuses.NoJournal = ⊥

  -- No failure is passed over: a count stays but where its fault is answered, and none falls.
  pub record IsSteady (status : Status) : Type 0 where
    pub read : status ≢ statuses.ReadFault → (new.world_faults ≡ old.world_faults)
        × (new.uploads_faults ≡ old.uploads_faults)
    pub written : status ≢ statuses.WriteFault → new.sink_faults ≡ old.sink_faults
    pub disk : status ≢ statuses.DiskFault → new.disk_faults ≡ old.disk_faults
    pub world_later : old.world_faults ≤ new.world_faults
    pub uploads_later : old.uploads_faults ≤ new.uploads_faults
    pub sink_later : old.sink_faults ≤ new.sink_faults
    pub disk_later : old.disk_faults ≤ new.disk_faults

  -- Words of a run, good inputs, and a disk that is empty or has a journal of the world, of which none fails.
  pub record IsGood : Type 0 where
    pub run : AreRunBy most words
    pub world_bytes : List ℕ
    pub world_left : old.world ≡ Some world_bytes
    pub world : World
    pub form : WorldForm world_bytes world
    pub stream_bytes : List ℕ
    pub stream_left : old.uploads ≡ Some stream_bytes
    pub short : length stream_bytes ≤ 2 ^ 28
    pub stream : List Upload
    pub list : UploadList stream_bytes stream
    pub disk_bytes : List ℕ
    pub told : old.disk ≡ Some disk_bytes
    pub entries : List TickRecord
    pub stood : Stood old.disk (listed world) entries
    pub world_holds : Rose old.world_faults new.world_faults → ⊥
    pub uploads_hold : Rose old.uploads_faults new.uploads_faults → ⊥
    pub sink_holds : Rose old.sink_faults new.sink_faults → ⊥
    pub disk_holds : Rose old.disk_faults new.disk_faults → ⊥

  -- All was done, or memory was wanted, or serials are used up.
  abbrev pub IsWhole : Status → Type 0
  IsWhole status =
      (status ≡ statuses.Done) ⊎ (status ≡ statuses.Memory)
      ⊎ ((index : ℕ) × (status ≡ statuses.IdsExhausted index))

  -- On the disk with these bytes stood a journal of this world and these records; or nothing, and the world
  -- is the file's.
  abbrev pub Began : World → List ℕ → Stored → List TickRecord → Type 0
  Began first bytes base entries =
      (IsEmpty bytes × (base ≡ listed first) × (entries ≡ [])) ⊎ IsJournal base entries bytes

  -- Ticks that were asked for were made behind the records that stood, also one whose record failed on the
  -- disk. At each moment until the journal was opened a crash leaves what stood, or the journal of the world
  -- alone where nothing did; and at each moment from then on what stood and the records of the first of the
  -- ticks. If anything was printed, a crash at the end leaves at least the records of all ticks of which a
  -- byte was printed.
  pub record Outlasts (stream : List Upload) (bytes : List ℕ) (base : Stored) (entries : List TickRecord)
      : Type 0 where
    pub steps : List Step
    pub begun : List Step
    pub rest : List Step
    pub ordered : steps ≡ begun ++ rest
    pub asked : Asked steps
    pub follow : Follow stream (resumed base entries) steps
    pub opened : List Moment
    pub opening : LeavesSince (IsOpening bytes base entries) old.moments opened
    pub lasting : LeavesSince (HasAtLeast 0 base entries (recorded_of steps)) opened new.moments
    pub printed : (new.written ≡ old.written)
        ⊎ (AppendsPrefix old.written new.written (output (resumed base entries).world begun)
        × LeavesNow (HasAtLeast (length begun) base entries (recorded_of steps)) new.moments)

  -- With any status, from a disk that rests: the disk was not changed and nothing printed; or the inputs were
  -- accepted, and what stood and the ticks outlast a crash.
  abbrev pub Outlives : Type 0
  Outlives = (bytes : List ℕ) → Rests bytes old.disk old.moments
      → ((new.moments ≡ old.moments) × IsUntouched)
      ⊎ ((first : World) × (stream : List Upload) × ReadsWorld old.world new.world first
      × ReadsUploads old.uploads new.uploads stream
      × ((base : Stored) (entries : List TickRecord) → Began first bytes base entries
      → Outlasts stream bytes base entries))

  -- A run ends so: as its status says; what it made outlasts a crash, and what a read gives at the end is one
  -- of the images that a crash may leave then, with every status but that of a failed disk the only one; with
  -- good inputs and no fault it is whole; and no failure is passed over.
  pub record Runs (status : Status) : Type 0 where
    pub ends : Ends status
    pub outlives : Outlives
    pub read_too : IsLeftNow new.disk new.moments
    pub rests : status ≢ statuses.DiskFault → IsQuiet new.disk new.moments
    pub whole : IsGood → IsWhole status
    pub steady : IsSteady status
