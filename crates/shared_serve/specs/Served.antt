-- How the serving of a world ends, by its status.
use Rattle.std.specs.Prelude.{◌≡◌, ◌≢◌, ℕ, suc, ◌≤◌, ◌⊎◌, List, [], ◌++◌, length, map, Option, Some, IfSome}
use Rattle.std.specs.List.{flat_map}
use Rattle.command_words.specs.Words.{AreServe, AsksToServe, AsksToServeAtLeast}
use Rattle.frame_log.specs.Frames.{IsEmpty}
use Rattle.object_store.specs.Stored.{Stored}
use Rattle.run_status.specs.declared.status.Status.{Status}
use Rattle.run_status.specs.declared.status.Status.TheVariants as statuses
use Rattle.served_ticks.specs.Given.{kept_sender, recorded_sender}
use Rattle.tick_journal.specs.declared.tick_record.TickRecord.{TickRecord}
use Rattle.upload_stream.specs.Streams.{Upload}
use Rattle.world_form.specs.Files.{WorldForm}
use Rattle.world_io.specs.Causes.{Rose}
use Rattle.world_io.specs.Moments.{IsLeftNow, LeavesSince, Moment, Rests}
use Rattle.world_journal.specs.Faults.{FailsAt}
use Rattle.world_journal.specs.Journals.{IsJournal, IsQuiet, IsWholeJournal}
use Rattle.world_replay.specs.Listed.{listed}
use Rattle.world_replay.specs.Serials.{IsExhausted}
use Rattle.world_rules.specs.World.{World}
use Rattle.world_run.specs.Images.{HasAtLeast, IsOpening}
use Rattle.world_run.specs.Runs.{Follow, HasOther, IsKept, ReadsFault, ReadsWorld, Step, Stood, last_of}
use Rattle.world_run.specs.Runs.{recorded_of, resumed}

-- What a world is served over: what its source has left, the bytes of its disk and its moments, where they
-- tell, and the counts of the faults of each.
pub record Outside : Type 0 where
  pub world : Option (List ℕ)
  pub disk : Option (List ℕ)
  pub moments : List Moment
  pub world_faults : ℕ
  pub disk_faults : ℕ

-- Of its words, and of what is outside before and after it:
module _ (words : List (List ℕ)) (old new : Outside) where
  abbrev pub AcceptsWorld : Type 0
  AcceptsWorld = (world : World) × ReadsWorld old.world new.world world

  -- The input is a world; a journal of it stood on the disk with these records, or none was there; and these
  -- are ticks behind them, which took these uploads, and whose records have them, in order.
  pub record Makes (first : World) (entries : List TickRecord) (stream : List Upload) (steps : List Step)
      : Type 0 where
    pub world : ReadsWorld old.world new.world first
    pub stood : Stood old.disk (listed first) entries
    pub follow : Follow stream (resumed (listed first) entries) steps
    pub given : map recorded_sender (flat_map (λ (entry : TickRecord). entry.uploads) (recorded_of steps))
        ≡ map kept_sender stream

  -- The disk has the journal of the world, with those records and the steps' behind them, and nothing more.
  abbrev pub Keeps : World → List TickRecord → List Step → Type 0
  Keeps first entries steps = IfSome new.disk (IsWholeJournal (listed first) (entries ++ recorded_of steps))

  -- Some ticks were made and recorded, of which this is known.
  abbrev pub Some_made : (World → List TickRecord → List Step → Type 0) → Type 0
  Some_made Known = (first : World) × (entries : List TickRecord) × (stream : List Upload)
      × (steps : List Step) × Makes first entries stream steps × Keeps first entries steps
      × Known first entries steps

  -- Serving ends with this status.
  abbrev pub Ends : Status → Type 0
  -- All ticks were made: the journal has the file's world, the records that it had, and one for each tick.
  Ends statuses.Done = Some_made (λ first entries steps. AsksToServe words (length steps))
  -- The words are not those of serving; nothing was read.
  Ends statuses.Usage = (AreServe words → ⊥) × (new.disk ≡ old.disk) × (new.world ≡ old.world)
  -- The world file has this fault.
  Ends (statuses.World fault) =
      AreServe words × ReadsFault old.world new.world fault × (new.disk ≡ old.disk)
  -- The source of the world file failed.
  Ends statuses.ReadFault =
      AreServe words × Rose old.world_faults new.world_faults × (new.disk ≡ old.disk)
  -- The disk has bytes that are no journal: the frame behind the gate at the place is the first that fails.
  Ends (statuses.NotAJournal at) =
      AreServe words × AcceptsWorld × IfSome old.disk (FailsAt at) × (new.disk ≡ old.disk)
  -- The journal on the disk begins with another world than the file's.
  Ends (statuses.OtherWorld at kept given) =
      AreServe words × ((first : World) × ReadsWorld old.world new.world first
      × IfSome old.disk (HasOther at kept given first)) × IsKept old.disk new.disk
  -- The disk failed. What it holds then is told apart.
  Ends statuses.DiskFault = AreServe words × AcceptsWorld × Rose old.disk_faults new.disk_faults
  -- Before a further tick this room is the first whose serials are used up; all ticks before it were done.
  Ends (statuses.IdsExhausted index) =
      Some_made (λ first entries steps. AsksToServeAtLeast words (suc (length steps))
      × IsExhausted (last_of (resumed (listed first) entries) steps).world index)
  -- Memory was wanted: before a tick was made, or behind some ticks, which were recorded.
  Ends statuses.Memory =
      IsKept old.disk new.disk ⊎ Some_made (λ first entries steps. AsksToServeAtLeast words (length steps))
  Ends status = ⊥

  -- No failure is passed over: a count stays but where its fault is answered, and none falls.
  pub record IsSteady (status : Status) : Type 0 where
    pub read : status ≢ statuses.ReadFault → new.world_faults ≡ old.world_faults
    pub disk : status ≢ statuses.DiskFault → new.disk_faults ≡ old.disk_faults
    pub world_later : old.world_faults ≤ new.world_faults
    pub disk_later : old.disk_faults ≤ new.disk_faults

  -- Words of serving, a good world file, and a disk that is empty or has a journal of the world, of which
  -- none fails.
  pub record IsGood : Type 0 where
    pub serve : AreServe words
    pub world_bytes : List ℕ
    pub world_left : old.world ≡ Some world_bytes
    pub world : World
    pub form : WorldForm world_bytes world
    pub disk_bytes : List ℕ
    pub told : old.disk ≡ Some disk_bytes
    pub entries : List TickRecord
    pub stood : Stood old.disk (listed world) entries
    pub world_holds : Rose old.world_faults new.world_faults → ⊥
    pub disk_holds : Rose old.disk_faults new.disk_faults → ⊥

  -- All was done, or memory was wanted, or serials are used up.
  abbrev pub IsWhole : Status → Type 0
  IsWhole status =
      (status ≡ statuses.Done) ⊎ (status ≡ statuses.Memory)
      ⊎ ((index : ℕ) × (status ≡ statuses.IdsExhausted index))

  -- On the disk with these bytes stood a journal of this world and these records; or nothing, and the world
  -- is the file's.
  abbrev pub Began : World → List ℕ → Stored → List TickRecord → Type 0
  Began first bytes base entries =
      (IsEmpty bytes × (base ≡ listed first) × (entries ≡ [])) ⊎ IsJournal base entries bytes

  -- Ticks that were asked for were made and recorded behind the records that stood, and maybe one more, whose
  -- record failed on the disk. At each moment until the journal was opened a crash leaves what stood, or the
  -- journal of the world alone where nothing did; and at each moment from then on what stood and the records
  -- of the first of the ticks.
  pub record Outlasts (bytes : List ℕ) (base : Stored) (entries : List TickRecord) : Type 0 where
    pub stream : List Upload
    pub steps : List Step
    pub more : List Step
    pub few : length more ≤ 1
    pub asked : AsksToServeAtLeast words (length steps)
    pub follow : Follow stream (resumed base entries) (steps ++ more)
    pub opened : List Moment
    pub opening : LeavesSince (IsOpening bytes base entries) old.moments opened
    pub lasting : LeavesSince (HasAtLeast 0 base entries (recorded_of (steps ++ more))) opened new.moments

  -- With any status, from a disk that rests: the disk was not changed; or the world was accepted, and what
  -- stood and the ticks outlast a crash.
  abbrev pub Outlives : Type 0
  Outlives = (bytes : List ℕ) → Rests bytes old.disk old.moments
      → ((new.moments ≡ old.moments) × (new.disk ≡ old.disk))
      ⊎ ((first : World) × ReadsWorld old.world new.world first
      × ((base : Stored) (entries : List TickRecord) → Began first bytes base entries
      → Outlasts bytes base entries))

  -- A world is served so: as its status says; what was made outlasts a crash, and what a read gives at the
  -- end is one of the images that a crash may leave then, with every status but that of a failed disk the
  -- only one; with good inputs and no fault it is whole; and no failure is passed over.
  pub record Serves (status : Status) : Type 0 where
    pub ends : Ends status
    pub outlives : Outlives
    pub read_too : IsLeftNow new.disk new.moments
    pub rests : status ≢ statuses.DiskFault → IsQuiet new.disk new.moments
    pub whole : IsGood → IsWhole status
    pub steady : IsSteady status
