-- What a crash at any moment of a run leaves of its disk.
use Rattle.std.specs.Prelude.{◌≡◌, ℕ, ◌≤◌, ◌⊎◌, List, [], ◌∷◌, ◌++◌, length, Option}
use Rattle.std.specs.List.{flat_map}
use Rattle.frame_log.specs.Frames.{IsEmpty}
use Rattle.object_store.specs.Stored.{Stored}
use Rattle.hosted_tick.specs.Hosting.{Held, IsHosted}
use Rattle.tick_journal.specs.BaseForms.{world_as_read}
use Rattle.tick_journal.specs.declared.tick_record.TickRecord.{TickRecord}
use Rattle.run_lines.specs.Lines.{upload_line}
use Rattle.upload_stream.specs.Streams.{Upload, uploads_at}
use Rattle.tick_journal.specs.declared.entries.UploadEntry.{UploadEntry}
use Rattle.world_io.specs.Moments.{LeavesNow, LeavesSince, Moment}
use Rattle.world_io.specs.Told.{AppendsPrefix}
use Rattle.world_journal.specs.Journals.{HasJournal, IsBeforeOrAfter, IsJournal}
use Rattle.world_rules.specs.Sound.{HaveSerials}
use Rattle.world_run.specs.declared.kept.Kept.{Kept}
use Rattle.world_run.specs.Images.{HasAtLeast, IsOpening}
use Rattle.world_run.specs.inner.Held.{Follow, IsAt, IsKeptAt, IsStep, Step, output, recorded_of, step_lines}

-- On the disk stood a journal of this world and these records; or nothing, and the world is the file's.
abbrev pub StoodAs : Stored → List ℕ → Stored → List TickRecord → Type 0
StoodAs world bytes base entries =
    (IsEmpty bytes × (base ≡ world_as_read world) × (entries ≡ [])) ⊎ IsJournal base entries bytes

-- ---- one tick

-- At each moment of the tick a crash leaves the journal before or after it.
abbrev pub Records : Kept → Option (List ℕ) → List Moment → List Moment → TickRecord → Type 0
Records kept seen moments later entry = (base : Stored) (entries : List TickRecord)
    → IsKeptAt base entries kept seen moments
    → HasJournal base entries kept.journal.log.gate seen moments
    → LeavesSince (IsBeforeOrAfter base entries entry) moments later

-- A crash now leaves the journal after it.
abbrev pub HasRecorded : Kept → Option (List ℕ) → List Moment → List Moment → TickRecord → Type 0
HasRecorded kept seen moments later entry = (base : Stored) (entries : List TickRecord)
    → IsKeptAt base entries kept seen moments
    → HasJournal base entries kept.journal.log.gate seen moments
    → LeavesNow (IsJournal base (entries ++ entry ∷ [])) later

-- A tick was made with these uploads, of which these are the results, and recorded: the world stands a tick
-- further at the end of its journal. At each moment a crash leaves the journal before it or after it.
pub record Adds (uploads : List Upload) (kept : Kept) (seen : Option (List ℕ)) (moments : List Moment)
    (next : Kept) (judged : List UploadEntry) (lines : List ℕ) (after_seen : Option (List ℕ))
    (later : List Moment) : Type 0 where
  pub step : Step
  pub after : step.after ≡ next.hosted
  pub is : (stream : List Upload) → uploads ≡ uploads_at kept.hosted.world.tick stream
      → IsStep stream kept.hosted step
  pub serials : HaveSerials kept.hosted.world.rooms
  pub results : step.uploads ≡ judged
  pub said : step_lines step ≡ flat_map upload_line judged ++ lines
  pub keeps : (base : Stored) (entries : List TickRecord) → IsKeptAt base entries kept seen moments
      → IsKeptAt base (entries ++ step.recorded ∷ []) next after_seen later
  pub each : Records kept seen moments later step.recorded
  pub has : (base : Stored) (entries : List TickRecord) → IsKeptAt base entries kept seen moments
      → HasJournal base entries kept.journal.log.gate seen moments
      → HasJournal base (entries ++ step.recorded ∷ []) next.journal.log.gate after_seen later

-- A tick was made with these uploads, and its recording failed. At each moment a crash leaves the journal
-- before it or after it.
pub record Loses (uploads : List Upload) (kept : Kept) (seen : Option (List ℕ)) (moments later : List Moment)
    : Type 0 where
  pub step : Step
  pub is : (stream : List Upload) → uploads ≡ uploads_at kept.hosted.world.tick stream
      → IsStep stream kept.hosted step
  pub serials : HaveSerials kept.hosted.world.rooms
  pub hosted : IsHosted step.after.world
  pub each : Records kept seen moments later step.recorded

-- A tick was made and not done: no byte of it was printed, or it is recorded and a part of its lines was.
pub record IsCut (sink_old sink_new : Option (List ℕ)) (stream : List Upload) (kept : Kept)
    (seen : Option (List ℕ)) (moments later : List Moment) : Type 0 where
  pub step : Step
  pub serials : HaveSerials kept.hosted.world.rooms
  pub is : IsStep stream kept.hosted step
  pub hosted : IsHosted step.after.world
  pub each : Records kept seen moments later step.recorded
  pub printed : (sink_new ≡ sink_old)
      ⊎ (AppendsPrefix sink_old sink_new (step_lines step)
      × HasRecorded kept seen moments later step.recorded)

-- ---- ticks

-- At most so many ticks were made, and of the first of them something may have been printed. At each moment a
-- crash leaves the journal and the records of the first of the ticks, and now at least of those that were
-- begun to be printed.
pub record Lasts (sink_old sink_new : Option (List ℕ)) (stream : List Upload) (first : Kept) (ticks : ℕ)
    (seen : Option (List ℕ)) (moments later : List Moment) : Type 0 where
  pub steps : List Step
  pub begun : List Step
  pub rest : List Step
  pub ordered : steps ≡ begun ++ rest
  pub few : length steps ≤ ticks
  pub follow : Follow stream first.hosted steps
  pub lines : AppendsPrefix sink_old sink_new (flat_map step_lines begun)
  pub each : (base : Stored) (entries : List TickRecord) → IsKeptAt base entries first seen moments
      → HasJournal base entries first.journal.log.gate seen moments
      → LeavesSince (HasAtLeast 0 base entries (recorded_of steps)) moments later
      × LeavesNow (HasAtLeast (length begun) base entries (recorded_of steps)) later

-- ---- the whole

-- The ticks of a run, at most so many, from a disk that rested with these bytes, on which stood this journal.
-- First the journal is opened: until then a crash leaves what stood there, or the journal of the world alone
-- where nothing did. From then on it leaves the journal and the records of the first of the ticks; and at the
-- end, where anything was printed, at least of those of which a byte was printed.
pub record Outlasts (sink_old sink_new : Option (List ℕ)) (stream : List Upload) (bytes : List ℕ)
    (base : Stored) (entries : List TickRecord) (ticks : ℕ) (moments later : List Moment) : Type 0 where
  pub steps : List Step
  pub begun : List Step
  pub rest : List Step
  pub ordered : steps ≡ begun ++ rest
  pub few : length steps ≤ ticks
  pub opened : List Moment
  pub opening : LeavesSince (IsOpening bytes base entries) moments opened
  pub lasting : LeavesSince (HasAtLeast 0 base entries (recorded_of steps)) opened later
  pub printed : ((sink_new ≡ sink_old) × (steps ≡ []))
      ⊎ ((first : Held) × IsAt base entries first × Follow stream first steps
      × AppendsPrefix sink_old sink_new (output first.world begun)
      × LeavesNow (HasAtLeast (length begun) base entries (recorded_of steps)) later)
