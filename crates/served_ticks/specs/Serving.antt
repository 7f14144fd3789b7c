-- What serving ticks makes.
use Rattle.std.specs.Prelude.{◌≡◌, ◌≢◌, ℕ, ◌<◌, ◌≤◌, List, [], ◌∷◌, ◌++◌, length, map, Option, IfSome}
use Rattle.std.specs.List.{flat_map}
use Rattle.object_store.specs.Stored.{Stored}
use Rattle.run_status.specs.declared.status.Status.{Status}
use Rattle.run_status.specs.declared.status.Status.TheVariants as statuses
use Rattle.tick_journal.specs.declared.tick_record.TickRecord.{TickRecord}
use Rattle.upload_stream.specs.Streams.{Upload}
use Rattle.world_hub.specs.declared.queue.Hand.{Hand}
use Rattle.world_hub.specs.declared.queue.Marked.{Marked}
use Rattle.world_hub.specs.declared.status.Sight.{Sight}
use Rattle.world_hub.specs.declared.summary.Summary.{Summary}
use Rattle.world_io.specs.Causes.{Rose}
use Rattle.world_io.specs.Moments.{LeavesNow, LeavesSince, Moment}
use Rattle.world_journal.specs.Journals.{HasJournal, IsQuiet, IsWholeJournal}
use Rattle.world_replay.specs.Listed.{listed}
use Rattle.world_replay.specs.Serials.{IsExhausted}
use Rattle.world_run.specs.Images.{HasAtLeast}
use Rattle.world_run.specs.Runs.{Follow, Step, last_of, recorded_of, resumed}
use Rattle.served_ticks.specs.Given.{kept_sender, recorded_sender, sender, told_sender}
use Rattle.served_ticks.specs.Summaries.{IsSummaryOf}

-- What ticks are served over: the bytes of the disk and its moments, where they are told, and the count of its
-- faults; what the ticker has taken, and what it has published.
pub record Around : Type 0 where
  pub disk : Option (List ℕ)
  pub moments : List Moment
  pub faults : ℕ
  pub hand : Hand
  pub sight : Sight

-- Each summary is that of the world after one of the steps, whose records stand behind those of the journal.
abbrev pub AreSummaries : List TickRecord → List Step → List Summary → Type 0
AreSummaries entries [] summaries = summaries ≡ []
AreSummaries entries (step ∷ later) [] = ⊥
AreSummaries entries (step ∷ later) (summary ∷ more) =
    IsSummaryOf (entries ++ step.recorded ∷ []) (listed step.after.world) summary
    × AreSummaries (entries ++ step.recorded ∷ []) later more

-- Of a journal's world and records, of its closed gate, the number of ticks, and what is around before and
-- after:
module _ (base : Stored) (entries : List TickRecord) (gate ticks : ℕ) (old new : Around) where
  -- The ticker took these uploads, one after the other.
  pub record Takes (uploads : List Upload) : Type 0 where
    pub marked : List Marked
    pub taken : new.hand.taken ≡ old.hand.taken ++ marked
    pub same : map (λ (m : Marked). sender m.upload) marked ≡ map told_sender uploads

  -- Ticks were made behind the journal's records, which took these uploads; and their records have them, in
  -- order.
  pub record Makes (stream : List Upload) (steps : List Step) : Type 0 where
    pub follow : Follow stream (resumed base entries) steps
    pub given : map recorded_sender (flat_map (λ (entry : TickRecord). entry.uploads) (recorded_of steps))
        ≡ map kept_sender stream

  -- At each moment a crash leaves the journal and the records of the first of these ticks, and at the end at
  -- least so many.
  pub record Lasts (steps : List Step) (least : ℕ) : Type 0 where
    pub each : LeavesSince (HasAtLeast 0 base entries (recorded_of steps)) old.moments new.moments
    pub now : LeavesNow (HasAtLeast least base entries (recorded_of steps)) new.moments

  -- The ticks end with this status: of these that were recorded, those that were not told, and the uploads
  -- that a further tick took.
  abbrev pub Ends : List Step → List Step → List Upload → Status → Type 0
  -- All ticks were made and told.
  Ends steps untold rest statuses.Done = (length steps ≡ ticks) × (untold ≡ []) × (rest ≡ [])
  -- Before a further tick this room is the first whose serials are used up.
  Ends steps untold rest (statuses.IdsExhausted index) =
      (length steps < ticks) × (untold ≡ []) × IsExhausted (last_of (resumed base entries) steps).world index
  -- The disk failed.
  Ends steps untold rest statuses.DiskFault =
      (length steps < ticks) × (untold ≡ []) × Rose old.faults new.faults
  -- Memory was wanted.
  Ends steps untold rest statuses.Memory = (length steps ≤ ticks) × (length untold ≤ 1)
  Ends steps untold rest status = ⊥

  -- Ticks were served so.
  pub record Serves (status : Status) : Type 0 where
    pub stream : List Upload
    pub steps : List Step
    pub makes : Makes stream steps
    pub rest : List Upload
    pub takes : Takes (stream ++ rest)
    pub told : List Step
    pub untold : List Step
    pub split : steps ≡ told ++ untold
    pub summaries : List Summary
    pub are : AreSummaries entries told summaries
    pub published : new.sight.published ≡ old.sight.published ++ summaries
    pub ends : Ends steps untold rest status
    pub journal : status ≢ statuses.DiskFault
        → IfSome new.disk (IsWholeJournal base (entries ++ recorded_of steps))
    pub quiet : status ≢ statuses.DiskFault → IsQuiet new.disk new.moments
    -- what outlasts a crash: the ticks that were recorded, and maybe one more, whose recording failed
    pub more : List Step
    pub few : length more ≤ 1
    pub further : Follow (stream ++ rest) (resumed base entries) (steps ++ more)
    pub lasts : HasJournal base entries gate old.disk old.moments → Lasts (steps ++ more) (length steps)
    pub steady : status ≢ statuses.DiskFault → new.faults ≡ old.faults
    pub later : old.faults ≤ new.faults
