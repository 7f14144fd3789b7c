-- What serving one tick makes, as worlds are held.
use Rattle.std.specs.Prelude.{◌≡◌, ◌≢◌, ℕ, ◌⊎◌, List, [], ◌∷◌, ◌++◌, false, map, Option}
use Rattle.std.specs.List.{AllByRecursion}
use Rattle.frame_log.specs.Frames.{IsLog}
use Rattle.hosted_tick.specs.Hosting.{IsHosted}
use Rattle.object_store.specs.Stored.{Stored}
use Rattle.recorded_tick.specs.Recording.{StandsAt}
use Rattle.run_status.specs.declared.status.Status.{Status}
use Rattle.run_status.specs.declared.status.Status.TheVariants as statuses
use Rattle.site_limit.specs.FewSites.{HaveFewSites}
use Rattle.tick_journal.specs.declared.entries.UploadEntry.{UploadEntry}
use Rattle.tick_journal.specs.declared.tick_record.TickRecord.{TickRecord}
use Rattle.upload_stream.specs.Streams.{Upload}
use Rattle.world_hub.specs.declared.queue.Hand.{Hand}
use Rattle.world_hub.specs.declared.queue.Marked.{Marked}
use Rattle.world_hub.specs.declared.status.Sight.{Sight}
use Rattle.world_hub.specs.declared.summary.Summary.{Summary}
use Rattle.world_io.specs.Moments.{Moment}
use Rattle.world_journal.specs.Recovering.{count_of}
use Rattle.world_replay.specs.Serials.{HasRunOut}
use Rattle.world_run.specs.declared.kept.Kept.{Kept}
use Rattle.world_run.specs.inner.Crashes.{Adds, Loses}
use Rattle.world_run.specs.inner.Held.{IsKeptAt}
use Rattle.served_ticks.specs.Given.{sender, told_sender}
use Rattle.served_ticks.specs.Summaries.{IsSummaryOf}
use Rattle.served_ticks.specs.declared.served.Served.{Served}

-- The counts are those of these records.
abbrev pub HasCounts : List TickRecord → Served → Type 0
HasCounts entries served = served.counts.items ≡ map (count_of entries) served.kept.hosted.world.accounts

-- A tick may be made of the world.
pub record MayGoOn (served : Served) (seen : Option (List ℕ)) (moments : List Moment) : Type 0 where
  pub hosted : IsHosted served.kept.hosted.world
  pub few : HaveFewSites served.kept.hosted.world
  pub recorder : StandsAt served.kept.recorder served.kept.hosted.world
  pub is_open : served.kept.journal.log.is_closed ≡ false
  pub log : IsLog served.kept.journal.log.gate seen moments

-- The uploads are for this tick.
abbrev pub AreOf : ℕ → List Upload → Type 0
AreOf tick uploads = AllByRecursion (λ (upload : Upload). upload.tick ≡ tick) uploads

-- The ticker took these uploads, which are for the world's tick.
pub record IsTaken (kept : Kept) (given : List Upload) (old new : Hand) : Type 0 where
  pub are : AreOf kept.hosted.world.tick given
  pub marked : List Marked
  pub taken : new.taken ≡ old.taken ++ marked
  pub same : map (λ (m : Marked). sender m.upload) marked ≡ map told_sender given

-- A tick with these uploads was made, recorded and told.
pub record IsServedOnce (given : List Upload) (first : Served) (seen : Option (List ℕ)) (moments : List Moment)
    (old : Sight) (next : Served) (after_seen : Option (List ℕ)) (later : List Moment) (new : Sight)
    : Type 0 where
  pub judged : List UploadEntry
  pub lines : List ℕ
  pub added : Adds given first.kept seen moments next.kept judged lines after_seen later
  pub counts : (base : Stored) (entries : List TickRecord) → IsKeptAt base entries first.kept seen moments
      → HasCounts entries first → HasCounts (entries ++ added.step.recorded ∷ []) next
  pub summary : Summary
  pub told : new.published ≡ old.published ++ summary ∷ []
  pub is : (base : Stored) (entries : List TickRecord) → IsKeptAt base entries first.kept seen moments
      → HasCounts entries first
      → IsSummaryOf (entries ++ added.step.recorded ∷ []) next.kept.hosted.world summary

-- A tick with these uploads was recorded, and not told for want of memory.
pub record IsUntold (given : List Upload) (kept : Kept) (seen : Option (List ℕ)) (moments : List Moment)
    (after_seen : Option (List ℕ)) (later : List Moment) (status : Status) : Type 0 where
  pub memory : status ≡ statuses.Memory
  pub next : Kept
  pub judged : List UploadEntry
  pub lines : List ℕ
  pub added : Adds given kept seen moments next judged lines after_seen later
  pub hosted : IsHosted next.hosted.world
  pub log : IsLog next.journal.log.gate after_seen later

-- No tick was recorded, but maybe where the disk failed: then a crash at each moment leaves the journal before
-- it or after it.
pub record IsUnmade (given : List Upload) (kept : Kept) (seen : Option (List ℕ)) (moments : List Moment)
    (after_seen : Option (List ℕ)) (later : List Moment) (status : Status) : Type 0 where
  pub same : status ≢ statuses.DiskFault → (after_seen ≡ seen) × (later ≡ moments)
  pub lost : (later ≡ moments) ⊎ Loses given kept seen moments later
  pub exhausted : (index : ℕ) → status ≡ statuses.IdsExhausted index → HasRunOut kept.hosted.world index

-- The tick ended with this status.
pub record IsStopped (given : List Upload) (kept : Kept) (seen : Option (List ℕ)) (moments : List Moment)
    (old : Sight) (after_seen : Option (List ℕ)) (later : List Moment) (new : Sight) (status : Status)
    : Type 0 where
  pub told : new.published ≡ old.published
  pub fate : IsUntold given kept seen moments after_seen later status
      ⊎ IsUnmade given kept seen moments after_seen later status
