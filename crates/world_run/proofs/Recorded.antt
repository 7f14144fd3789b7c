-- A world that is run, one tick further in its journal.
use Rattle.std.proofs.Common.{◌≡◌, ℕ, List, [], ◌∷◌, ◌++◌, Option, Some, None, IfSome, false, ap, sym, subst, ◌∙◌}
use Rattle.std.specs.FinMap.{empty}
use Rattle.frame_log.specs.Frames.{IsLog}
use Rattle.object_store.specs.Stored.{Stored}
use Rattle.tick_journal.specs.BaseForms.{world_as_read}
use Rattle.tick_journal.specs.TickForms.{tick_as_read}
use Rattle.tick_journal.specs.declared.tick_record.TickRecord.{TickRecord}
use Rattle.world_io.specs.Disk.{TellsAlike}
use Rattle.world_io.specs.Moments.{Moment}
use Rattle.site_limit.specs.FewSites.{HaveFewSites}
use Rattle.hosted_tick.specs.Hosting.{Held, IsHosted, state_of}
use Rattle.record_follows.specs.Courses.{modules_after, world_after}
use Rattle.record_follows.specs.Follows.{after}
use Rattle.record_follows.proofs.Steps.{world_after_one}
use Rattle.world_journal.specs.Journals.{HasJournal, IsWholeJournal, MayFollow}
use Rattle.world_journal.specs.declared.journal.Journal.{Journal}
use Rattle.recorded_tick.specs.Recording.{StandsAt}
use Rattle.recorded_tick.specs.declared.recorder.Recorder.{Recorder}
use Rattle.world_run.specs.declared.kept.Kept.{Kept}
use Rattle.world_run.specs.inner.Held.{IsAt, IsKeptAt}
use Rattle.world_run.proofs.RunsLists.{whole_of}

-- A disk tells after a call where it told before.
still_told : (Before After : Type 0) (seen after_seen : Option (List ℕ)) → TellsAlike seen after_seen → IfSome seen (λ bytes. Before) → (Before → After) → IfSome after_seen (λ bytes. After)
still_told Before After None None alike has done = tt
still_told Before After None (Some new) alike has done = absurd alike
still_told Before After (Some old) None alike has done = tt
still_told Before After (Some old) (Some new) alike has done = done has

pub may_follow : (base : Stored) (entries : List TickRecord) (kept : Kept) (entry : TickRecord) (seen : Option (List ℕ)) (moments : List Moment) → IsKeptAt base entries kept seen moments → MayFollow (world_as_read kept.hosted.world) entry → MayFollow (world_after base entries) entry
may_follow base entries kept entry seen moments start follows = subst (λ (w : Stored). MayFollow w entry) start.at_end.world follows

module _ (base : Stored) (entries : List TickRecord) (kept : Kept) (entry : TickRecord) (seen : Option (List ℕ)) (moments : List Moment) (start : IsKeptAt base entries kept seen moments) (follows : MayFollow (world_as_read kept.hosted.world) entry) where
  abbrev longer : List TickRecord
  longer = entries ++ tick_as_read entry ∷ []

  follows_there : MayFollow (world_after base entries) entry
  follows_there = subst (λ (w : Stored). MayFollow w entry) start.at_end.world follows

  module _ (gate : ℕ) (after_seen : Option (List ℕ)) (later : List Moment) (alike : TellsAlike seen after_seen)
      (done : HasJournal base entries kept.journal.log.gate seen moments → MayFollow (world_after base entries) entry → HasJournal base longer gate after_seen later) where
    journal_more : IfSome after_seen (λ bytes. HasJournal base longer gate after_seen later)
    journal_more = still_told (HasJournal base entries kept.journal.log.gate seen moments) (HasJournal base longer gate after_seen later) seen after_seen alike start.journal (λ has. done has follows_there)

    -- The journal has the record.
    pub records_one : IfSome after_seen (IsWholeJournal base longer)
    records_one = whole_of base longer gate after_seen later journal_more

  -- The world after the tick stands at the journal's end.
  at_one : (hosted : Held) → after (world_as_read kept.hosted.world) (tick_as_read entry) ≡ world_as_read hosted.world
      → ((records : List TickRecord) → (state_of kept.hosted).modules ≡ modules_after empty records → (state_of hosted).modules ≡ modules_after empty (records ++ tick_as_read entry ∷ []))
      → IsHosted hosted.world → HaveFewSites hosted.world → IsAt base longer hosted
  at_one hosted leads modules is few = record {
    world = sym leads ∙ (ap (λ (w : Stored). after w (tick_as_read entry)) start.at_end.world ∙ sym (world_after_one base entries (tick_as_read entry)));
    modules = modules entries start.at_end.modules;
    hosted = is;
    few = few;
  }

  pub kept_one : (hosted : Held) (recorder : Recorder) (journal : Journal) (after_seen : Option (List ℕ)) (later : List Moment) → TellsAlike seen after_seen
      → (HasJournal base entries kept.journal.log.gate seen moments → MayFollow (world_after base entries) entry → HasJournal base longer journal.log.gate after_seen later)
      → after (world_as_read kept.hosted.world) (tick_as_read entry) ≡ world_as_read hosted.world
      → ((records : List TickRecord) → (state_of kept.hosted).modules ≡ modules_after empty records → (state_of hosted).modules ≡ modules_after empty (records ++ tick_as_read entry ∷ []))
      → IsHosted hosted.world → HaveFewSites hosted.world → StandsAt recorder hosted.world → IsLog journal.log.gate after_seen later → journal.log.is_closed ≡ false
      → IsKeptAt base longer (record { hosted = hosted; recorder = recorder; journal = journal }) after_seen later
  kept_one hosted recorder journal after_seen later alike done leads modules is few stands log is_open = record {
    at_end = at_one hosted leads modules is few;
    recorder = stands;
    journal = journal_more journal.log.gate after_seen later alike done;
    log = log;
    is_open = is_open;
  }
