-- One served tick behind others, as worlds are held.
use Rattle.std.proofs.Common.{◌≡◌, inl, ℕ, ◌+◌, ◌<◌, ◌≤◌, List, [], ◌∷◌, ◌++◌, length, map, Option, None, refl, sym, ap, subst, ◌∙◌, append_assoc, arith}
use Rattle.std.specs.List.{AllByRecursion}
use Rattle.std.proofs.lemmas.List.{append-nil, length_push, map-append}
use Rattle.hosted_tick.specs.Hosting.{Held, IsHosted, state_of}
use Rattle.object_store.specs.Stored.{Stored}
use Rattle.run_status.specs.declared.status.Status.TheVariants as statuses
use Rattle.tick_journal.specs.declared.entries.UploadEntry.{UploadEntry}
use Rattle.tick_journal.specs.declared.tick_record.TickRecord.{TickRecord}
use Rattle.upload_stream.specs.Streams.{Upload, uploads_at}
use Rattle.world_hub.specs.declared.summary.Summary.{Summary}
use Rattle.world_io.specs.Moments.{Moment, no_moment}
use Rattle.world_journal.specs.Journals.{HasJournal}
use Rattle.world_rules.specs.World.{world_of}
use Rattle.world_run.specs.declared.kept.Kept.{Kept}
use Rattle.world_run.specs.inner.Crashes.{Adds, Records}
use Rattle.world_run.specs.inner.Held.{Follow, IsKeptAt, IsStep, Step, last_of, recorded_of}
use Rattle.world_run.proofs.Left.{step_same}
use Rattle.world_run.proofs.RunsLists.{Along, Further, follow_more, last_more, tick_rises}
use Rattle.world_run.proofs.Crashes.{since_more}
use Rattle.served_ticks.specs.Given.{kept_sender, recorded_sender}
use Rattle.served_ticks.specs.Summaries.{IsSummaryOf}
use Rattle.served_ticks.specs.declared.served.Served.{Served}
use Rattle.served_ticks.specs.inner.OneTick.{AreOf, HasCounts, IsServedOnce, IsUnmade}
use Rattle.served_ticks.proofs.Handed.{given_at, given_more, judged_senders, still_at, uploads_in}

-- What is recorded of a tick has the uploads with their results.
pub recorded_uploads : (given : List Upload) (kept : Kept) (seen : Option (List ℕ)) (moments : List Moment) (next : Kept) (judged : List UploadEntry) (lines : List ℕ) (after_seen : Option (List ℕ)) (later : List Moment) (added : Adds given kept seen moments next judged lines after_seen later) → AreOf kept.hosted.world.tick given → added.step.recorded.uploads ≡ judged
recorded_uploads given kept seen moments next judged lines after_seen later added are =
    (added.is given (given_at kept.hosted.world.tick [] given tt are)).recorded.uploads_are ∙ added.results

-- Nothing was made for want of memory.
pub nothing_made : (given : List Upload) (kept : Kept) (seen : Option (List ℕ)) (moments : List Moment) → IsUnmade given kept seen moments seen moments statuses.Memory
nothing_made given kept seen moments = record { same = λ other. (refl, refl); lost = inl refl; exhausted = λ index is. absurd (not_exhausted index is) }
  where
    not_exhausted : (index : ℕ) → statuses.Memory ≡ statuses.IdsExhausted index → ⊥
    not_exhausted index is = cc

-- ---- the steps so far

-- What is recorded of a step has the senders of the uploads that it took.
senders_recorded : (stream given : List Upload) (before : Held) (step : Step) → given ≡ uploads_at before.world.tick stream → IsStep stream before step → map recorded_sender step.recorded.uploads ≡ map kept_sender given
senders_recorded stream given before step same is =
    ap (map recorded_sender) is.recorded.uploads_are
    ∙ (judged_senders (world_of before.world) (state_of before).modules (uploads_at before.world.tick stream) (state_of step.after).modules step.uploads is.made.judged ∙ ap (map kept_sender) (sym same))

-- Uploads of a later tick change nothing of the steps before it.
pub follow_wider : (tick : ℕ) (stream given : List Upload) (before : Held) (steps : List Step) → before.world.tick + length steps ≤ tick → AreOf tick given → Follow stream before steps → Follow (stream ++ given) before steps
follow_wider tick stream given before [] few are f = f
follow_wider tick stream given before (step ∷ later) few are f =
    let risen = tick_rises stream before step f.2 in (
      f.0,
      f.1,
      step_same stream (stream ++ given) before step (still_at tick before.world.tick stream given (omega arith) are) f.2,
      follow_wider tick stream given step.after later (omega (arith, risen, few)) are f.3,
    )

abbrev pub wider : (seen_old : Option (List ℕ)) (moments_old : List Moment) (seen : Option (List ℕ)) (moments : List Moment) (sink_old sink_new : Option (List ℕ)) (stream given : List Upload) (first : Kept) (count tick : ℕ) (last : Kept)
    → first.hosted.world.tick + count ≤ tick → AreOf tick given → Along seen_old moments_old seen moments sink_old sink_new stream first count last → Along seen_old moments_old seen moments sink_old sink_new (stream ++ given) first count last
wider seen_old moments_old seen moments sink_old sink_new stream given first count tick last few are along = record {
  steps = along.steps;
  counted = along.counted;
  grows = record {
    follow = follow_wider tick stream given first.hosted along.steps (let many = along.counted in omega (arith, many, few)) are along.grows.follow;
    lines = along.grows.lines;
  };
  ended = along.ended;
  keeps = along.keeps;
  crash = along.crash;
}

-- Each summary is that of the world after one of the steps.
abbrev pub AreSummaries : List TickRecord → List Step → List Summary → Type 0
AreSummaries entries [] summaries = summaries ≡ []
AreSummaries entries (step ∷ later) [] = ⊥
AreSummaries entries (step ∷ later) (summary ∷ more) =
    IsSummaryOf (entries ++ step.recorded ∷ []) step.after.world summary × AreSummaries (entries ++ step.recorded ∷ []) later more

summaries_more : (entries : List TickRecord) (steps : List Step) (step : Step) (summaries : List Summary) (summary : Summary) → AreSummaries entries steps summaries → IsSummaryOf ((entries ++ recorded_of steps) ++ step.recorded ∷ []) step.after.world summary → AreSummaries entries (steps ++ step ∷ []) (summaries ++ summary ∷ [])
summaries_more entries [] step summaries summary are is =
    subst (λ (l : List Summary). AreSummaries entries (step ∷ []) (l ++ summary ∷ [])) (sym are) (subst (λ (l : List TickRecord). IsSummaryOf (l ++ step.recorded ∷ []) step.after.world summary) (append-nil entries) is, refl)
summaries_more entries (s ∷ steps) step [] summary are is = absurd are
summaries_more entries (s ∷ steps) step (one ∷ summaries) summary are is = (
  are.0,
  summaries_more (entries ++ s.recorded ∷ []) steps step summaries summary are.1
      (subst (λ (l : List TickRecord). IsSummaryOf (l ++ step.recorded ∷ []) step.after.world summary) (sym (append_assoc entries (s.recorded ∷ []) (recorded_of steps))) is),
)

-- So many ticks were served, from the first world to the last.
pub record SoFar (seen_old : Option (List ℕ)) (moments_old : List Moment) (seen : Option (List ℕ)) (moments : List Moment) (first : Served) (count : ℕ) (last : Served) (summaries : List Summary) (stream : List Upload) : Type 0 where
  pub along : Along seen_old moments_old seen moments None None stream first.kept count last.kept
  pub early : AllByRecursion (λ (u : Upload). u.tick < last.kept.hosted.world.tick) stream
  pub given : map recorded_sender (uploads_in (recorded_of along.steps)) ≡ map kept_sender stream
  pub are : (base : Stored) (entries : List TickRecord) → IsKeptAt base entries first.kept seen_old moments_old → HasCounts entries first
      → AreSummaries entries along.steps summaries × HasCounts (entries ++ recorded_of along.steps) last

pub none_so_far : (seen : Option (List ℕ)) (moments : List Moment) (first : Served) → IsHosted first.kept.hosted.world → SoFar seen moments seen moments first 0 first [] []
none_so_far seen moments first hosted = record {
  along = record {
    steps = [];
    counted = refl;
    grows = record { follow = hosted; lines = tt };
    ended = refl;
    keeps = λ base entries at. subst (λ (l : List TickRecord). IsKeptAt base l first.kept seen moments) (sym (append-nil entries)) at;
    crash = λ base entries at has. (subst (λ (l : List TickRecord). HasJournal base l first.kept.journal.log.gate seen moments) (sym (append-nil entries)) has, no_moment);
  };
  early = tt;
  given = refl;
  are = λ base entries at has. (refl, subst (λ (l : List TickRecord). HasCounts l first) (sym (append-nil entries)) has);
}

pub recorded_more : (entries : List TickRecord) (steps : List Step) (step : Step) → (entries ++ recorded_of steps) ++ step.recorded ∷ [] ≡ entries ++ recorded_of (steps ++ step ∷ [])
recorded_more entries steps step =
    append_assoc entries (recorded_of steps) (step.recorded ∷ [])
    ∙ ap (λ (l : List TickRecord). entries ++ l) (sym (map-append (λ (s : Step). s.recorded) steps (step ∷ [])))

module _ (seen_old : Option (List ℕ)) (moments_old : List Moment) (seen : Option (List ℕ)) (moments : List Moment) (first : Served) (count : ℕ) (last : Served) (summaries : List Summary) (stream given : List Upload)
    (so_far : SoFar seen_old moments_old seen moments first count last summaries stream) (hosted : IsHosted last.kept.hosted.world) (tick : last.kept.hosted.world.tick ≡ first.kept.hosted.world.tick + count) (are : AreOf last.kept.hosted.world.tick given) where
  abbrev now : ℕ
  now = last.kept.hosted.world.tick

  pub given_now : given ≡ uploads_at now (stream ++ given)
  given_now = given_at now stream given so_far.early are

  abbrev pub along_wide : Along seen_old moments_old seen moments None None (stream ++ given) first.kept count last.kept
  along_wide = wider seen_old moments_old seen moments None None stream given first.kept count now last.kept (omega (arith, tick)) are so_far.along

  pub given_further : (step : Step) → IsStep (stream ++ given) last.kept.hosted step → map recorded_sender (uploads_in (recorded_of (so_far.along.steps ++ step ∷ []))) ≡ map kept_sender (stream ++ given)
  given_further step step_is =
      ap (λ (l : List TickRecord). map recorded_sender (uploads_in l)) (map-append (λ (s : Step). s.recorded) so_far.along.steps (step ∷ []))
      ∙ given_more (recorded_of so_far.along.steps) step.recorded stream given so_far.given (senders_recorded (stream ++ given) given last.kept.hosted step given_now step_is)

  -- a tick more, whose record is on the disk
  module _ (next : Kept) (seen_new : Option (List ℕ)) (moments_new : List Moment) (step : Step) (after : step.after ≡ next.hosted) (further : Further (stream ++ given) last.kept.hosted step)
      (kept : (base : Stored) (entries : List TickRecord) → IsKeptAt base entries last.kept seen moments → IsKeptAt base (entries ++ step.recorded ∷ []) next seen_new moments_new) (each : Records last.kept seen moments moments_new step.recorded)
      (has_next : (base : Stored) (entries : List TickRecord) → IsKeptAt base entries last.kept seen moments → HasJournal base entries last.kept.journal.log.gate seen moments → HasJournal base (entries ++ step.recorded ∷ []) next.journal.log.gate seen_new moments_new) where
    abbrev before : List Step
    before = so_far.along.steps

    pub follow_on : Follow (stream ++ given) first.kept.hosted (before ++ step ∷ [])
    follow_on =
        let there : Further (stream ++ given) (last_of first.kept.hosted before) step = subst (λ (held : Held). Further (stream ++ given) held step) (sym so_far.along.ended) further in
        follow_more (stream ++ given) first.kept.hosted before step along_wide.grows.follow there.serials there.step_is there.hosted

    abbrev pub along_on : Along seen_old moments_old seen_new moments_new None None (stream ++ given) first.kept (count + 1) next
    along_on = record {
      steps = before ++ step ∷ [];
      counted = length_push before step ∙ ap (λ n. n + 1) so_far.along.counted;
      grows = record { follow = follow_on; lines = tt };
      ended = last_more first.kept.hosted before step ∙ after;
      keeps = λ base entries start. subst (λ (l : List TickRecord). IsKeptAt base l next seen_new moments_new) (recorded_more entries before step) (kept base (entries ++ recorded_of before) (so_far.along.keeps base entries start));
      crash = λ base entries start has.
          let there = so_far.along.keeps base entries start in
          let so = so_far.along.crash base entries start has in (
            subst (λ (l : List TickRecord). HasJournal base l next.journal.log.gate seen_new moments_new) (recorded_more entries before step) (has_next base (entries ++ recorded_of before) there so.0),
            since_more base entries before step moments_old moments moments_new so.1 (each base (entries ++ recorded_of before) there so.0),
          );
    }

  pub so_further : (next : Served) (seen_new : Option (List ℕ)) (moments_new : List Moment) (sight_old sight_new : Rattle.world_hub.specs.declared.status.Sight.Sight) → (once : IsServedOnce given last seen moments sight_old next seen_new moments_new sight_new) → IsHosted next.kept.hosted.world
      → SoFar seen_old moments_old seen_new moments_new first (count + 1) next (summaries ++ once.summary ∷ []) (stream ++ given)
  so_further next seen_new moments_new sight_old sight_new once next_hosted =
      let added = once.added in
      let step = added.step in
      let step_is = added.is (stream ++ given) given_now in
      let further : Further (stream ++ given) last.kept.hosted step = record { serials = added.serials; step_is = step_is; hosted = subst (λ (held : Held). IsHosted held.world) (sym added.after) next_hosted } in
      let risen : next.kept.hosted.world.tick ≡ now + 1 = ap (λ (held : Held). held.world.tick) (sym added.after) ∙ tick_rises (stream ++ given) last.kept.hosted step step_is in
      record {
        along = along_on next.kept seen_new moments_new step added.after further added.keeps added.each added.has;
        early = Rattle.served_ticks.proofs.Handed.early_more now next.kept.hosted.world.tick stream given (omega (arith, risen)) so_far.early are;
        given = given_further step step_is;
        are = λ base entries at has.
            let there = so_far.are base entries at has in
            let behind = so_far.along.keeps base entries at in
            let longer = recorded_more entries so_far.along.steps step in (
              summaries_more entries so_far.along.steps step summaries once.summary there.0 (subst (λ (held : Held). IsSummaryOf ((entries ++ recorded_of so_far.along.steps) ++ step.recorded ∷ []) held.world once.summary) (sym added.after) (once.is base (entries ++ recorded_of so_far.along.steps) behind there.1)),
              subst (λ (l : List TickRecord). HasCounts l next) longer (once.counts base (entries ++ recorded_of so_far.along.steps) behind there.1),
            );
      }
