-- Served ticks of held worlds are served ticks of the worlds that they hold.
use Rattle.std.proofs.Common.{◌≡◌, ◌≢◌, ℕ, ◌<◌, ◌≤◌, min, List, [], ◌∷◌, ◌++◌, length, map, Option, Some, None, IfSome, refl, sym, ap, subst, ◌∙◌, arith}
use Rattle.std.proofs.lemmas.List.{append-nil, map-append}
use Rattle.frame_log.specs.Frames.{IsLog}
use Rattle.hosted_tick.specs.Hosting.{Held, state_of}
use Rattle.hosted_tick.specs.Next.{State}
use Rattle.object_store.specs.Stored.{Stored}
use Rattle.run_status.specs.declared.status.Status.{Status}
use Rattle.run_status.specs.declared.status.Status.TheVariants as statuses
use Rattle.tick_journal.specs.declared.tick_record.TickRecord.{TickRecord}
use Rattle.upload_stream.specs.Streams.{Upload}
use Rattle.world_hub.specs.declared.summary.Summary.{Summary}
use Rattle.world_io.specs.Causes.{Rose}
use Rattle.world_io.specs.Moments.{LeavesNow, LeavesSince, Moment, Rests, no_moment}
use Rattle.world_journal.specs.Journals.{HasJournal, IsQuiet, IsWholeJournal}
use Rattle.world_replay.specs.Listed.{listed}
use Rattle.world_replay.specs.Serials.{HasRunOut, IsExhausted}
use Rattle.world_replay.proofs.Listing.{exhausted_shown, listed_is}
use Rattle.world_rules.specs.Sound.{IsSound, bare}
use Rattle.world_rules.specs.World.{World, world_of}
use Rattle.world_run.specs.Images.{HasAtLeast}
use Rattle.world_run.specs.Runs.{Follow, last_of, recorded_of, resumed}
use Rattle.world_run.specs.inner.Held as held
use Rattle.world_run.specs.inner.Stages.{IsOfMaking}
use Rattle.world_run.proofs.Crashes.{now_all, now_has}
use Rattle.world_run.proofs.RunsLists.{Along, whole_of}
use Rattle.world_run.proofs.Worldly.{AreSound, count_same, energy_same, follow_shown, last_shown, many_rooms, many_shown, records_shown, shown, sound_steps, start_is}
use Rattle.served_ticks.specs.Given.{kept_sender, recorded_sender}
use Rattle.served_ticks.specs.Serving.{AreSummaries, Around, Ends, Serves, Takes}
use Rattle.served_ticks.specs.Summaries.{IsSummaryOf}
use Rattle.served_ticks.proofs.Handed.{uploads_in}
use Rattle.served_ticks.proofs.Steps as steps_of

-- ---- summaries

summary_bare : (entries : List TickRecord) (world : Stored) (summary : Summary) → IsSummaryOf entries world summary → IsSummaryOf entries (bare world) summary
summary_bare entries world summary is = record {
  tick = is.tick;
  rooms = is.rooms ∙ sym (many_rooms world.rooms);
  objects = is.objects ∙ sym (count_same world);
  energy = is.energy ∙ ap (λ n. min n 18446744073709551615) (sym (energy_same world));
  lines = is.lines;
}

summary_listed : (entries : List TickRecord) (world : Stored) (summary : Summary) → IsSound world → IsSummaryOf entries world summary → IsSummaryOf entries (listed (world_of world)) summary
summary_listed entries world summary sound is = subst (λ (w : Stored). IsSummaryOf entries w summary) (sym (listed_is world sound)) (summary_bare entries world summary is)

summaries_shown : (entries : List TickRecord) (steps : List held.Step) (summaries : List Summary) → AreSound steps → steps_of.AreSummaries entries steps summaries → AreSummaries entries (map shown steps) summaries
summaries_shown entries [] summaries sound are = are
summaries_shown entries (step ∷ later) [] sound are = absurd are
summaries_shown entries (step ∷ later) (summary ∷ more) sound are = (
  summary_listed (entries ++ step.recorded ∷ []) step.after.world summary sound.0 are.0,
  summaries_shown (entries ++ step.recorded ∷ []) later more sound.1 are.1,
)

-- ---- the disk between calls

pub log_quiet : (gate : ℕ) (seen : Option (List ℕ)) (moments : List Moment) → IsLog gate seen moments → IsQuiet seen moments
log_quiet gate None moments log = tt
log_quiet gate (Some bytes) moments log =
    let has = log.1 in
    let same : has.front ++ 0 ∷ [] ≡ bytes = some_same bytes (has.front ++ 0 ∷ []) has.rests.read in
    subst (λ (b : List ℕ). Rests b (Some bytes) moments) same has.rests
  where
    some_same : (one other : List ℕ) → Some one ≡ Some other → other ≡ one
    some_same one other same = cc

-- What a crash leaves of the ticks so far.
pub crash_so_far : (seen_old : Option (List ℕ)) (moments_old : List Moment) (seen : Option (List ℕ)) (moments : List Moment) (stream : List Upload) (first : Rattle.world_run.specs.declared.kept.Kept.Kept) (count : ℕ) (last : Rattle.world_run.specs.declared.kept.Kept.Kept) (along : Along seen_old moments_old seen moments None None stream first count last)
    (base : Stored) (entries : List TickRecord) → held.IsKeptAt base entries first seen_old moments_old → HasJournal base entries first.journal.log.gate seen_old moments_old
    → LeavesSince (HasAtLeast 0 base entries (held.recorded_of along.steps)) moments_old moments × LeavesNow (HasAtLeast (length along.steps) base entries (held.recorded_of along.steps)) moments
crash_so_far seen_old moments_old seen moments stream first count last along base entries at has =
    let so = along.crash base entries at has in
    (so.1, now_all base entries along.steps moments (now_has base (entries ++ held.recorded_of along.steps) last.journal.log.gate seen moments so.0))

-- ---- the whole

-- What is known of held worlds.
pub record Served (base : Stored) (entries : List TickRecord) (gate ticks : ℕ) (old new : Around) (first : Held) (status : Status) : Type 0 where
  pub stream : List Upload
  pub steps : List held.Step
  pub follow : held.Follow stream first steps
  pub given : map recorded_sender (uploads_in (held.recorded_of steps)) ≡ map kept_sender stream
  pub rest : List Upload
  pub takes : Takes base entries gate ticks old new (stream ++ rest)
  pub told : List held.Step
  pub untold : List held.Step
  pub split : steps ≡ told ++ untold
  pub summaries : List Summary
  pub are : steps_of.AreSummaries entries told summaries
  pub published : new.sight.published ≡ old.sight.published ++ summaries
  pub ends : Ends base entries gate ticks old new (map shown steps) (map shown untold) rest status
  pub journal : status ≢ statuses.DiskFault → IfSome new.disk (IsWholeJournal base (entries ++ held.recorded_of steps))
  pub quiet : status ≢ statuses.DiskFault → IsQuiet new.disk new.moments
  pub more : List held.Step
  pub few : length more ≤ 1
  pub further : held.Follow (stream ++ rest) first (steps ++ more)
  pub lasts : HasJournal base entries gate old.disk old.moments → LeavesSince (HasAtLeast 0 base entries (held.recorded_of (steps ++ more))) old.moments new.moments
      × LeavesNow (HasAtLeast (length steps) base entries (held.recorded_of (steps ++ more))) new.moments
  pub steady : status ≢ statuses.DiskFault → new.faults ≡ old.faults
  pub later : old.faults ≤ new.faults

module _ (base : Stored) (entries : List TickRecord) (gate ticks : ℕ) (old new : Around) (first : Held) (status : Status) (at : held.IsAt base entries first) where
  start : state_of first ≡ resumed base entries
  start = start_is base entries first at

  follow_there : (stream : List Upload) (steps : List held.Step) → held.Follow stream first steps → Follow stream (resumed base entries) (map shown steps)
  follow_there stream steps f = subst (λ (s : State). Follow stream s (map shown steps)) start (follow_shown stream first steps f)

  told_sound : (told untold : List held.Step) → AreSound (told ++ untold) → AreSound told
  told_sound [] untold all = tt
  told_sound (step ∷ told) untold all = (all.0, told_sound told untold all.1)

  pub served_shown : Served base entries gate ticks old new first status → Serves base entries gate ticks old new status
  served_shown s =
      let both : map shown s.steps ++ map shown s.more ≡ map shown (s.steps ++ s.more) = sym (map-append shown s.steps s.more) in
      let records = ap recorded_of both ∙ records_shown (s.steps ++ s.more) in record {
        stream = s.stream;
        steps = map shown s.steps;
        makes = record {
          follow = follow_there s.stream s.steps s.follow;
          given = ap (λ (l : List TickRecord). map recorded_sender (uploads_in l)) (records_shown s.steps) ∙ s.given;
        };
        rest = s.rest;
        takes = s.takes;
        told = map shown s.told;
        untold = map shown s.untold;
        split = ap (map shown) s.split ∙ map-append shown s.told s.untold;
        summaries = s.summaries;
        are = summaries_shown entries s.told s.summaries (told_sound s.told s.untold (subst AreSound s.split (sound_steps s.stream first s.steps s.follow))) s.are;
        published = s.published;
        ends = s.ends;
        journal = λ other. subst (λ (l : List TickRecord). IfSome new.disk (IsWholeJournal base (entries ++ l))) (sym (records_shown s.steps)) (s.journal other);
        quiet = s.quiet;
        more = map shown s.more;
        few = subst (λ (n : ℕ). n ≤ 1) (sym (many_shown s.more)) s.few;
        further = subst (λ (l : List Rattle.world_run.specs.Runs.Step). Follow (s.stream ++ s.rest) (resumed base entries) l) (sym both) (follow_there (s.stream ++ s.rest) (s.steps ++ s.more) s.further);
        lasts = λ has.
            let so = s.lasts has in record {
              each = subst (λ (l : List TickRecord). LeavesSince (HasAtLeast 0 base entries l) old.moments new.moments) (sym records) so.0;
              now = subst (λ (n : ℕ). LeavesNow (HasAtLeast n base entries (recorded_of (map shown s.steps ++ map shown s.more))) new.moments) (sym (many_shown s.steps))
                  (subst (λ (l : List TickRecord). LeavesNow (HasAtLeast (length s.steps) base entries l) new.moments) (sym records) so.1);
            };
        steady = s.steady;
        later = s.later;
      }

  -- ---- how it ends

  pub run_out : (steps : List held.Step) (index : ℕ) → HasRunOut (held.last_of first steps).world index → IsExhausted (last_of (resumed base entries) (map shown steps)).world index
  run_out steps index is =
      let there = exhausted_shown (held.last_of first steps).world index is in
      let last : world_of (held.last_of first steps).world ≡ (last_of (state_of first) (map shown steps)).world = ap (λ (s : State). s.world) (sym (last_shown first steps)) in
      subst (λ (s : State). IsExhausted (last_of s (map shown steps)).world index) start (subst (λ (w : World). IsExhausted w index) last there)

  -- The ticks ended in one that was not recorded.
  pub ends_unmade : (steps : List held.Step) (rest : List Upload) → IsOfMaking status → length steps < ticks → ((index : ℕ) → status ≡ statuses.IdsExhausted index → HasRunOut (held.last_of first steps).world index) → (status ≡ statuses.DiskFault → Rose old.faults new.faults)
      → Ends base entries gate ticks old new (map shown steps) [] rest status
  ends_unmade steps rest of less out fault = ends status refl of
    where
      many : length (map shown steps) ≡ length steps
      many = many_shown steps

      ends : (s : Status) → status ≡ s → IsOfMaking s → Ends base entries gate ticks old new (map shown steps) [] rest s
      ends (statuses.IdsExhausted index) is of = (omega (arith, many, less), refl, run_out steps index (out index is))
      ends statuses.DiskFault is of = (omega (arith, many, less), refl, fault is)
      ends statuses.Memory is of = (omega (arith, many, less), omega arith)
      ends statuses.Done is of = absurd of
      ends statuses.Usage is of = absurd of
      ends (statuses.World fault) is of = absurd of
      ends (statuses.Uploads place) is of = absurd of
      ends statuses.ReadFault is of = absurd of
      ends statuses.WriteFault is of = absurd of
      ends (statuses.NotAJournal place) is of = absurd of
      ends (statuses.OtherWorld place one other) is of = absurd of
      ends (statuses.Refused refusal) is of = absurd of
      ends (statuses.NoSuchTick one other) is of = absurd of
      ends (statuses.Differs tick room place one other) is of = absurd of
      ends statuses.NoJournal is of = absurd of

-- Nothing was done for want of memory.
pub nothing_served : (base : Stored) (entries : List TickRecord) (gate ticks : ℕ) (around : Around) → IfSome around.disk (λ bytes. HasJournal base entries gate around.disk around.moments) → IsLog gate around.disk around.moments → Serves base entries gate ticks around around statuses.Memory
nothing_served base entries gate ticks around journal log = record {
  stream = [];
  steps = [];
  makes = record { follow = tt; given = refl };
  rest = [];
  takes = record { marked = []; taken = sym (append-nil around.hand.taken); same = refl };
  told = [];
  untold = [];
  split = refl;
  summaries = [];
  are = refl;
  published = sym (append-nil around.sight.published);
  ends = (omega arith, omega arith);
  journal = λ other. subst (λ (l : List TickRecord). IfSome around.disk (IsWholeJournal base l)) (sym (append-nil entries)) (whole_of base entries gate around.disk around.moments journal);
  quiet = λ other. log_quiet gate around.disk around.moments log;
  more = [];
  few = omega arith;
  further = tt;
  lasts = λ there. record {
    each = no_moment;
    now = now_all base entries [] around.moments (subst (λ (l : List TickRecord). LeavesNow (Rattle.world_journal.specs.Journals.IsJournal base l) around.moments) (sym (append-nil entries)) (now_has base entries gate around.disk around.moments there));
  };
  steady = λ other. refl;
  later = omega arith;
}
