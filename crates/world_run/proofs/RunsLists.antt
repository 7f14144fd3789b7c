-- The steps of a run, one after another.
use Rattle.std.proofs.Common.{◌≡◌, inl, inr, arith, ℕ, ◌+◌, ◌<◌, ◌≤◌, List, [], ◌∷◌, ◌++◌, length, take, Option, Some, None, IfSome, refl, ap, sym, subst, ◌∙◌, append_assoc}
use Rattle.std.proofs.lemmas.List.{append-nil, length_push, map-append}
use Rattle.std.proofs.lemmas.List.Concat.{flat_map-append}
use Rattle.std.specs.List.{flat_map}
use Rattle.std.specs.Io.KnownBytes.{Appends}
use Rattle.object_store.specs.Stored.{Stored}
use Rattle.tick_journal.specs.BaseForms.{world_as_read}
use Rattle.tick_journal.specs.declared.tick_record.TickRecord.{TickRecord}
use Rattle.world_io.specs.Moments.{LeavesNow, LeavesSince, Moment, no_moment}
use Rattle.world_io.specs.Told.{AppendsPrefix}
use Rattle.world_io.proofs.Known.{appends_more}
use Rattle.world_journal.specs.Journals.{HasJournal, IsJournal, IsWholeJournal}
use Rattle.world_journal.proofs.Journals.{whole_is_journal}
use Rattle.world_rules.proofs.Ticks.{next_world-tick}
use Rattle.world_rules.specs.Sound.{HaveSerials}
use Rattle.world_rules.specs.World.{world_of}
use Rattle.upload_stream.specs.Streams.{Upload}
use Rattle.hosted_tick.specs.Hosting.{Held, IsHosted}
use Rattle.world_run.specs.declared.kept.Kept.{Kept}
use Rattle.world_run.specs.inner.Held.{Step, step_lines, Follow, IsKeptAt, IsStep, last_of, CutsLast, Leaves, LeavesPart, Prints, output, recorded_of}
use Rattle.run_lines.specs.Lines.{start_line}
use Rattle.run_lines.proofs.Giving.{appends_nothing}
use Rattle.world_run.specs.Runs.{AppendsPart, Stood}
use Rattle.world_run.specs.inner.Stages.{Continues, Grows, GrowsPart}
use Rattle.world_run.specs.Images.{HasAtLeast}
use Rattle.world_run.specs.inner.Crashes.{HasRecorded, IsCut, Lasts, Records}
use Rattle.world_run.proofs.Crashes.{now_all, now_before, now_has, prefix_more, prefix_whole, since_more}

-- ---- known bytes

-- a part of a last piece behind two whole ones
appends_part : (a b c : Option (List ℕ)) (xs ys zs : List ℕ) → Appends a b xs → AppendsPart b c ys zs → AppendsPart a c (xs ++ ys) zs
appends_part a b c xs ys zs h k = (k.0, subst (Appends a c) (sym (append_assoc xs ys (take k.0 zs))) (appends_more a b c xs (ys ++ take k.0 zs) h k.1))

-- ---- the steps of a run

pub last_more : (first : Held) (steps : List Step) (step : Step) → last_of first (steps ++ step ∷ []) ≡ step.after
last_more first [] step = refl
last_more first (x ∷ steps) step = last_more x.after steps step

pub follow_more : (stream : List Upload) (first : Held) (steps : List Step) (step : Step) → Follow stream first steps → HaveSerials (last_of first steps).world.rooms → IsStep stream (last_of first steps) step → IsHosted step.after.world → Follow stream first (steps ++ step ∷ [])
follow_more stream first [] step h serials is hosted = (h, serials, is, hosted)
follow_more stream first (x ∷ steps) step h serials is hosted = (h.0, h.1, h.2, follow_more stream x.after steps step h.3 serials is hosted)

pub flat_more : (f : Step → List ℕ) (steps : List Step) (step : Step) → flat_map f steps ++ f step ≡ flat_map f (steps ++ step ∷ [])
flat_more f steps step = ap (λ z. flat_map f steps ++ z) (sym (append-nil (f step))) ∙ sym (flat_map-append f steps (step ∷ []))

-- ---- the journal of a run

same_bytes : (one other : List ℕ) → Some one ≡ Some other → one ≡ other
same_bytes one other same = cc

-- What a disk has between calls is a journal, and nothing more.
has_whole : (base : Stored) (entries : List TickRecord) (gate : ℕ) (bytes : List ℕ) (moments : List Moment) → HasJournal base entries gate (Some bytes) moments → IsWholeJournal base entries bytes
has_whole base entries gate bytes moments h = record {
  front = h.has.front;
  contents = h.contents;
  spelled = h.has.spelled;
  split = same_bytes bytes (h.has.front ++ 0 ∷ []) h.has.rests.read;
  are = h.are;
}

pub whole_of : (base : Stored) (entries : List TickRecord) (gate : ℕ) (seen : Option (List ℕ)) (moments : List Moment) → IfSome seen (λ bytes. HasJournal base entries gate seen moments) → IfSome seen (IsWholeJournal base entries)
whole_of base entries gate None moments h = tt
whole_of base entries gate (Some bytes) moments h = has_whole base entries gate bytes moments h

pub journal_of : (base : Stored) (entries : List TickRecord) (gate : ℕ) (seen : Option (List ℕ)) (moments : List Moment) → IfSome seen (λ bytes. HasJournal base entries gate seen moments) → IfSome seen (IsJournal base entries)
journal_of base entries gate None moments h = tt
journal_of base entries gate (Some bytes) moments h = whole_is_journal base entries bytes (has_whole base entries gate bytes moments h)

records_more : (entries : List TickRecord) (steps : List Step) (step : Step) → (entries ++ recorded_of steps) ++ step.recorded ∷ [] ≡ entries ++ recorded_of (steps ++ step ∷ [])
records_more entries steps step =
    append_assoc entries (recorded_of steps) (step.recorded ∷ [])
    ∙ ap (λ (l : List TickRecord). entries ++ l) (sym (map-append (λ (s : Step). s.recorded) steps (step ∷ [])))

-- So many ticks ran from the first world to the last.
pub record Along (seen_old : Option (List ℕ)) (moments_old : List Moment) (seen : Option (List ℕ)) (moments : List Moment) (sink_old sink_new : Option (List ℕ)) (stream : List Upload) (first : Kept) (count : ℕ) (last : Kept) : Type 0 where
  pub steps : List Step
  pub counted : length steps ≡ count
  pub grows : Grows sink_old sink_new stream first.hosted steps
  pub ended : last_of first.hosted steps ≡ last.hosted
  pub keeps : (base : Stored) (entries : List TickRecord) → IsKeptAt base entries first seen_old moments_old → IsKeptAt base (entries ++ recorded_of steps) last seen moments
  pub crash : (base : Stored) (entries : List TickRecord) → IsKeptAt base entries first seen_old moments_old → HasJournal base entries first.journal.log.gate seen_old moments_old
      → HasJournal base (entries ++ recorded_of steps) last.journal.log.gate seen moments × LeavesSince (HasAtLeast 0 base entries (recorded_of steps)) moments_old moments

pub along_none : (seen : Option (List ℕ)) (moments : List Moment) (sink : Option (List ℕ)) (stream : List Upload) (first : Kept) → IsHosted first.hosted.world → Along seen moments seen moments sink sink stream first 0 first
along_none seen moments sink stream first hosted = record {
  steps = [];
  counted = refl;
  grows = record { follow = hosted; lines = appends_nothing sink };
  ended = refl;
  keeps = λ base entries kept. subst (λ (l : List TickRecord). IsKeptAt base l first seen moments) (sym (append-nil entries)) kept;
  crash = λ base entries kept has. (subst (λ (l : List TickRecord). HasJournal base l first.journal.log.gate seen moments) (sym (append-nil entries)) has, no_moment);
}

-- A step behind the last one.
pub record Further (stream : List Upload) (last : Held) (step : Step) : Type 0 where
  pub serials : HaveSerials last.world.rooms
  pub step_is : IsStep stream last step
  pub hosted : IsHosted step.after.world

follow_last : (stream : List Upload) (first : Held) (steps : List Step) (last : Held) (step : Step) → Follow stream first steps → last_of first steps ≡ last → Further stream last step → Follow stream first (steps ++ step ∷ [])
follow_last stream first steps last step h e more =
    let there : Further stream (last_of first steps) step = subst (λ (held : Held). Further stream held step) (sym e) more in
    follow_more stream first steps step h there.serials there.step_is there.hosted

module _ (seen_old : Option (List ℕ)) (moments_old : List Moment) (seen : Option (List ℕ)) (moments : List Moment) (sink_old sink sink_new : Option (List ℕ)) (stream : List Upload) (first : Kept) (count : ℕ) (last : Kept) (step : Step) (so_far : Along seen_old moments_old seen moments sink_old sink stream first count last) (more : Further stream last.hosted step) where
  pub along_more : (seen_new : Option (List ℕ)) (moments_new : List Moment) (next : Kept) → step.after ≡ next.hosted → Appends sink sink_new (step_lines step)
      → ((base : Stored) (entries : List TickRecord) → IsKeptAt base entries last seen moments → IsKeptAt base (entries ++ step.recorded ∷ []) next seen_new moments_new)
      → Records last seen moments moments_new step.recorded
      → ((base : Stored) (entries : List TickRecord) → IsKeptAt base entries last seen moments → HasJournal base entries last.journal.log.gate seen moments → HasJournal base (entries ++ step.recorded ∷ []) next.journal.log.gate seen_new moments_new)
      → Along seen_old moments_old seen_new moments_new sink_old sink_new stream first (count + 1) next
  along_more seen_new moments_new next after line kept each has_next = record {
    steps = so_far.steps ++ step ∷ [];
    counted = length_push so_far.steps step ∙ ap (λ n. n + 1) so_far.counted;
    grows = record {
      follow = follow_last stream first.hosted so_far.steps last.hosted step so_far.grows.follow so_far.ended more;
      lines = rw (← flat_more step_lines so_far.steps step) (appends_more sink_old sink sink_new (flat_map step_lines so_far.steps) (step_lines step) so_far.grows.lines line);
    };
    ended = last_more first.hosted so_far.steps step ∙ after;
    keeps = λ base entries start. subst (λ (l : List TickRecord). IsKeptAt base l next seen_new moments_new) (records_more entries so_far.steps step) (kept base (entries ++ recorded_of so_far.steps) (so_far.keeps base entries start));
    crash = λ base entries start has.
        let there = so_far.keeps base entries start in
        let so = so_far.crash base entries start has in (
          subst (λ (l : List TickRecord). HasJournal base l next.journal.log.gate seen_new moments_new) (records_more entries so_far.steps step) (has_next base (entries ++ recorded_of so_far.steps) there so.0),
          since_more base entries so_far.steps step moments_old moments moments_new so.1 (each base (entries ++ recorded_of so_far.steps) there so.0),
        );
  }

  -- the step was cut short
  pub lasts_cut : (ticks : ℕ) → count < ticks → (moments_new : List Moment) (stream_now : List Upload) (cut : IsCut sink sink_new stream_now last seen moments moments_new) → cut.step ≡ step → Lasts sink_old sink_new stream first ticks seen_old moments_old moments_new
  lasts_cut ticks lt moments_new stream_now cut same =
      let steps = so_far.steps ++ step ∷ [] in
      let few : length steps ≤ ticks = let more = length_push so_far.steps step in let so_many = so_far.counted in omega (arith, more, so_many, lt) in
      let follow = follow_last stream first.hosted so_far.steps last.hosted step so_far.grows.follow so_far.ended more in
      let each : Records last seen moments moments_new step.recorded = subst (λ (s : Step). Records last seen moments moments_new s.recorded) same cut.each in
      elim cut.printed [
        | inl nothing ↦ record {
          steps = steps;
          begun = so_far.steps;
          rest = step ∷ [];
          ordered = refl;
          few = few;
          follow = follow;
          lines = prefix_whole sink_old sink_new (flat_map step_lines so_far.steps) (subst (λ (s : Option (List ℕ)). Appends sink_old s (flat_map step_lines so_far.steps)) (sym nothing) so_far.grows.lines);
          each = λ base entries start has.
              let there = so_far.keeps base entries start in
              let so = so_far.crash base entries start has in
              let next = each base (entries ++ recorded_of so_far.steps) there so.0 in
              (since_more base entries so_far.steps step moments_old moments moments_new so.1 next, now_before base entries so_far.steps step last.journal.log.gate seen moments moments_new so.0 next);
        }
        | inr part ↦ record {
          steps = steps;
          begun = steps;
          rest = [];
          ordered = sym (append-nil steps);
          few = few;
          follow = follow;
          lines = subst (λ (l : List ℕ). AppendsPrefix sink_old sink_new l) (flat_more step_lines so_far.steps step)
              (prefix_more sink_old sink sink_new (flat_map step_lines so_far.steps) (step_lines step) so_far.grows.lines (subst (λ (s : Step). AppendsPrefix sink sink_new (step_lines s)) same part.0));
          each = λ base entries start has.
              let there = so_far.keeps base entries start in
              let so = so_far.crash base entries start has in
              let next = each base (entries ++ recorded_of so_far.steps) there so.0 in
              let now = subst (λ (s : Step). HasRecorded last seen moments moments_new s.recorded) same part.1 base (entries ++ recorded_of so_far.steps) there so.0 in (
                since_more base entries so_far.steps step moments_old moments moments_new so.1 next,
                now_all base entries steps moments_new (subst (λ (l : List TickRecord). LeavesNow (IsJournal base l) moments_new) (records_more entries so_far.steps step) now),
              );
        }
      ]

  pub along_part : (seen_new : Option (List ℕ)) → AppendsPrefix sink sink_new (step_lines step)
      → ((base : Stored) (entries : List TickRecord) → IsKeptAt base entries last seen moments → IfSome seen_new (IsWholeJournal base (entries ++ step.recorded ∷ [])))
      → (steps : List Step) × (length steps ≡ count + 1) × GrowsPart sink_old sink_new stream first.hosted steps × Continues first seen_old moments_old seen_new steps
  along_part seen_new line kept = (
    so_far.steps ++ step ∷ [],
    length_push so_far.steps step ∙ ap (λ n. n + 1) so_far.counted,
    record {
      follow = follow_last stream first.hosted so_far.steps last.hosted step so_far.grows.follow so_far.ended more;
      earlier = so_far.steps;
      last = step;
      ordered = refl;
      lines = (line.0, appends_more sink_old sink sink_new (flat_map step_lines so_far.steps) (take line.0 (step_lines step)) so_far.grows.lines line.1);
    },
    λ base entries start. subst (λ (l : List TickRecord). IfSome seen_new (IsWholeJournal base l)) (records_more entries so_far.steps step) (kept base (entries ++ recorded_of so_far.steps) (so_far.keeps base entries start)),
  )

-- Nothing more was done.
pub lasts_so_far : (seen_old : Option (List ℕ)) (moments_old : List Moment) (seen : Option (List ℕ)) (moments : List Moment) (sink_old sink : Option (List ℕ)) (stream : List Upload) (first : Kept) (count : ℕ) (last : Kept)
    → Along seen_old moments_old seen moments sink_old sink stream first count last → (ticks : ℕ) → count ≤ ticks → (sink_new : Option (List ℕ)) (later : List Moment) → later ≡ moments → sink_new ≡ sink → Lasts sink_old sink_new stream first ticks seen_old moments_old later
lasts_so_far seen_old moments_old seen moments sink_old sink stream first count last along ticks le sink_new later crash printed =
    subst (λ (m : List Moment). Lasts sink_old sink_new stream first ticks seen_old moments_old m) (sym crash) (subst (λ (s : Option (List ℕ)). Lasts sink_old s stream first ticks seen_old moments_old moments) (sym printed) (record {
      steps = along.steps;
      begun = along.steps;
      rest = [];
      ordered = sym (append-nil along.steps);
      few = let so_many = along.counted in omega (arith, so_many, le);
      follow = along.grows.follow;
      lines = prefix_whole sink_old sink (flat_map step_lines along.steps) along.grows.lines;
      each = λ base entries start has.
          let so = along.crash base entries start has in
          (so.1, now_all base entries along.steps moments (now_has base (entries ++ recorded_of along.steps) last.journal.log.gate seen moments so.0));
    }))

-- The journal has the records of all steps.
pub continues : (seen_old : Option (List ℕ)) (moments_old : List Moment) (seen : Option (List ℕ)) (moments : List Moment) (first : Kept) (last : Kept) (steps : List Step)
    → ((base : Stored) (entries : List TickRecord) → IsKeptAt base entries first seen_old moments_old → IsKeptAt base (entries ++ recorded_of steps) last seen moments)
    → Continues first seen_old moments_old seen steps
continues seen_old moments_old seen moments first last steps keeps base entries start =
    let end = keeps base entries start in
    whole_of base (entries ++ recorded_of steps) last.journal.log.gate seen moments end.journal

pub tick_rises : (stream : List Upload) (before : Held) (step : Step) → IsStep stream before step → step.after.world.tick ≡ before.world.tick + 1
tick_rises stream before step is = ap (λ w. w.tick) is.made.ruled ∙ next_world-tick (world_of before.world) step.runs

-- ---- a run from an opened journal

module _ (disk_old : Option (List ℕ)) (sink_old sink sink_new : Option (List ℕ)) (stream : List Upload) (world : Stored) (entries : List TickRecord) (kept : Kept) (seen : Option (List ℕ)) (moments : List Moment) (steps : List Step)
    (stood : Stood disk_old (world_as_read world) entries) (opened : IsKeptAt (world_as_read world) entries kept seen moments) (line : Appends sink_old sink (start_line kept.hosted.world)) where
  unfoldable pub prints : Grows sink sink_new stream kept.hosted steps → Prints disk_old sink_old sink_new stream world steps
  prints grows = record {
    entries = entries;
    first = kept.hosted;
    stood = stood;
    at_end = opened.at_end;
    follow = grows.follow;
    output_is = appends_more sink_old sink sink_new (start_line kept.hosted.world) (flat_map step_lines steps) line grows.lines;
  }

  unfoldable pub leaves : (disk_new : Option (List ℕ)) → Grows sink sink_new stream kept.hosted steps → Continues kept seen moments disk_new steps → Leaves disk_old disk_new sink_old sink_new stream world steps
  unfolding prints
  leaves disk_new grows more = record { prints = prints grows; journal_is = more (world_as_read world) entries opened }

  cuts_last : (earlier : List Step) (last : Step) → AppendsPart sink_old sink_new (output kept.hosted.world earlier) (step_lines last) → CutsLast sink_old sink_new kept.hosted.world (earlier ++ last ∷ [])
  cuts_last [] last part = ([], last, refl, part)
  cuts_last (step ∷ earlier) last part = (step ∷ earlier, last, refl, part)

  pub leaves_part : (disk_new : Option (List ℕ)) → GrowsPart sink sink_new stream kept.hosted steps → Continues kept seen moments disk_new steps → LeavesPart disk_old disk_new sink_old sink_new stream world steps
  leaves_part disk_new grows more = record {
    entries = entries;
    first = kept.hosted;
    stood = stood;
    at_end = opened.at_end;
    follow = grows.follow;
    journal_is = more (world_as_read world) entries opened;
    output_is = subst (CutsLast sink_old sink_new kept.hosted.world) (sym grows.ordered)
        (cuts_last grows.earlier grows.last (appends_part sink_old sink sink_new (start_line kept.hosted.world) (flat_map step_lines grows.earlier) (step_lines grows.last) line grows.lines));
  }

-- The opening line was cut off.
pub leaves_start : (disk_old : Option (List ℕ)) (sink_old sink_new : Option (List ℕ)) (stream : List Upload) (world : Stored) (entries : List TickRecord) (kept : Kept) (seen : Option (List ℕ)) (moments : List Moment)
    → Stood disk_old (world_as_read world) entries → IsKeptAt (world_as_read world) entries kept seen moments → AppendsPrefix sink_old sink_new (start_line kept.hosted.world) → LeavesPart disk_old seen sink_old sink_new stream world []
leaves_start disk_old sink_old sink_new stream world entries kept seen moments stood opened line = record {
  entries = entries;
  first = kept.hosted;
  stood = stood;
  at_end = opened.at_end;
  follow = opened.at_end.hosted;
  journal_is = subst (λ (l : List TickRecord). IfSome seen (IsWholeJournal (world_as_read world) l)) (sym (append-nil entries)) (whole_of (world_as_read world) entries kept.journal.log.gate seen moments opened.journal);
  output_is = line;
}
