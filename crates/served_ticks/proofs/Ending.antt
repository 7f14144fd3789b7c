-- How served ticks end, from the ticks so far.
use Rattle.std.proofs.Common.{◌≡◌, ◌≢◌, inl, inr, ℕ, ◌+◌, ◌<◌, ◌≤◌, List, [], ◌∷◌, ◌++◌, length, map, Option, None, IfSome, refl, sym, subst, ◌∙◌, arith}
use Rattle.std.proofs.lemmas.List.{append-nil}
use Rattle.frame_log.specs.Frames.{IsLog}
use Rattle.hosted_tick.specs.Hosting.{Held, IsHosted}
use Rattle.object_store.specs.Stored.{Stored}
use Rattle.run_status.specs.declared.status.Status.{Status}
use Rattle.run_status.specs.declared.status.Status.TheVariants as statuses
use Rattle.tick_journal.specs.declared.tick_record.TickRecord.{TickRecord}
use Rattle.upload_stream.specs.Streams.{Upload}
use Rattle.world_hub.specs.declared.summary.Summary.{Summary}
use Rattle.world_io.specs.Causes.{Rose}
use Rattle.world_io.specs.Moments.{LeavesNow, LeavesSince, Moment}
use Rattle.world_journal.specs.Journals.{HasJournal, IsQuiet, IsWholeJournal}
use Rattle.world_replay.specs.Serials.{HasRunOut}
use Rattle.world_run.specs.Images.{HasAtLeast}
use Rattle.world_run.specs.inner.Held as held
use Rattle.world_run.specs.inner.Stages.{IsOfMaking}
use Rattle.world_run.proofs.Crashes.{now_before, since_more}
use Rattle.world_run.proofs.RunsLists.{Along, Further, follow_more, whole_of}
use Rattle.served_ticks.specs.Serving.{Around, Serves, Takes}
use Rattle.served_ticks.specs.declared.served.Served.{Served as ServedWorld}
use Rattle.served_ticks.specs.inner.OneTick.{AreOf, HasCounts, IsStopped, IsUnmade, IsUntold, MayGoOn}
use Rattle.served_ticks.proofs.Serves.{crash_so_far, ends_unmade, log_quiet, served_shown}
use Rattle.served_ticks.proofs.Steps.{SoFar, along_on, along_wide, given_now}

module _ (base : Stored) (entries : List TickRecord) (ticks : ℕ) (old : Around) (first : ServedWorld) (count : ℕ) (last : ServedWorld) (seen : Option (List ℕ)) (moments : List Moment) (summaries : List Summary) (stream : List Upload)
    (so_far : SoFar old.disk old.moments seen moments first count last summaries stream) (at : held.IsKeptAt base entries first.kept old.disk old.moments) (has : HasCounts entries first) where
  abbrev gate : ℕ
  gate = first.kept.journal.log.gate

  abbrev steps : List held.Step
  steps = so_far.along.steps

  whole : IfSome seen (IsWholeJournal base (entries ++ held.recorded_of steps))
  whole = whole_of base (entries ++ held.recorded_of steps) last.kept.journal.log.gate seen moments (so_far.along.keeps base entries at).journal

  -- All ticks were made and told.
  pub all_served : (new : Around) → new.disk ≡ seen → new.moments ≡ moments → new.faults ≡ old.faults → count ≡ ticks → IsLog last.kept.journal.log.gate seen moments → Takes base entries gate ticks old new stream → new.sight.published ≡ old.sight.published ++ summaries
      → Serves base entries gate ticks old new statuses.Done
  all_served new same_disk same_moments steady many log takes published =
      let are = so_far.are base entries at has in
      let counted = so_far.along.counted in
      served_shown base entries gate ticks old new first.kept.hosted statuses.Done at.at_end (record {
        stream = stream;
        steps = steps;
        follow = so_far.along.grows.follow;
        given = so_far.given;
        rest = [];
        takes = subst (Takes base entries gate ticks old new) (sym (append-nil stream)) takes;
        told = steps;
        untold = [];
        split = sym (append-nil steps);
        summaries = summaries;
        are = are.0;
        published = published;
        ends = (Rattle.world_run.proofs.Worldly.many_shown steps ∙ (counted ∙ many), refl, refl);
        journal = λ other. subst (λ (s : Option (List ℕ)). IfSome s (IsWholeJournal base (entries ++ held.recorded_of steps))) (sym same_disk) whole;
        quiet = λ other. subst (λ (s : Option (List ℕ)). IsQuiet s new.moments) (sym same_disk) (subst (λ (m : List Moment). IsQuiet seen m) (sym same_moments) (log_quiet last.kept.journal.log.gate seen moments log));
        more = [];
        few = omega arith;
        further = subst (λ (l : List Upload). held.Follow l first.kept.hosted (steps ++ [])) (sym (append-nil stream)) (subst (held.Follow stream first.kept.hosted) (sym (append-nil steps)) so_far.along.grows.follow);
        lasts = λ there. subst (λ (l : List held.Step). LeavesSince (HasAtLeast 0 base entries (held.recorded_of l)) old.moments new.moments × LeavesNow (HasAtLeast (length steps) base entries (held.recorded_of l)) new.moments) (sym (append-nil steps))
            (subst (λ (m : List Moment). LeavesSince (HasAtLeast 0 base entries (held.recorded_of steps)) old.moments m × LeavesNow (HasAtLeast (length steps) base entries (held.recorded_of steps)) m) (sym same_moments)
            (crash_so_far old.disk old.moments seen moments stream first.kept count last.kept so_far.along base entries at there));
        steady = λ other. steady;
        later = omega (arith, steady);
      })

  -- A further tick was not told.
  module _ (new : Around) (given : List Upload) (status : Status) (goes_on : MayGoOn last seen moments) (tick : last.kept.hosted.world.tick ≡ first.kept.hosted.world.tick + count) (are_of : AreOf last.kept.hosted.world.tick given) (less : count < ticks)
      (takes : Takes base entries gate ticks old new (stream ++ given)) (published : new.sight.published ≡ old.sight.published ++ summaries) (of : IsOfMaking status) (fault : status ≡ statuses.DiskFault → Rose old.faults new.faults)
      (steady : status ≢ statuses.DiskFault → new.faults ≡ old.faults) (rises : old.faults ≤ new.faults) where
    abbrev wide : Along old.disk old.moments seen moments None None (stream ++ given) first.kept count last.kept
    wide = along_wide old.disk old.moments seen moments first count last summaries stream given so_far goes_on.hosted tick are_of

    wide_follow : held.Follow (stream ++ given) first.kept.hosted steps
    wide_follow = wide.grows.follow

    abbrev Lasting : List held.Step → Type 0
    Lasting all = HasJournal base entries gate old.disk old.moments → LeavesSince (HasAtLeast 0 base entries (held.recorded_of all)) old.moments new.moments × LeavesNow (HasAtLeast (length steps) base entries (held.recorded_of all)) new.moments

    unmade_by : (more : List held.Step) → length more ≤ 1 → held.Follow (stream ++ given) first.kept.hosted (steps ++ more) → Lasting (steps ++ more) → (status ≢ statuses.DiskFault → (new.disk ≡ seen) × (new.moments ≡ moments))
        → ((index : ℕ) → status ≡ statuses.IdsExhausted index → HasRunOut last.kept.hosted.world index) → Serves base entries gate ticks old new status
    unmade_by more few further lasts same out =
        let are = so_far.are base entries at has in
        let counted = so_far.along.counted in
        served_shown base entries gate ticks old new first.kept.hosted status at.at_end (record {
          stream = stream;
          steps = steps;
          follow = so_far.along.grows.follow;
          given = so_far.given;
          rest = given;
          takes = takes;
          told = steps;
          untold = [];
          split = sym (append-nil steps);
          summaries = summaries;
          are = are.0;
          published = published;
          ends = ends_unmade base entries gate ticks old new first.kept.hosted status at.at_end steps given of (omega (arith, counted, less)) (λ index is. subst (λ (h : Held). HasRunOut h.world index) (sym so_far.along.ended) (out index is)) fault;
          journal = λ other. subst (λ (s : Option (List ℕ)). IfSome s (IsWholeJournal base (entries ++ held.recorded_of steps))) (sym (same other).0) whole;
          quiet = λ other. subst (λ (s : Option (List ℕ)). IsQuiet s new.moments) (sym (same other).0) (subst (λ (m : List Moment). IsQuiet seen m) (sym (same other).1) (log_quiet last.kept.journal.log.gate seen moments goes_on.log));
          more = more;
          few = few;
          further = further;
          lasts = lasts;
          steady = steady;
          later = rises;
        })

    -- It was not recorded, as far as is known.
    pub unmade : IsUnmade given last.kept seen moments new.disk new.moments status → Serves base entries gate ticks old new status
    unmade it = elim it.lost [
      | inl same ↦ unmade_by [] (omega arith) (subst (held.Follow (stream ++ given) first.kept.hosted) (sym (append-nil steps)) wide_follow)
          (λ there. subst (λ (l : List held.Step). LeavesSince (HasAtLeast 0 base entries (held.recorded_of l)) old.moments new.moments × LeavesNow (HasAtLeast (length steps) base entries (held.recorded_of l)) new.moments) (sym (append-nil steps))
          (subst (λ (m : List Moment). LeavesSince (HasAtLeast 0 base entries (held.recorded_of steps)) old.moments m × LeavesNow (HasAtLeast (length steps) base entries (held.recorded_of steps)) m) (sym same)
          (crash_so_far old.disk old.moments seen moments stream first.kept count last.kept so_far.along base entries at there)))
          it.same it.exhausted
      | inr lost ↦ unmade_by (lost.step ∷ []) (omega arith)
          (follow_more (stream ++ given) first.kept.hosted steps lost.step wide_follow (subst (λ (h : Held). Rattle.world_rules.specs.Sound.HaveSerials h.world.rooms) (sym so_far.along.ended) lost.serials)
          (subst (λ (h : Held). held.IsStep (stream ++ given) h lost.step) (sym so_far.along.ended) (lost.is (stream ++ given) (given_now old.disk old.moments seen moments first count last summaries stream given so_far goes_on.hosted tick are_of))) lost.hosted)
          (λ there.
          let behind = so_far.along.keeps base entries at in
          let so = so_far.along.crash base entries at there in
          let next = lost.each base (entries ++ held.recorded_of steps) behind so.0 in (
            since_more base entries steps lost.step old.moments moments new.moments so.1 next,
            now_before base entries steps lost.step last.kept.journal.log.gate seen moments new.moments so.0 next,
          ))
          it.same it.exhausted
    ]

    -- It was recorded, and not told for want of memory.
    pub untold : IsUntold given last.kept seen moments new.disk new.moments status → Serves base entries gate ticks old new status
    untold it =
        let added = it.added in
        let step = added.step in
        let own = given_now old.disk old.moments seen moments first count last summaries stream given so_far goes_on.hosted tick are_of in
        let step_is = added.is (stream ++ given) own in
        let behind : Further (stream ++ given) last.kept.hosted step = record { serials = added.serials; step_is = step_is; hosted = subst (λ (h : Held). IsHosted h.world) (sym added.after) it.hosted } in
        let along = along_on old.disk old.moments seen moments first count last summaries stream given so_far goes_on.hosted tick are_of it.next new.disk new.moments step added.after behind added.keeps added.each added.has in
        let are = so_far.are base entries at has in
        let counted = along.counted in
        let nothing = append-nil (stream ++ given) in
        let no_fault : status ≢ statuses.DiskFault = λ is. not_fault (sym it.memory ∙ is) in
        served_shown base entries gate ticks old new first.kept.hosted status at.at_end (record {
          stream = stream ++ given;
          steps = along.steps;
          follow = along.grows.follow;
          given = Rattle.served_ticks.proofs.Steps.given_further old.disk old.moments seen moments first count last summaries stream given so_far goes_on.hosted tick are_of step step_is;
          rest = [];
          takes = subst (Takes base entries gate ticks old new) (sym nothing) takes;
          told = steps;
          untold = step ∷ [];
          split = refl;
          summaries = summaries;
          are = are.0;
          published = published;
          ends = subst (λ (s : Status). Rattle.served_ticks.specs.Serving.Ends base entries gate ticks old new (map Rattle.world_run.proofs.Worldly.shown along.steps) (map Rattle.world_run.proofs.Worldly.shown (step ∷ [])) [] s) (sym it.memory)
              (let many = Rattle.world_run.proofs.Worldly.many_shown along.steps in (omega (arith, many, counted, less), omega arith));
          journal = λ other. whole_of base (entries ++ held.recorded_of along.steps) it.next.journal.log.gate new.disk new.moments (along.keeps base entries at).journal;
          quiet = λ other. log_quiet it.next.journal.log.gate new.disk new.moments it.log;
          more = [];
          few = omega arith;
          further = subst (λ (l : List Upload). held.Follow l first.kept.hosted (along.steps ++ [])) (sym nothing) (subst (held.Follow (stream ++ given) first.kept.hosted) (sym (append-nil along.steps)) along.grows.follow);
          lasts = λ there. subst (λ (l : List held.Step). LeavesSince (HasAtLeast 0 base entries (held.recorded_of l)) old.moments new.moments × LeavesNow (HasAtLeast (length along.steps) base entries (held.recorded_of l)) new.moments) (sym (append-nil along.steps))
              (crash_so_far old.disk old.moments new.disk new.moments (stream ++ given) first.kept (count + 1) it.next along base entries at there);
          steady = steady;
          later = rises;
        })
      where
        not_fault : statuses.Memory ≡ statuses.DiskFault → ⊥
        not_fault is = cc

    pub stopped : (sight_old : Rattle.world_hub.specs.declared.status.Sight.Sight) → IsStopped given last.kept seen moments sight_old new.disk new.moments new.sight status → Serves base entries gate ticks old new status
    stopped sight_old it = elim it.fate [
      | inl told ↦ untold told
      | inr made ↦ unmade made
    ]
