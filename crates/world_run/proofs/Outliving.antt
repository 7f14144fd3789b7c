-- What a crash leaves of a run of stored worlds is what it leaves of a run of the worlds that they store.
use Rattle.std.proofs.Common.{◌≡◌, ◌≤◌, ◌⊎◌, ◌∙◌, arith, ℕ, List, [], ◌∷◌, ◌++◌, length, map, inl, inr, refl, sym, ap, subst}
use Rattle.std.proofs.lemmas.List.{map-append}
use Rattle.object_store.specs.Stored.{Stored}
use Rattle.tick_journal.specs.declared.tick_record.TickRecord.{TickRecord}
use Rattle.upload_stream.specs.Streams.{Upload}
use Rattle.hosted_tick.specs.Hosting.{Held}
use Rattle.hosted_tick.specs.Next.{State}
use Rattle.world_io.specs.Moments.{LeavesNow, LeavesSince, Rests}
use Rattle.world_io.specs.Told.{AppendsPrefix}
use Rattle.world_rules.specs.Sound.{IsSound}
use Rattle.world_rules.specs.World.{world_of}
use Rattle.world_replay.proofs.Listing.{file_listed}
use Rattle.world_run.specs.Runs.{Follow, ReadsUploads, ReadsWorld, output, recorded_of}
use Rattle.command_words.specs.Words.{Asks}
use Rattle.world_run.specs.Ends.{Began, Outlasts, Outlives, Outside}
use Rattle.world_run.specs.inner.Held as held
use Rattle.world_run.specs.Images.{HasAtLeast}
use Rattle.world_run.specs.inner.Crashes as crashes
use Rattle.world_run.proofs.Worldly.{follow_shown, many_shown, output_same, records_shown, shown, start_is}

follow_front : (stream : List Upload) (first : Held) (begun rest : List held.Step) → held.Follow stream first (begun ++ rest) → held.Follow stream first begun
follow_front stream first [] [] f = f
follow_front stream first [] (step ∷ rest) f = f.0
follow_front stream first (step ∷ begun) rest f = (f.0, f.1, f.2, follow_front stream step.after begun rest f.3)

module _ (most : ℕ) (words : List (List ℕ)) (old new : Outside) where
  outlasts_shown : (stream : List Upload) (bytes : List ℕ) (base : Stored) (entries : List TickRecord) (count : ℕ) → Asks most words count → crashes.Outlasts old.written new.written stream bytes base entries count old.moments new.moments → Outlasts most words old new stream bytes base entries
  outlasts_shown stream bytes base entries count asks o = elim o.printed [
    | inl same ↦ record {
      steps = [];
      begun = [];
      rest = [];
      ordered = refl;
      asked = (count, omega arith, asks);
      follow = tt;
      opened = o.opened;
      opening = o.opening;
      lasting = subst (λ (l : List held.Step). LeavesSince (HasAtLeast 0 base entries (held.recorded_of l)) o.opened new.moments) same.1 o.lasting;
      printed = inl same.0;
    }
    | inr p ↦ (
        let start = start_is base entries p.0 p.1 in
        let front = follow_front stream p.0 o.begun o.rest (subst (λ (l : List held.Step). held.Follow stream p.0 l) o.ordered p.2) in
        let lines : AppendsPrefix old.written new.written (output (world_of p.0.world) (map shown o.begun)) = subst (λ (l : List ℕ). AppendsPrefix old.written new.written l) (sym (output_same stream p.0 o.begun front)) p.3 in
        record {
          steps = map shown o.steps;
          begun = map shown o.begun;
          rest = map shown o.rest;
          ordered = ap (λ (l : List held.Step). map shown l) o.ordered ∙ map-append shown o.begun o.rest;
          asked = (count, subst (λ (n : ℕ). n ≤ count) (sym (many_shown o.steps)) o.few, asks);
          follow = subst (λ (s : State). Follow stream s (map shown o.steps)) start (follow_shown stream p.0 o.steps p.2);
          opened = o.opened;
          opening = o.opening;
          lasting = subst (λ (l : List TickRecord). LeavesSince (HasAtLeast 0 base entries l) o.opened new.moments) (sym (records_shown o.steps)) o.lasting;
          printed = inr (
            subst (λ (s : State). AppendsPrefix old.written new.written (output s.world (map shown o.begun))) start lines,
            subst (λ (n : ℕ). LeavesNow (HasAtLeast n base entries (recorded_of (map shown o.steps))) new.moments) (sym (many_shown o.begun))
                (subst (λ (l : List TickRecord). LeavesNow (HasAtLeast (length o.begun) base entries l) new.moments) (sym (records_shown o.steps)) p.4),
          );
        })
  ]

  stood_as : (world : Stored) (bytes : List ℕ) (base : Stored) (entries : List TickRecord) → IsSound world → Began most words old new (world_of world) bytes base entries → crashes.StoodAs world bytes base entries
  stood_as world bytes base entries sound (inl none) = inl (none.0, none.1 ∙ file_listed world sound, none.2)
  stood_as world bytes base entries sound (inr is) = inr is

  pub outlives_shown : ((bytes : List ℕ) → Rests bytes old.disk old.moments
      → ((new.moments ≡ old.moments) × (new.disk ≡ old.disk) × (new.written ≡ old.written))
      ⊎ ((first : Stored) × (stream : List Upload) × (count : ℕ) × Asks most words count × ReadsWorld old.world new.world (world_of first) × IsSound first × ReadsUploads old.uploads new.uploads stream
      × ((base : Stored) (entries : List TickRecord) → crashes.StoodAs first bytes base entries → crashes.Outlasts old.written new.written stream bytes base entries count old.moments new.moments)))
      → Outlives most words old new
  outlives_shown h = λ bytes rests. elim (h bytes rests) [
    | inl same ↦ inl (same.0, (same.1, same.2))
    | inr d ↦ inr (world_of d.0, d.1, d.4, d.6, λ base entries began. outlasts_shown d.1 bytes base entries d.2 d.3 (d.7 base entries (stood_as d.0 bytes base entries d.5 began)))
  ]
