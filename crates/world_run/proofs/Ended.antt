-- How a run of stored worlds ends is how a run of the worlds ends that they store.
use Rattle.std.proofs.Common.{◌≡◌, ◌⊎◌, ◌∙◌, ℕ, suc, List, ◌++◌, length, map, Option, Some, None, IfSome, inl, inr, refl, sym, ap, subst}
use Rattle.std.specs.Io.KnownBytes.{Appends}
use Rattle.object_store.specs.Stored.{Stored}
use Rattle.tick_journal.specs.BaseForms.{world_as_read}
use Rattle.tick_journal.specs.Contents.{base_content}
use Rattle.tick_journal.specs.declared.tick_record.TickRecord.{TickRecord}
use Rattle.tick_journal.proofs.BaseContents.{as_read_same}
use Rattle.world_io.specs.Causes.{Rose}
use Rattle.world_journal.specs.Faults.{FailsAt}
use Rattle.world_journal.specs.Journals.{IsJournal, IsWholeJournal}
use Rattle.world_rules.specs.Sound.{IsSound}
use Rattle.world_rules.specs.World.{World, world_of}
use Rattle.world_form.specs.declared.fault.WorldFault.{WorldFault}
use Rattle.upload_stream.specs.Streams.{Upload}
use Rattle.hosted_tick.specs.Hosting.{Held, state_of}
use Rattle.hosted_tick.specs.Next.{State}
use Rattle.run_status.specs.declared.status.Status.{Status}
use Rattle.run_status.specs.declared.status.Status.TheVariants as statuses
use Rattle.command_words.specs.Words.{AreRunBy, Asks, AsksAtLeast}
use Rattle.world_replay.specs.Listed.{listed}
use Rattle.world_replay.specs.Differing.{DifferAt}
use Rattle.world_replay.specs.Serials.{HasRunOut, IsExhausted}
use Rattle.world_run.specs.Runs.{Follow, HasOther, IsKept, IsPastWords, ReadsWorld, ReadsFault, ReadsUploads, ReadsBad, Stood, last_of, output, recorded_of, resumed}
use Rattle.world_run.specs.inner.Held as held
use Rattle.world_run.specs.inner.Stages.{IsOfRun, IsPastWorld, IsPastUploads, IsBeforeJournal}
use Rattle.world_run.specs.Ends.{Outside, CutsLast, Keeps, Makes, Leaves, LeavesPart, Asked, Ends, start_of}
use Rattle.world_replay.proofs.Listing.{file_listed, exhausted_shown}
use Rattle.world_run.proofs.Worldly.{shown, follow_shown, last_shown, many_shown, output_left, cuts_left, records_shown, start_is}

module _ (most : ℕ) (words : List (List ℕ)) (old new : Outside) where
  -- Some ticks of stored worlds, of which this is known.
  abbrev Stored_made : (Stored → List Upload → List held.Step → Type 0) → Type 0
  Stored_made Known =
      (first : Stored) × (stream : List Upload) × (steps : List held.Step) × Known first stream steps

  abbrev Read : Stored → List Upload → Type 0
  Read first stream = ReadsWorld old.world new.world (world_of first) × ReadsUploads old.uploads new.uploads stream

  -- what is known of a run of stored worlds
  pub record IsStored (status : Status) : Type 0 where
    pub done : status ≡ statuses.Done → (first : Stored) × (stream : List Upload) × (steps : List held.Step)
        × Asks most words (length steps) × ReadsWorld old.world new.world (world_of first) × IsSound first × ReadsUploads old.uploads new.uploads stream
        × held.Leaves old.disk new.disk old.written new.written stream first steps
    pub only : IsOfRun status
    pub usage : status ≡ statuses.Usage → AreRunBy most words → ⊥
    pub said : IsPastWords status → AreRunBy most words
    pub world_refused : (fault : WorldFault) → status ≡ statuses.World fault → ReadsFault old.world new.world fault
    pub world_accepted : IsPastWorld status → (found : World) × ReadsWorld old.world new.world found
    pub uploads_refused : (at : ℕ) → status ≡ statuses.Uploads at → ReadsBad old.uploads new.uploads at
    pub uploads_accepted : IsPastUploads status → (stream : List Upload) × ReadsUploads old.uploads new.uploads stream
    pub journal_refused : (at : ℕ) → status ≡ statuses.NotAJournal at → IfSome old.disk (FailsAt at) × (new.disk ≡ old.disk) × (new.written ≡ old.written)
    pub other : (at : ℕ) (kept given : Option ℕ) → status ≡ statuses.OtherWorld at kept given → (first : Stored) × ReadsWorld old.world new.world (world_of first) × IsSound first
        × IfSome old.disk (λ bytes. (base : Stored) × (entries : List TickRecord) × IsJournal base entries bytes × DifferAt at kept given (base_content base) (base_content first))
    pub other_kept : (at : ℕ) (kept given : Option ℕ) → status ≡ statuses.OtherWorld at kept given → IsKept old.disk new.disk × (new.written ≡ old.written)
    pub exhausted : (index : ℕ) → status ≡ statuses.IdsExhausted index → (first : Stored) × (stream : List Upload) × (steps : List held.Step)
        × AsksAtLeast most words (suc (length steps)) × ReadsWorld old.world new.world (world_of first) × IsSound first × ReadsUploads old.uploads new.uploads stream
        × (leaves : held.Leaves old.disk new.disk old.written new.written stream first steps)
        × HasRunOut (held.last_of leaves.prints.first steps).world index
    pub read_fault : status ≡ statuses.ReadFault → (Rose old.world_faults new.world_faults × (new.uploads ≡ old.uploads))
        ⊎ (Rose old.uploads_faults new.uploads_faults × ((found : World) × ReadsWorld old.world new.world found))
    pub write_fault : status ≡ statuses.WriteFault → Rose old.sink_faults new.sink_faults
    pub disk_fault : status ≡ statuses.DiskFault → Rose old.disk_faults new.disk_faults
    pub untouched : IsBeforeJournal status → (new.disk ≡ old.disk) × (new.written ≡ old.written)
    pub write_stopped : status ≡ statuses.WriteFault → (first : Stored) × (stream : List Upload) × (steps : List held.Step)
        × AsksAtLeast most words (length steps) × ReadsWorld old.world new.world (world_of first) × IsSound first × ReadsUploads old.uploads new.uploads stream
        × held.LeavesPart old.disk new.disk old.written new.written stream first steps
    pub disk_stopped : status ≡ statuses.DiskFault → (new.written ≡ old.written)
        ⊎ ((first : Stored) × (stream : List Upload) × (steps : List held.Step)
        × AsksAtLeast most words (length steps) × ReadsWorld old.world new.world (world_of first) × IsSound first × ReadsUploads old.uploads new.uploads stream
        × held.Prints old.disk old.written new.written stream first steps)
    pub memory_stopped : status ≡ statuses.Memory → (IsKept old.disk new.disk × (new.written ≡ old.written))
        ⊎ ((first : Stored) × (stream : List Upload) × (steps : List held.Step)
        × AsksAtLeast most words (length steps) × ReadsWorld old.world new.world (world_of first) × IsSound first × ReadsUploads old.uploads new.uploads stream
        × held.Leaves old.disk new.disk old.written new.written stream first steps)
    pub unread : status ≡ statuses.Usage → (new.world ≡ old.world) × (new.uploads ≡ old.uploads)
    pub uploads_unread : (fault : WorldFault) → status ≡ statuses.World fault → new.uploads ≡ old.uploads

  module _ (world : Stored) (stream : List Upload) (steps : List held.Step) (read : ReadsWorld old.world new.world (world_of world)) (sound : IsSound world) (uploads : ReadsUploads old.uploads new.uploads stream) where
    base_is : listed (world_of world) ≡ world_as_read world
    base_is = file_listed world sound

    module _ (entries : List TickRecord) (first : Held) (at : held.IsAt (world_as_read world) entries first) (follow : held.Follow stream first steps) where
      start : state_of first ≡ resumed (listed (world_of world)) entries
      start = start_is (world_as_read world) entries first at ∙ ap (λ (b : Stored). resumed b entries) (sym base_is)

      made : Stood old.disk (world_as_read world) entries → Makes most words old new (world_of world) stream entries (map shown steps)
      made stood = record {
        world = read;
        uploads = uploads;
        stood = subst (λ (b : Stored). Stood old.disk b entries) (sym base_is) stood;
        follow = subst (λ (s : State). Follow stream s (map shown steps)) start (follow_shown stream first steps follow);
      }

      kept : IfSome new.disk (IsWholeJournal (world_as_read world) (entries ++ held.recorded_of steps)) → Keeps most words old new (world_of world) entries (map shown steps)
      kept is =
          subst (λ (b : Stored). IfSome new.disk (IsWholeJournal b (entries ++ recorded_of (map shown steps)))) (sym base_is)
          (subst (λ (l : List TickRecord). IfSome new.disk (IsWholeJournal (world_as_read world) (entries ++ l))) (sym (records_shown steps)) is)

      given : Appends old.written new.written (held.output first.world steps) → Appends old.written new.written (output (start_of most words old new (world_of world) entries) (map shown steps))
      given is = subst (λ (s : State). Appends old.written new.written (output s.world (map shown steps))) start (output_left stream first steps follow old.written new.written is)

      cut : held.CutsLast old.written new.written first.world steps → CutsLast old.written new.written (start_of most words old new (world_of world) entries) (map shown steps)
      cut is = subst (λ (s : State). CutsLast old.written new.written s.world (map shown steps)) start (cuts_left stream first steps follow old.written new.written is)

    left : (l : held.Leaves old.disk new.disk old.written new.written stream world steps) → Leaves most words old new (world_of world) stream l.prints.entries (map shown steps)
    left l =
        let p = l.prints in
        record {
          makes = made p.entries p.first p.at_end p.follow p.stood;
          journal_is = kept p.entries p.first p.at_end p.follow l.journal_is;
          output_is = given p.entries p.first p.at_end p.follow p.output_is;
        }

    left_part : (l : held.LeavesPart old.disk new.disk old.written new.written stream world steps) → LeavesPart most words old new (world_of world) stream l.entries (map shown steps)
    left_part l = record {
      makes = made l.entries l.first l.at_end l.follow l.stood;
      journal_is = kept l.entries l.first l.at_end l.follow l.journal_is;
      output_is = cut l.entries l.first l.at_end l.follow l.output_is;
    }

    asked : AsksAtLeast most words (length steps) → Asked most words old new (map shown steps)
    asked asks = subst (AsksAtLeast most words) (sym (many_shown steps)) asks

    exhausted_here : (entries : List TickRecord) (first : Held) → held.IsAt (world_as_read world) entries first → held.Follow stream first steps → (index : ℕ)
        → HasRunOut (held.last_of first steps).world index → IsExhausted (last_of (resumed (listed (world_of world)) entries) (map shown steps)).world index
    exhausted_here entries first at follow index is =
        let here = exhausted_shown (held.last_of first steps).world index is in
        let last = sym (ap (λ (s : State). s.world) (last_shown first steps)) in
        subst (λ (s : State). IsExhausted (last_of s (map shown steps)).world index) (start entries first at follow)
        (subst (λ (w : World). IsExhausted w index) last here)

  other_listed : (at : ℕ) (kept given : Option ℕ) (world : Stored) → IsSound world → (disk : Option (List ℕ))
      → IfSome disk (λ bytes. (base : Stored) × (entries : List TickRecord) × IsJournal base entries bytes × DifferAt at kept given (base_content base) (base_content world))
      → IfSome disk (HasOther at kept given (world_of world))
  other_listed at kept given world sound None h = tt
  other_listed at kept given world sound (Some bytes) h = record {
    base = h.0;
    entries = h.1;
    is = h.2;
    contents = subst (DifferAt at kept given (base_content h.0)) (sym (ap base_content (file_listed world sound) ∙ as_read_same world)) h.3;
  }

  ends_as : (status : Status) → IsStored status → Ends most words old new status
  ends_as statuses.Done h =
      let d = h.done refl in
      (world_of d.0, d.1, d.7.prints.entries, map shown d.2, (subst (Asks most words) (sym (many_shown d.2)) d.3, left d.0 d.1 d.2 d.4 d.5 d.6 d.7))
  ends_as statuses.Usage h = let read = h.unread refl in (h.usage refl, h.untouched tt, read.0, read.1)
  ends_as (statuses.World fault) h = (h.said tt, h.world_refused fault refl, h.untouched tt, h.uploads_unread fault refl)
  ends_as (statuses.Uploads at) h = (h.said tt, h.world_accepted tt, h.uploads_refused at refl, h.untouched tt)
  ends_as statuses.ReadFault h = (h.said tt, h.read_fault refl, h.untouched tt)
  ends_as statuses.WriteFault h =
      let d = h.write_stopped refl in
      (h.write_fault refl, (world_of d.0, d.1, d.7.entries, map shown d.2, (asked d.0 d.1 d.2 d.4 d.5 d.6 d.3, left_part d.0 d.1 d.2 d.4 d.5 d.6 d.7)))
  ends_as statuses.DiskFault h = (
    h.said tt,
    h.world_accepted tt,
    h.uploads_accepted tt,
    h.disk_fault refl,
    elim (h.disk_stopped refl) [
      | inl same ↦ inl same
      | inr d ↦ inr (world_of d.0, d.1, d.7.entries, map shown d.2, (asked d.0 d.1 d.2 d.4 d.5 d.6 d.3, made d.0 d.1 d.2 d.4 d.5 d.6 d.7.entries d.7.first d.7.at_end d.7.follow d.7.stood, given d.0 d.1 d.2 d.4 d.5 d.6 d.7.entries d.7.first d.7.at_end d.7.follow d.7.output_is))
    ],
  )
  ends_as (statuses.NotAJournal at) h =
      let refused = h.journal_refused at refl in
      (h.said tt, h.world_accepted tt, h.uploads_accepted tt, refused.0, (refused.1, refused.2))
  ends_as (statuses.OtherWorld at kept given) h =
      let d = h.other at kept given refl in
      let left = h.other_kept at kept given refl in
      (h.said tt, h.uploads_accepted tt, (world_of d.0, d.1, other_listed at kept given d.0 d.2 old.disk d.3), record { disk = left.0; sink = left.1 })
  ends_as (statuses.IdsExhausted index) h =
      let d = h.exhausted index refl in
      let asks = subst (λ (n : ℕ). AsksAtLeast most words (suc n)) (sym (many_shown d.2)) d.3 in
      let p = d.7.prints in
      (world_of d.0, d.1, p.entries, map shown d.2, (asks, left d.0 d.1 d.2 d.4 d.5 d.6 d.7, exhausted_here d.0 d.1 d.2 d.4 d.5 d.6 p.entries p.first p.at_end p.follow index d.8))
  ends_as statuses.Memory h = elim (h.memory_stopped refl) [
    | inl same ↦ inl (record { disk = same.0; sink = same.1 })
    | inr d ↦ inr (world_of d.0, d.1, d.7.prints.entries, map shown d.2, (asked d.0 d.1 d.2 d.4 d.5 d.6 d.3, left d.0 d.1 d.2 d.4 d.5 d.6 d.7))
  ]
  ends_as (statuses.Refused refusal) h = h.only
  ends_as (statuses.NoSuchTick first last) h = h.only
  ends_as (statuses.Differs tick room at kept ruled) h = h.only
  ends_as statuses.NoJournal h = h.only

pub stored_ends : (most : ℕ) (words : List (List ℕ)) (old new : Outside) (status : Status) → IsStored most words old new status → Ends most words old new status
stored_ends most words old new status h = ends_as most words old new status h
