-- How each stage ends the serving of a world.
use Rattle.std.proofs.Common.{◌≡◌, ◌⊎◌, ◌∙◌, ℕ, ◌≤◌, List, [], ◌++◌, length, Option, Some, None, IfSome, inl, inr, refl, sym, ap, subst, arith}
use Rattle.std.specs.Prelude.{◌≢◌}
use Rattle.std.proofs.lemmas.List.{append-nil}
use Rattle.command_words.specs.Words.{AreServe, AsksToServe}
use Rattle.object_store.specs.Stored.{Stored}
use Rattle.run_status.specs.declared.status.Status.{Status}
use Rattle.run_status.specs.declared.status.Status.TheVariants as statuses
use Rattle.served_ticks.specs.Serving as ticks_of
use Rattle.tick_journal.specs.BaseForms.{world_as_read}
use Rattle.tick_journal.specs.Contents.{base_content}
use Rattle.tick_journal.specs.declared.tick_record.TickRecord.{TickRecord}
use Rattle.tick_journal.proofs.BaseContents.{as_read_same}
use Rattle.world_form.specs.declared.fault.WorldFault.{WorldFault}
use Rattle.world_form.specs.Files.{WorldForm}
use Rattle.world_io.specs.Causes.{Rose}
use Rattle.world_io.specs.Disk.{TellsAlike}
use Rattle.world_io.specs.Moments.{IsLeftNow, LeavesSince, Moment, Rests, no_moment}
use Rattle.world_io.specs.Told.{GaveAll}
use Rattle.world_journal.specs.Faults.{FailsAt}
use Rattle.world_journal.specs.Journals.{HasJournal, IsJournal, IsQuiet, IsWholeJournal}
use Rattle.world_replay.specs.Differing.{DifferAt}
use Rattle.world_replay.specs.Listed.{listed}
use Rattle.world_replay.proofs.Listing.{file_listed}
use Rattle.world_rules.specs.Sound.{IsSound}
use Rattle.world_rules.specs.World.{World, world_of}
use Rattle.world_run.specs.Images.{HasAtLeast, IsOpening}
use Rattle.world_hub.specs.declared.queue.Hand.{Hand}
use Rattle.world_hub.specs.declared.status.Sight.{Sight}
use Rattle.world_replay.specs.Serials.{IsExhausted}
use Rattle.world_run.specs.Runs.{Follow, HasOther, IsKept, ReadsFault, ReadsWorld, Stood, last_of, recorded_of, resumed}
use Rattle.world_run.specs.inner.Crashes.{StoodAs}
use Rattle.world_run.specs.inner.Stages.{IsOfOpening, IsOfWords, IsOfWorld}
use Rattle.world_run.proofs.Crashes.{same_stood, told_still}
use Rattle.world_run.proofs.Worldly.{file_read}
use Rattle.shared_serve.specs.Served.{Began, Ends, IsGood, IsWhole, Keeps, Makes, Outlives, Outside, Serves}

-- ---- the words

pub are_serve : (words : List (List ℕ)) (ticks : ℕ) → AsksToServe words ticks → AreServe words
are_serve words ticks asks = (asks.0, asks.1, ticks, asks.2, asks.3, asks.4, asks.5, asks.6)

words_end : (words : List (List ℕ)) (old : Outside) (status : Status) → IsOfWords status → (status ≡ statuses.Usage → AreServe words → ⊥) → Ends words old old status
words_end words old statuses.Usage of usage = (usage refl, refl, refl)
words_end words old statuses.Memory of usage = inl (inl refl)
words_end words old status of usage = absurd of

words_whole : (words : List (List ℕ)) (status : Status) → IsOfWords status → (status ≡ statuses.Usage → AreServe words → ⊥) → AreServe words → status ≡ statuses.Memory
words_whole words statuses.Usage of usage serve = absurd (usage refl serve)
words_whole words statuses.Memory of usage serve = refl
words_whole words status of usage serve = absurd of

-- The words ended it.
pub of_words : (words : List (List ℕ)) (old : Outside) (status : Status) → IsLeftNow old.disk old.moments → IsQuiet old.disk old.moments → IsOfWords status → (status ≡ statuses.Usage → AreServe words → ⊥) → Serves words old old status
of_words words old status left quiet of usage = record {
  ends = words_end words old status of usage;
  outlives = λ bytes rests. inl (refl, refl);
  read_too = left;
  rests = λ other. quiet;
  whole = λ good. inr (inl (words_whole words status of usage good.serve));
  steady = record { read = λ other. refl; disk = λ other. refl; world_later = omega arith; disk_later = omega arith };
}

-- ---- the world file

module _ (words : List (List ℕ)) (old new : Outside) (serve : AreServe words) (same : new.disk ≡ old.disk) where
  world_end : (status : Status) → IsOfWorld status → ((fault : WorldFault) → status ≡ statuses.World fault → ReadsFault old.world new.world fault) → (status ≡ statuses.ReadFault → Rose old.world_faults new.world_faults)
      → Ends words old new status
  world_end (statuses.World fault) of refused rose = (serve, refused fault refl, same)
  world_end statuses.ReadFault of refused rose = (serve, rose refl, same)
  world_end statuses.Memory of refused rose = inl (inl same)
  world_end status of refused rose = absurd of

  -- The world file ended it.
  pub of_world : (status : Status) → IsLeftNow new.disk new.moments → IsQuiet new.disk new.moments → new.moments ≡ old.moments → new.disk_faults ≡ old.disk_faults
      → IsOfWorld status → ((fault : WorldFault) → status ≡ statuses.World fault → ReadsFault old.world new.world fault) → (status ≡ statuses.ReadFault → Rose old.world_faults new.world_faults)
      → ((bytes : List ℕ) → (found : World) → old.world ≡ Some bytes → WorldForm bytes found → (Rose old.world_faults new.world_faults → ⊥) → status ≡ statuses.Memory)
      → (status ≢ statuses.ReadFault → new.world_faults ≡ old.world_faults) → old.world_faults ≤ new.world_faults → Serves words old new status
  of_world status left quiet crash count of refused rose complete steady later = record {
    ends = world_end status of refused rose;
    outlives = λ bytes rests. inl (crash, same);
    read_too = left;
    rests = λ other. quiet;
    whole = λ good. inr (inl (complete good.world_bytes good.world good.world_left good.form good.world_holds));
    steady = record { read = steady; disk = λ other. count; world_later = later; disk_later = omega (arith, count) };
  }

-- ---- behind an accepted world file

other_listed : (at : ℕ) (kept given : Option ℕ) (world : Stored) → IsSound world → (disk : Option (List ℕ))
    → IfSome disk (λ bytes. (base : Stored) × (entries : List TickRecord) × IsJournal base entries bytes × DifferAt at kept given (base_content base) (base_content world))
    → IfSome disk (HasOther at kept given (world_of world))
other_listed at kept given world sound None h = tt
other_listed at kept given world sound (Some bytes) h = record {
  base = h.0;
  entries = h.1;
  is = h.2;
  contents = subst (DifferAt at kept given (base_content h.0)) (sym (ap base_content (file_listed world sound) ∙ as_read_same world)) h.3;
}

module _ (words : List (List ℕ)) (old new : Outside) (world : Stored) (sound : IsSound world) (ticks : ℕ) (asks : AsksToServe words ticks) (reads : ReadsWorld old.world new.world (world_of world)) (count : new.world_faults ≡ old.world_faults) where
  serve : AreServe words
  serve = are_serve words ticks asks

  base_is : listed (world_of world) ≡ world_as_read world
  base_is = file_listed world sound

  stood_as : (bytes : List ℕ) (base : Stored) (entries : List TickRecord) → Began words old new (world_of world) bytes base entries → StoodAs world bytes base entries
  stood_as bytes base entries (inl none) = inl (none.0, none.1 ∙ base_is, none.2)
  stood_as bytes base entries (inr is) = inr is

  stood_good : (good : IsGood words old new) → Stood old.disk (world_as_read world) good.entries
  stood_good good =
      let gave = subst (λ (o : Option (List ℕ)). GaveAll o new.world reads.0) good.world_left reads.1 in
      let same : listed good.world ≡ world_as_read world = file_read new.world good.world_bytes reads.0 good.world world sound gave good.form reads.2 in
      subst (λ (b : Stored). Stood old.disk b good.entries) same good.stood

  -- what was opened before a tick was made
  abbrev pub Opens : Type 0
  Opens = (bytes : List ℕ) → Rests bytes old.disk old.moments → (base : Stored) (entries : List TickRecord) → StoodAs world bytes base entries → LeavesSince (IsOpening bytes base entries) old.moments new.moments

  unticked : Opens → Outlives words old new
  unticked opens = λ bytes rests. inr (
    world_of world,
    reads,
    λ base entries began. record {
      stream = [];
      steps = [];
      more = [];
      few = omega arith;
      asked = (ticks, omega arith, asks);
      follow = tt;
      opened = new.moments;
      opening = opens bytes rests base entries (stood_as bytes base entries began);
      lasting = no_moment;
    },
  )

  no_step : (entries : List TickRecord) → Stood old.disk (world_as_read world) entries → IfSome new.disk (IsWholeJournal (world_as_read world) entries) → Ends words old new statuses.Memory
  no_step entries stood whole = inr (
    world_of world,
    entries,
    [],
    [],
    record { world = reads; stood = subst (λ (b : Stored). Stood old.disk b entries) (sym base_is) stood; follow = tt; given = refl },
    subst (λ (b : Stored). IfSome new.disk (IsWholeJournal b (entries ++ []))) (sym base_is) (subst (λ (l : List TickRecord). IfSome new.disk (IsWholeJournal (world_as_read world) l)) (sym (append-nil entries)) whole),
    (ticks, omega arith, asks),
  )

  opening_end : (status : Status) → IsOfOpening status → ((at : ℕ) → status ≡ statuses.NotAJournal at → IfSome old.disk (FailsAt at) × (new.disk ≡ old.disk))
      → ((at : ℕ) (one given : Option ℕ) → status ≡ statuses.OtherWorld at one given → IfSome old.disk (λ bytes. (base : Stored) × (entries : List TickRecord) × IsJournal base entries bytes × DifferAt at one given (base_content base) (base_content world)))
      → ((at : ℕ) (one given : Option ℕ) → status ≡ statuses.OtherWorld at one given → IsKept old.disk new.disk)
      → (status ≡ statuses.Memory → IsKept old.disk new.disk ⊎ (Stood old.disk (world_as_read world) [] × IfSome new.disk (IsWholeJournal (world_as_read world) [])))
      → (status ≡ statuses.DiskFault → Rose old.disk_faults new.disk_faults) → Ends words old new status
  opening_end (statuses.NotAJournal at) of refused other kept memory rose = let is = refused at refl in (serve, (world_of world, reads), is.0, is.1)
  opening_end (statuses.OtherWorld at one given) of refused other kept memory rose =
      (serve, (world_of world, reads, other_listed at one given world sound old.disk (other at one given refl)), kept at one given refl)
  opening_end statuses.DiskFault of refused other kept memory rose = (serve, (world_of world, reads), rose refl)
  opening_end statuses.Memory of refused other kept memory rose = elim (memory refl) [
    | inl is ↦ inl is
    | inr begun ↦ no_step [] begun.0 begun.1
  ]
  opening_end status of refused other kept memory rose = absurd of

  -- The opening of the journal ended it.
  pub of_opening : (status : Status) → IsLeftNow new.disk new.moments → Opens → (status ≢ statuses.DiskFault → IsQuiet new.disk new.moments) → IsOfOpening status → ((at : ℕ) → status ≡ statuses.NotAJournal at → IfSome old.disk (FailsAt at) × (new.disk ≡ old.disk))
      → ((at : ℕ) (one given : Option ℕ) → status ≡ statuses.OtherWorld at one given → IfSome old.disk (λ bytes. (base : Stored) × (entries : List TickRecord) × IsJournal base entries bytes × DifferAt at one given (base_content base) (base_content world)))
      → ((at : ℕ) (one given : Option ℕ) → status ≡ statuses.OtherWorld at one given → IsKept old.disk new.disk)
      → (status ≡ statuses.Memory → IsKept old.disk new.disk ⊎ (Stood old.disk (world_as_read world) [] × IfSome new.disk (IsWholeJournal (world_as_read world) [])))
      → ((entries : List TickRecord) (bytes : List ℕ) → old.disk ≡ Some bytes → Stood old.disk (world_as_read world) entries → (Rose old.disk_faults new.disk_faults → ⊥) → status ≡ statuses.Memory)
      → (status ≡ statuses.DiskFault → Rose old.disk_faults new.disk_faults) → (status ≢ statuses.DiskFault → new.disk_faults ≡ old.disk_faults) → old.disk_faults ≤ new.disk_faults → Serves words old new status
  of_opening status left opens quiet of refused other kept memory right rose steady later = record {
    ends = opening_end status of refused other kept memory rose;
    outlives = unticked opens;
    read_too = left;
    rests = quiet;
    whole = λ good. inr (inl (right good.entries good.disk_bytes good.told (stood_good good) good.disk_holds));
    steady = record { read = λ other. count; disk = steady; world_later = omega (arith, count); disk_later = later };
  }

  -- Memory was wanted before the first tick.
  pub of_memory : IsLeftNow new.disk new.moments → Opens → IsQuiet new.disk new.moments → (entries : List TickRecord) → Stood old.disk (world_as_read world) entries → IfSome new.disk (IsWholeJournal (world_as_read world) entries) → new.disk_faults ≡ old.disk_faults
      → Serves words old new statuses.Memory
  of_memory left opens quiet entries stood whole steady = record {
    ends = no_step entries stood whole;
    outlives = unticked opens;
    read_too = left;
    rests = λ other. quiet;
    whole = λ good. inr (inl refl);
    steady = record { read = λ other. count; disk = λ other. steady; world_later = omega (arith, count); disk_later = omega (arith, steady) };
  }

  -- ---- the ticks

  module _ (entries : List TickRecord) (gate : ℕ) (seen : Option (List ℕ)) (moments : List Moment) (faults : ℕ) (hand taken : Hand) (sight told : Sight) (stood : Stood old.disk (world_as_read world) entries) (steady : faults ≡ old.disk_faults) where
    abbrev around : ticks_of.Around
    around = record { disk = seen; moments = moments; faults = faults; hand = hand; sight = sight }

    abbrev after : ticks_of.Around
    after = record { disk = new.disk; moments = new.moments; faults = new.disk_faults; hand = taken; sight = told }

    abbrev Made : Status → Type 0
    Made status = ticks_of.Serves (world_as_read world) entries gate ticks around after status

    module _ (status : Status) (s : Made status) where
      makes : Makes words old new (world_of world) entries s.stream s.steps
      makes = record {
        world = reads;
        stood = subst (λ (b : Stored). Stood old.disk b entries) (sym base_is) stood;
        follow = subst (λ (b : Stored). Follow s.stream (resumed b entries) s.steps) (sym base_is) s.makes.follow;
        given = s.makes.given;
      }

      keeps : status ≢ statuses.DiskFault → Keeps words old new (world_of world) entries s.steps
      keeps other = subst (λ (b : Stored). IfSome new.disk (IsWholeJournal b (entries ++ recorded_of s.steps))) (sym base_is) (s.journal other)

    ticks_end : (status : Status) → Made status → Ends words old new status
    ticks_end statuses.Done s = (world_of world, entries, s.stream, s.steps, makes statuses.Done s, keeps statuses.Done s (λ is. cc), subst (AsksToServe words) (sym s.ends.0) asks)
    ticks_end (statuses.IdsExhausted index) s =
        let less = s.ends.0 in (
          world_of world,
          entries,
          s.stream,
          s.steps,
          makes (statuses.IdsExhausted index) s,
          keeps (statuses.IdsExhausted index) s (λ is. cc),
          ((ticks, omega (arith, less), asks), subst (λ (b : Stored). IsExhausted (last_of (resumed b entries) s.steps).world index) (sym base_is) s.ends.2),
        )
    ticks_end statuses.DiskFault s = (serve, (world_of world, reads), subst (λ (n : ℕ). Rose n new.disk_faults) steady s.ends.2)
    ticks_end statuses.Memory s = inr (world_of world, entries, s.stream, s.steps, makes statuses.Memory s, keeps statuses.Memory s (λ is. cc), (ticks, s.ends.0, asks))
    ticks_end status s = absurd s.ends

    ticks_few : (status : Status) (s : Made status) → length s.steps ≤ ticks
    ticks_few statuses.Done s = let all = s.ends.0 in omega (arith, all)
    ticks_few (statuses.IdsExhausted index) s = let less = s.ends.0 in omega (arith, less)
    ticks_few statuses.DiskFault s = let less = s.ends.0 in omega (arith, less)
    ticks_few statuses.Memory s = s.ends.0
    ticks_few status s = absurd s.ends

    ticks_whole : (status : Status) → Made status → (Rose old.disk_faults new.disk_faults → ⊥) → IsWhole words old new status
    ticks_whole statuses.Done s holds = inl refl
    ticks_whole (statuses.IdsExhausted index) s holds = inr (inr (index, refl))
    ticks_whole statuses.DiskFault s holds = absurd (holds (subst (λ (n : ℕ). Rose n new.disk_faults) steady s.ends.2))
    ticks_whole statuses.Memory s holds = inr (inl refl)
    ticks_whole status s holds = absurd s.ends

    ticks_outlive : (has : IfSome seen (λ bytes. HasJournal (world_as_read world) entries gate seen moments)) → TellsAlike old.disk seen
        → ((bytes : List ℕ) → Rests bytes old.disk old.moments → (base : Stored) (others : List TickRecord) → StoodAs world bytes base others → LeavesSince (IsOpening bytes base others) old.moments moments)
        → (status : Status) → Made status → Outlives words old new
    ticks_outlive has alike opens status s = λ bytes rests. inr (
      world_of world,
      reads,
      λ base others began.
          let began_as = stood_as bytes base others began in
          let same = same_stood world bytes base others entries old.disk rests.read began_as stood in
          let there = told_still (HasJournal (world_as_read world) entries gate seen moments) bytes old.disk seen rests.read alike has in
          let lasts = s.lasts there in
          record {
            stream = s.stream ++ s.rest;
            steps = s.steps;
            more = s.more;
            few = s.few;
            asked = (ticks, ticks_few status s, asks);
            follow = subst (λ (l : List TickRecord). Follow (s.stream ++ s.rest) (resumed base l) (s.steps ++ s.more)) same.1 (subst (λ (b : Stored). Follow (s.stream ++ s.rest) (resumed b entries) (s.steps ++ s.more)) same.0 s.further);
            opened = moments;
            opening = opens bytes rests base others began_as;
            lasting = subst (λ (l : List TickRecord). LeavesSince (HasAtLeast 0 base l (recorded_of (s.steps ++ s.more))) moments new.moments) same.1 (subst (λ (b : Stored). LeavesSince (HasAtLeast 0 b entries (recorded_of (s.steps ++ s.more))) moments new.moments) same.0 lasts.each);
          },
    )

    -- The ticks were served.
    pub of_ticks : IsLeftNow new.disk new.moments → (has : IfSome seen (λ bytes. HasJournal (world_as_read world) entries gate seen moments)) → TellsAlike old.disk seen
        → ((bytes : List ℕ) → Rests bytes old.disk old.moments → (base : Stored) (others : List TickRecord) → StoodAs world bytes base others → LeavesSince (IsOpening bytes base others) old.moments moments)
        → (status : Status) → Made status → Serves words old new status
    of_ticks left has alike opens status s = record {
      ends = ticks_end status s;
      outlives = ticks_outlive has alike opens status s;
      read_too = left;
      rests = s.quiet;
      whole = λ good. ticks_whole status s good.disk_holds;
      steady = record { read = λ other. count; disk = λ other. s.steady other ∙ steady; world_later = omega (arith, count); disk_later = let risen = s.later in omega (arith, risen, steady) };
    }
