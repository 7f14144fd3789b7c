-- What a recovery makes of a journal, and what it leaves of the disk.
use Rattle.std.proofs.Common.{◌≡◌, inl, inr, ℕ, ◌+◌, List, length, ◌∙◌, ap, subst, arith, Option, Some, None, IfSome}
use Rattle.std.specs.FinMap.{empty}
use Rattle.world_io.specs.Moments.{IsLeftNow, LeavesNow, LeavesSince, Moment, Rests, no_moment}
use Rattle.world_io.proofs.Images.{image_settled}
use Rattle.world_io.proofs.Moments.{left_now, read_has, since_weaken}
use Rattle.frame_log.specs.Frames.{HasClosed, HasContents, IsClosedAt, Stands}
use Rattle.object_store.specs.Stored.{Stored}
use Rattle.tick_journal.specs.declared.tick_record.TickRecord.{TickRecord}
use Rattle.world_journal.specs.Journals.{AreContents, HasJournal, IsJournal, IsKeptOrCut, IsQuiet}
use Rattle.world_journal.specs.Recovering.{HasRecovered}
use Rattle.world_journal.specs.declared.recovered.Recovered.{Recovered}
use Rattle.world_journal.specs.declared.uploaded.Uploaded.{Uploaded}
use Rattle.world_journal.specs.declared.walk.Walk.{Walk}
use Rattle.world_journal.specs.inner.Uploads.{HasUploaded, uploads_in}
use Rattle.world_journal.specs.Walking.{HasEnded, HasWalked}
use Rattle.world_journal.proofs.Fronts.{closed_rest, journal_there}
use Rattle.world_journal.proofs.Journals.{journal_once}
use Rattle.world_journal.proofs.Modules.{modules_of_entries}
use Rattle.world_journal.proofs.Readings.{walked_tick}

-- ---- what is made of the journal

pub recovered_from : (base : Stored) (entries : List TickRecord) (walk : Walk) (seen : Option (List ℕ)) (uploaded : Uploaded) (found : Recovered) → HasWalked base entries walk seen → HasUploaded base.accounts (uploads_in entries) uploaded
    → found.base ≡ base → found.world ≡ walk.world → found.modules ≡ uploaded.modules → found.uploads ≡ uploaded.counts.items → HasRecovered entries found
recovered_from base entries walk seen uploaded found walked has base_is world_is modules_is uploads_is =
    let fits = walked.course.form.tick in
    let within = walk.place in
    let limit = walk.limit in
    let tick : found.world.tick ≡ base.tick + length entries = ap (λ (w : Stored). w.tick) world_is ∙ walked_tick base entries walk seen walked in
    record {
      course = rw base_is walked.course;
      world = rw base_is (world_is ∙ walked.world);
      tick = omega (arith, tick, fits, within, limit, walked.count);
      modules = rw modules_is (has.modules ∙ modules_of_entries empty entries);
      uploads = rw base_is (uploads_is ∙ has.counts);
    }

-- ---- the closed gate

-- The bytes that rest are the front that was read, its closed gate and what follows it.
record ClosedWith (base : Stored) (entries : List TickRecord) (gate : ℕ) (seen : Option (List ℕ)) (moments : List Moment) : Type 0 where
  contents : List (List ℕ)
  are : AreContents base entries contents
  rest : List ℕ
  has : HasClosed contents gate rest seen moments

module _ {base : Stored} {entries : List TickRecord} {walk : Walk} {seen : Option (List ℕ)} (ended : HasEnded base entries walk seen) (moments : List Moment) where
  journal_at : (bytes : List ℕ) → Rests bytes seen moments → IsJournal base entries bytes
  journal_at bytes rests = journal_there (rw rests.read at ended.walked.front) (rw rests.read at ended.closed)

  closed_with : (bytes : List ℕ) → Rests bytes seen moments → ClosedWith base entries walk.gate seen moments
  closed_with bytes rests =
      let front = rw rests.read at ended.walked.front in
      let shut = closed_rest front (rw rests.read at ended.closed) in
      record {
        contents = front.contents;
        are = front.are;
        rest = shut.0;
        has = record { front = front.front; spelled = front.spelled; place = front.place; rests = subst (λ (l : List ℕ). Rests l seen moments) shut.1 rests };
      }

  pub quiet_closed : IsQuiet seen moments → IsClosedAt walk.gate seen moments
  quiet_closed quiet = at seen quiet closed_with
    where
      at : (seen : Option (List ℕ)) → IsQuiet seen moments → ((bytes : List ℕ) → Rests bytes seen moments → ClosedWith base entries walk.gate seen moments) → IsClosedAt walk.gate seen moments
      at None quiet closed = tt
      at (Some bytes) quiet closed = let with = closed bytes quiet in (with.contents, with.rest, with.has)

  pub quiet_journal : (seen_after : Option (List ℕ)) (moments_after : List Moment) → IsQuiet seen moments → ((contents : List (List ℕ)) (rest : List ℕ) → HasClosed contents walk.gate rest seen moments → HasContents contents walk.gate seen_after moments_after)
      → IfSome seen (λ bytes. HasJournal base entries walk.gate seen_after moments_after)
  quiet_journal seen_after moments_after quiet done = at seen quiet closed_with done
    where
      at : (seen : Option (List ℕ)) → IsQuiet seen moments → ((bytes : List ℕ) → Rests bytes seen moments → ClosedWith base entries walk.gate seen moments)
          → ((contents : List (List ℕ)) (rest : List ℕ) → HasClosed contents walk.gate rest seen moments → HasContents contents walk.gate seen_after moments_after)
          → IfSome seen (λ bytes. HasJournal base entries walk.gate seen_after moments_after)
      at None quiet closed done = tt
      at (Some bytes) quiet closed done = let with = closed bytes quiet in record { contents = with.contents; has = done with.contents with.rest with.has; are = with.are }

  pub cut_moments : (moments_after : List Moment) → ((contents : List (List ℕ)) (rest : List ℕ) → HasClosed contents walk.gate rest seen moments → LeavesSince (Stands contents) moments moments_after)
      → (other : Stored) (others : List TickRecord) (bytes : List ℕ) → IsJournal other others bytes → Rests bytes seen moments → LeavesSince (IsJournal other others) moments moments_after
  cut_moments moments_after each other others bytes is rests =
      let with = closed_with bytes rests in
      let same = journal_once bytes base other entries others (journal_at bytes rests) is in
      since_weaken (λ image stand. subst (λ (l : List TickRecord). IsJournal other l image) same.1 (subst (λ (w : Stored). IsJournal w entries image) same.0 (record { contents = with.contents; stand = stand; are = with.are }))) (each with.contents with.rest with.has)

  pub cut_kept : (moments_after : List Moment) → ((contents : List (List ℕ)) (rest : List ℕ) → HasClosed contents walk.gate rest seen moments → LeavesSince (Stands contents) moments moments_after)
      → (bytes : List ℕ) → Rests bytes seen moments → LeavesSince (IsKeptOrCut bytes) moments moments_after
  cut_kept moments_after each bytes rests =
      let with = closed_with bytes rests in
      since_weaken (λ image stand. inr (base, entries, journal_at bytes rests, record { contents = with.contents; stand = stand; are = with.are })) (each with.contents with.rest with.has)

-- ---- what a read gives

pub read_kept : (bytes : List ℕ) (seen after : Option (List ℕ)) (moments later : List Moment) → ((before : List ℕ) → Rests before seen moments → LeavesSince (IsKeptOrCut before) moments later) → IsLeftNow after later → Rests bytes seen moments
    → IfSome after (IsKeptOrCut bytes)
read_kept bytes seen None moments later kept left rests = tt
read_kept bytes seen (Some read) moments later kept left rests =
    let first : LeavesNow (IsKeptOrCut bytes) moments = rw rests.settled_now (λ image is. inl (image_settled bytes image is)) in
    read_has (IsKeptOrCut bytes) read later left (left_now first (kept bytes rests))

-- ---- a disk that is as it was

pub unmoved : (P : List ℕ → Type 0) (old new : List Moment) → new ≡ old → LeavesSince P old new
unmoved P old new same = rw same no_moment
