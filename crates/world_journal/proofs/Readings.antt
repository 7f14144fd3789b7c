-- The readings of whole journals.
use Rattle.std.proofs.Common.{◌≡◌, ◌≢◌, inl, inr, ℕ, ◌+◌, ◌<◌, ◌≤◌, ◌^◌, cond, eqb, List, [], ◌∷◌, ◌++◌, length, sym, ◌∙◌, ap, arith, length-append, Contains, Option, Some, None, IfSome, IfOk, take}
use Rattle.std.proofs.lemmas.Bool.Decides.{eqb_tells}
use Rattle.std.specs.Option.{ok_or}
use Rattle.std.specs.Result.{IfOk, IfErr}
use Rattle.std.proofs.lemmas.List.{length-take-le, take-append-le, take_all}
use Rattle.std.proofs.lemmas.List.Elements.{Contains-append_left, Contains-push}
use Rattle.world_io.specs.Disk.{LengthIs}
use Rattle.world_io.specs.Moments.{Moment}
use Rattle.frame_log.specs.Reading.{FindsAt}
use Rattle.frame_log.specs.declared.read.Behind.TheVariants.{Closed}
use Rattle.object_store.specs.Stored.{Stored}
use Rattle.record_follows.specs.Courses.{IsWorldAt, world_after}
use Rattle.record_follows.proofs.Steps.{following_take, tick_after, world_after_one}
use Rattle.rule_check.specs.Kept.{KeepsObjectRules}
use Rattle.tick_journal.specs.declared.tick_record.TickRecord.{TickRecord}
use Rattle.world_journal.specs.Answers.{IsFaultOf}
use Rattle.world_journal.specs.Faults.{HasNoRecord, HasNoWorld}
use Rattle.world_journal.specs.Journals.{IsCourse, IsJournal}
use Rattle.world_journal.specs.declared.fault.AtFault.{AtFault}
use Rattle.world_journal.specs.declared.fault.AtFault.TheVariants.{NoSuchTick}
use Rattle.world_journal.specs.declared.untested.UntestedWalk.{UntestedWalk}
use Rattle.world_journal.specs.declared.walk.Walk.{Walk}
use Rattle.world_journal.specs.Walking.{HasPassed, HasPassedOn, HasPut, HasStepped, HasWalked, IsFront}
use Rattle.world_journal.specs.inner.Found.{IsPassing, IsReading, IsRecordFound, IsWorldFound}
use Rattle.world_journal.proofs.Fronts.{journal_there}

-- ---- the end of a reading

-- The whole journal was read.
pub record IsWhole (base : Stored) (entries : List TickRecord) (walk : Walk) (seen : Option (List ℕ)) : Type 0 where
  pub course : IsCourse base entries
  pub journal : IfSome seen (IsJournal base entries)
  pub last : walk.world.tick ≡ base.tick + length entries

pub walked_tick : (base : Stored) (entries : List TickRecord) (walk : Walk) (seen : Option (List ℕ)) → HasWalked base entries walk seen → walk.world.tick ≡ base.tick + length entries
walked_tick base entries walk seen has = ap (λ (w : Stored). w.tick) has.world ∙ tick_after base entries has.course.follow

module _ {base : Stored} {entries : List TickRecord} {before : Walk} {seen now : Option (List ℕ)} {moments moments_now : List Moment} {faults faults_now : ℕ} (reading : IsReading base entries before seen now moments moments_now faults faults_now) where
  pub walked_now : HasWalked base entries before now
  walked_now = rw reading.same reading.walked

  pub reading_end : (after : Walk) (found : Option TickRecord) → found ≡ None → HasStepped base entries after now found → IsWhole base entries after seen
  reading_end after found none stepped =
      let ended = rw (none, reading.same) at stepped in
      record {
        course = ended.walked.course;
        journal = at seen ended.walked.front ended.closed;
        last = walked_tick base entries after seen ended.walked;
      }
    where
      at : (seen : Option (List ℕ)) → IfSome seen (IsFront base entries after.gate) → FindsAt after.gate Closed seen → IfSome seen (IsJournal base entries)
      at None is closed = tt
      at (Some bytes) is closed = journal_there is closed

  pub reading_more : (after : Walk) (found : Option TickRecord) (entry : TickRecord) (later : Option (List ℕ)) (moments_later : List Moment) (faults_later : ℕ) → found ≡ Some entry → HasStepped base entries after now found → LengthIs now after.len
      → later ≡ now → moments_later ≡ moments_now → faults_later ≡ faults_now → IsReading base (entries ++ entry ∷ []) after seen later moments moments_later faults faults_later
  reading_more after found entry later moments_later faults_later some stepped sized same crash steady = record {
    walked = rw (some, reading.same) at stepped;
    length = rw reading.same at sized;
    same = same ∙ reading.same;
    crash = crash ∙ reading.crash;
    steady = steady ∙ reading.steady;
  }

-- ---- a reading that tests no rules

-- The whole journal was read by it.
pub record IsPassed (base : Stored) (entries : List TickRecord) (walk : UntestedWalk) (seen : Option (List ℕ)) : Type 0 where
  pub course : IsCourse base entries
  pub journal : IfSome seen (IsJournal base entries)
  pub last : walk.world.tick ≡ base.tick + length entries

-- A reading that stands at the same place, with the same world.
passed_same : (base : Stored) (entries : List TickRecord) (one other : UntestedWalk) (seen : Option (List ℕ)) → other.world ≡ one.world → other.gate ≡ one.gate → HasPassed base entries one seen → HasPassed base entries other seen
passed_same base entries one other seen world gate has = record { course = has.course; world = world ∙ has.world; count = rw gate has.count; front = rw gate has.front }

module _ {base : Stored} {entries : List TickRecord} {before : UntestedWalk} {seen now : Option (List ℕ)} {moments moments_now : List Moment} {faults faults_now : ℕ} (passing : IsPassing base entries before seen now moments moments_now faults faults_now) where
  pub passed_now : HasPassed base entries before now
  passed_now = rw passing.same passing.passed

  pub passing_end : (after : UntestedWalk) (found : Option TickRecord) → found ≡ None → HasPassedOn base entries before after now found → IsPassed base entries after seen
  passing_end after found none on =
      let ended = rw (none, passing.same) at on in
      record {
        course = ended.passed.course;
        journal = at seen ended.passed.front ended.closed;
        last = ap (λ (w : Stored). w.tick) ended.passed.world ∙ tick_after base entries ended.passed.course.follow;
      }
    where
      at : (seen : Option (List ℕ)) → IfSome seen (IsFront base entries after.gate) → FindsAt after.gate Closed seen → IfSome seen (IsJournal base entries)
      at None is closed = tt
      at (Some bytes) is closed = journal_there is closed

  pub passing_put : (after : UntestedWalk) (found : Option TickRecord) (told : TickRecord) → found ≡ Some told → HasPassedOn base entries before after now found → HasPut base entries before after seen told
  passing_put after found told some on = rw (some, passing.same) at on

  pub passing_more : (after last : UntestedWalk) (told : TickRecord) (later : Option (List ℕ)) (moments_later : List Moment) (faults_later : ℕ) → (put : HasPut base entries before after seen told) → KeepsObjectRules after.world
      → last.world ≡ after.world → last.gate ≡ after.gate → last.len ≡ after.len → LengthIs now after.len → later ≡ now → moments_later ≡ moments_now → faults_later ≡ faults_now
      → IsPassing base (entries ++ put.entry ∷ []) last seen later moments moments_later faults faults_later
  passing_more after last told later moments_later faults_later put keeps world gate len sized same crash steady = record {
    passed = passed_same base (entries ++ put.entry ∷ []) after last seen world gate (put.passes keeps);
    length = rw len (rw passing.same at sized);
    same = same ∙ passing.same;
    crash = crash ∙ passing.crash;
    steady = steady ∙ passing.steady;
  }

-- ---- what is found of a tick

module _ (base : Stored) (entries : List TickRecord) (entry : TickRecord) (walk : Walk) (seen : Option (List ℕ)) (has : HasWalked base (entries ++ entry ∷ []) walk seen) (tick : ℕ) where
  many : length (entries ++ entry ∷ []) ≡ length entries + 1
  many = length-append entries (entry ∷ [])

  last : walk.world.tick ≡ base.tick + (length entries + 1)
  last = walked_tick base (entries ++ entry ∷ []) walk seen has ∙ ap (λ (n : ℕ). base.tick + n) many

  pub entry_tick : entry.tick ≡ walk.world.tick
  entry_tick = sym (ap (λ (w : Stored). w.tick) (has.world ∙ world_after_one base entries entry))

  pub world_found_more : (found : Option Stored) → IsWorldFound base entries tick found → IsWorldFound base (entries ++ entry ∷ []) tick (cond (eqb walk.world.tick tick) (Some walk.world) found)
  world_found_more found is =
      elim (eqb_tells walk.world.tick tick) [
        | inl here ↦ rw here.0 (record { count = length entries + 1; within = omega (arith, many); place = omega (arith, here.1, last); is = has.world ∙ ap (world_after base) (sym (take_all (length entries + 1) (entries ++ entry ∷ []) (omega (arith, many)))) })
        | inr there ↦ rw there.0 (still found is there.1)
      ]
    where
      still : (found : Option Stored) → IsWorldFound base entries tick found → walk.world.tick ≢ tick → IsWorldFound base (entries ++ entry ∷ []) tick found
      still None (inl low) other = inl low
      still None (inr high) other = inr (omega (arith, high, other, last, many))
      still (Some world) at other = record {
        count = at.count;
        within = omega (arith, at.within, many);
        place = at.place;
        is = at.is ∙ ap (world_after base) (sym (take-append-le at.count entries (entry ∷ []) at.within));
      }

  pub record_found_more : (found : Option TickRecord) → IsRecordFound base entries tick found → IsRecordFound base (entries ++ entry ∷ []) tick (cond (eqb entry.tick tick) (Some entry) found)
  record_found_more found is =
      elim (eqb_tells entry.tick tick) [
        | inl here ↦ rw here.0 (Contains-push entries entry, here.1)
        | inr there ↦ rw there.0 (still found is there.1)
      ]
    where
      still : (found : Option TickRecord) → IsRecordFound base entries tick found → entry.tick ≢ tick → IsRecordFound base (entries ++ entry ∷ []) tick found
      still None (inl low) other = inl low
      still None (inr high) other = inr (omega (arith, high, other, entry_tick, last, many))
      still (Some kept) at other = (Contains-append_left entries (entry ∷ []) kept at.0, at.1)

-- ---- what is answered of a tick

module _ (base : Stored) (entries : List TickRecord) (walk : Walk) (seen : Option (List ℕ)) (whole : IsWhole base entries walk seen) (tick : ℕ) where
  pub world_answered : (found : Option Stored) (none : AtFault) → IsWorldFound base entries tick found
      → IfOk (ok_or found none) (λ world. (base : Stored) × (entries : List TickRecord) × IsCourse base entries × IfSome seen (IsJournal base entries) × IsWorldAt base entries tick world)
  world_answered None none is = tt
  world_answered (Some world) none is = (base, entries, whole.course, whole.journal, is)

  pub world_ticks : (gate len : ℕ) (found : Option Stored) (none : AtFault) → length entries ≤ gate → gate < len → len < 2 ^ 62 → IsWorldFound base entries tick found → IfOk (ok_or found none) (λ world. world.tick < 2 ^ 63)
  world_ticks gate len None none many place limit is = tt
  world_ticks gate len (Some world) none many place limit is =
      let first = whole.course.form.tick in
      let told : world.tick ≡ base.tick + length (take is.count entries) = ap (λ (w : Stored). w.tick) is.is ∙ tick_after base (take is.count entries) (following_take base entries is.count whole.course.follow) in
      omega (arith, told, first, length-take-le is.count entries is.within, is.within, many, place, limit)

  pub record_answered : (found : Option TickRecord) (none : AtFault) → IsRecordFound base entries tick found
      → IfOk (ok_or found none) (λ entry. (base : Stored) × (entries : List TickRecord) × IsCourse base entries × IfSome seen (IsJournal base entries) × Contains entries entry × (entry.tick ≡ tick))
  record_answered None none is = tt
  record_answered (Some entry) none is = (base, entries, whole.course, whole.journal, is.0, is.1)

  module _ (first last before now : ℕ) (first_is : first ≡ base.tick) (last_is : last ≡ walk.world.tick) where
    pub world_refused : (found : Option Stored) → IsWorldFound base entries tick found → IfErr (ok_or found (NoSuchTick first last)) (IsFaultOf (HasNoWorld tick) seen before now)
    world_refused (Some world) is = tt
    world_refused None is = at seen whole.journal
      where
        at : (seen : Option (List ℕ)) → IfSome seen (IsJournal base entries) → IfSome seen (HasNoWorld tick first last)
        at None journal = tt
        at (Some bytes) journal = record { base = base; entries = entries; is = journal; first_is = first_is; last_is = last_is ∙ whole.last; outside = rw (first_is, last_is ∙ whole.last) is }

    pub record_refused : (found : Option TickRecord) → IsRecordFound base entries tick found → IfErr (ok_or found (NoSuchTick first last)) (IsFaultOf (HasNoRecord tick) seen before now)
    record_refused (Some entry) is = tt
    record_refused None is = at seen whole.journal
      where
        at : (seen : Option (List ℕ)) → IfSome seen (IsJournal base entries) → IfSome seen (HasNoRecord tick first last)
        at None journal = tt
        at (Some bytes) journal = record { base = base; entries = entries; is = journal; first_is = first_is; last_is = last_is ∙ whole.last; outside = rw (first_is, last_is ∙ whole.last) is }
