-- What a reading of a journal has found, gate by gate.
use Rattle.std.specs.Prelude.{◌≡◌, ℕ, ◌+◌, ◌<◌, ◌⊎◌, List, length, Contains, Option, Some, None}
use Rattle.world_io.specs.Disk.{LengthIs}
use Rattle.world_io.specs.Moments.{Moment}
use Rattle.object_store.specs.Stored.{Stored}
use Rattle.record_follows.specs.Courses.{IsWorldAt}
use Rattle.tick_journal.specs.declared.tick_record.TickRecord.{TickRecord}
use Rattle.world_journal.specs.Walking.{HasPassed, HasWalked}
use Rattle.world_journal.specs.declared.untested.UntestedWalk.{UntestedWalk}
use Rattle.world_journal.specs.declared.walk.Walk.{Walk}

-- A reading has come behind these records, on a disk that is as it was before the reading.
pub record IsReading (base : Stored) (entries : List TickRecord) (walk : Walk)
    (seen seen_now : Option (List ℕ)) (moments moments_now : List Moment) (faults faults_now : ℕ)
    : Type 0 where
  pub walked : HasWalked base entries walk seen
  pub length : LengthIs seen walk.len
  pub same : seen_now ≡ seen
  pub crash : moments_now ≡ moments
  pub steady : faults_now ≡ faults

-- The same of a reading that tests no rules.
pub record IsPassing (base : Stored) (entries : List TickRecord) (walk : UntestedWalk)
    (seen seen_now : Option (List ℕ)) (moments moments_now : List Moment) (faults faults_now : ℕ)
    : Type 0 where
  pub passed : HasPassed base entries walk seen
  pub length : LengthIs seen walk.len
  pub same : seen_now ≡ seen
  pub crash : moments_now ≡ moments
  pub steady : faults_now ≡ faults

-- What is found of a tick in the worlds from the first on: its world, or that it is none of theirs.
abbrev pub IsWorldFound : Stored → List TickRecord → ℕ → Option Stored → Type 0
IsWorldFound base entries tick None = (tick < base.tick) ⊎ (base.tick + length entries < tick)
IsWorldFound base entries tick (Some world) = IsWorldAt base entries tick world

-- The same of its record.
abbrev pub IsRecordFound : Stored → List TickRecord → ℕ → Option TickRecord → Type 0
IsRecordFound base entries tick None = (tick < base.tick + 1) ⊎ (base.tick + length entries < tick)
IsRecordFound base entries tick (Some entry) = Contains entries entry × (entry.tick ≡ tick)
