-- Why records are not ruled, by the status.
use Rattle.std.specs.Prelude.{◌≡◌, ◌≢◌, ℕ, ◌+◌, ◌<◌, ◌≤◌, List, length, Option, Some, slice_get, IfSome}
use Rattle.std.specs.Prelude.{Result, IfErr, OnOk}
use Rattle.hosted_tick.specs.Hosting.{IsHosted}
use Rattle.object_store.specs.Stored.{AreRising, Stored}
use Rattle.object_store.specs.declared.world.Room.{Room}
use Rattle.record_follows.specs.Follows.{Fits}
use Rattle.recorded_tick.specs.Recording.{AreAlike, AreReadAlike, HaveSameFrame}
use Rattle.rule_check.specs.Kept.{KeepsObjectRules}
use Rattle.tick_journal.specs.TickForms.{HasTickForm}
use Rattle.tick_journal.specs.declared.tick_record.TickRecord.{TickRecord}
use Rattle.world_replay.specs.Replayed.{AllRuled, DifferIn, DiffersAt, ExhaustedAt, forms, recorded_forms}
use Rattle.world_replay.specs.Replayed.{ruled_forms}
use Rattle.world_replay.specs.Differing.{DifferAt}
use Rattle.world_replay.specs.Serials.{HasSerials, IsExhausted}
use Rattle.world_io.specs.Disk.{LengthIs}
use Rattle.world_io.specs.Moments.{Moment}
use Rattle.world_journal.specs.Counted.{IsCounted}
use Rattle.world_journal.specs.Journals.{IsCourse, IsJournal}
use Rattle.world_journal.specs.Walking.{HasWalked}
use Rattle.world_journal.specs.declared.untested.UntestedWalk.{UntestedWalk}
use Rattle.world_rules.specs.Sound.{IsSound}
use Rattle.world_rules.specs.World.{world_of}
use Rattle.world_replay.specs.declared.replay.Replay.{Replay}
use Rattle.world_replay.specs.declared.replay.Replay.TheVariants as replays
use Rattle.world_replay.specs.declared.replay.Turn.{Turn}
use Rattle.world_replay.specs.declared.replay.Turn.TheVariants as turns
use Rattle.run_status.specs.declared.status.Status.{Status}
use Rattle.run_status.specs.declared.status.Status.TheVariants as statuses

-- Two forms of a room differ, or memory was wanted.
abbrev pub IsUnlike : ℕ → ℕ → List ℕ → List ℕ → Status → Type 0
IsUnlike tick room one other (statuses.Differs number index at kept ruled) =
    (number ≡ tick) × (index ≡ room) × DifferAt at kept ruled one other
IsUnlike tick room one other statuses.Memory = Unit {0}
IsUnlike tick room one other status = ⊥

-- Two lists of forms differ, or memory was wanted.
abbrev pub AreUnlike : ℕ → List (List ℕ) → List (List ℕ) → Status → Type 0
AreUnlike tick ones others (statuses.Differs number room at kept ruled) =
    (number ≡ tick) × DifferIn room at kept ruled ones others
AreUnlike tick ones others statuses.Memory = Unit {0}
AreUnlike tick ones others status = ⊥

-- The record behind this world, after which rooms have these forms, is not ruled, or memory was wanted.
abbrev pub IsUnruledAs : Stored → TickRecord → List (List ℕ) → Status → Type 0
IsUnruledAs before entry after (statuses.Differs tick room at kept ruled) =
    (tick ≡ entry.tick) × HasSerials (world_of before)
    × DifferIn room at kept ruled after (ruled_forms before entry)
IsUnruledAs before entry after (statuses.IdsExhausted index) = IsExhausted (world_of before) index
IsUnruledAs before entry after statuses.Memory = Unit {0}
IsUnruledAs before entry after status = ⊥

abbrev pub IsUnruled : Stored → TickRecord → Status → Type 0
IsUnruled before entry status = IsUnruledAs before entry (recorded_forms before entry) status

-- Not all of these records are ruled, or memory was wanted.
abbrev pub StopsAt : Stored → List TickRecord → Status → Type 0
StopsAt base entries (statuses.Differs tick room at kept ruled) =
    DiffersAt tick room at kept ruled base entries
StopsAt base entries (statuses.IdsExhausted index) = ExhaustedAt index base entries
StopsAt base entries statuses.Memory = Unit {0}
StopsAt base entries status = ⊥

-- ---- rooms

-- So many rooms of one list are written alike those at their places in the other.
abbrev pub AreAlikeTo : ℕ → List Room → List Room → Type 0
AreAlikeTo count ones others =
    (k : ℕ) → k < count → (one other : Room) → slice_get ones k ≡ Some one → slice_get others k ≡ Some other
    → AreAlike one.table other.table

-- ---- what is known so far

-- The world doesn't keep the rules of objects, and this was the gate before its record; or memory was wanted.
abbrev pub BreaksRules : Stored → ℕ → Status → Type 0
BreaksRules world gate (statuses.NotAJournal at) = (at ≡ gate) × (KeepsObjectRules world → ⊥)
BreaksRules world gate statuses.Memory = Unit {0}
BreaksRules world gate status = ⊥

-- A replay has come behind these records of the journal: all are ruled, up to this tick; or they are not, for
-- this reason, and there may be more.
abbrev pub HasCome : Stored → List TickRecord → Option (List ℕ) → Replay → Type 0
HasCome base entries disk (replays.Ruled tick) =
    IsCourse base entries × IfSome disk (IsJournal base entries) × AllRuled base entries
    × (tick ≡ base.tick + length entries)
HasCome base entries disk (replays.Unruled walk status) =
    HasWalked base entries walk disk × LengthIs disk walk.len × StopsAt base entries status

-- What stands behind a record that was told, as it has to be to be ruled from this world.
pub record IsTold (own : Stored) (told : TickRecord) (after : Stored) : Type 0 where
  pub hosted : IsHosted own
  pub fits : Fits own told
  pub form : HasTickForm told
  pub frame : HaveSameFrame own after
  pub rising : AreRising after.accounts
  pub sound : KeepsObjectRules after → IsSound after

-- What comes of it, where the reading had come behind it: it is ruled, and the world that was ruled is read
-- as the one behind the record; or it is not, for this reason, and there may be more.
abbrev pub ComesOf : Stored → TickRecord → UntestedWalk → Turn → Type 0
ComesOf own told walk (turns.Ruled next behind) =
    HasSerials (world_of own) × (forms walk.world.rooms ≡ ruled_forms own told)
    × KeepsObjectRules walk.world × AreReadAlike next walk.world
    × (behind.world ≡ walk.world) × (behind.gate ≡ walk.gate) × (behind.len ≡ walk.len)
ComesOf own told walk (turns.Unruled rest status) =
    IsUnruledAs own told (forms walk.world.rooms) status × IsCounted rest.world rest.census
    × (rest.world ≡ walk.world) × (rest.gate ≡ walk.gate) × (rest.len ≡ walk.len)

-- What the disk tells is as it was. Its count of failures never falls, and stays where no fault of the disk
-- is answered.
pub record Reads {T : Type 0} (seen seen_after : Option (List ℕ)) (moments moments_after : List Moment)
    (faults faults_after : ℕ) (result : Result T Status) : Type 0 where
  pub same : seen_after ≡ seen
  pub crash : moments_after ≡ moments
  pub steady : OnOk result (faults_after ≡ faults)
  pub steady_else : IfErr result (λ status. status ≢ statuses.DiskFault → faults_after ≡ faults)
  pub later : faults ≤ faults_after
