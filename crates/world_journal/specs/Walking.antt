-- A reading of a journal, gate by gate.
use Rattle.std.specs.Prelude.{◌≡◌, ℕ, ◌≤◌, List, [], ◌∷◌, ◌++◌, length, Option, Some, None, IfSome}
use Rattle.frame_log.specs.Frames.{Spells}
use Rattle.frame_log.specs.Reading.{FindsAt}
use Rattle.frame_log.specs.declared.read.Behind.TheVariants.{Closed}
use Rattle.object_store.specs.Stored.{Stored}
use Rattle.record_follows.specs.Courses.{world_after}
use Rattle.record_follows.specs.Follows.{Fits, after}
use Rattle.rule_check.specs.Kept.{KeepsObjectRules}
use Rattle.tick_journal.specs.declared.tick_record.TickRecord.{TickRecord}
use Rattle.world_journal.specs.Counted.{IsCounted}
use Rattle.world_journal.specs.Faults.{FailsAt}
use Rattle.world_journal.specs.Journals.{AreContents, IsCourse, IsRead}
use Rattle.world_journal.specs.declared.untested.UntestedWalk.{UntestedWalk}
use Rattle.world_journal.specs.declared.walk.Walk.{Walk}

-- The bytes begin with open gates, each with its frame, that are a journal of this world and these records;
-- the place is behind them.
pub record IsFront (base : Stored) (entries : List TickRecord) (gate : ℕ) (bytes : List ℕ) : Type 0 where
  pub front : List ℕ
  pub contents : List (List ℕ)
  pub rest : List ℕ
  pub spelled : Spells front contents
  pub place : gate ≡ length front
  pub split : bytes ≡ front ++ rest
  pub are : AreContents base entries contents

-- A reading has come behind these records, and has the world that they lead to, with its census.
pub record HasWalked (base : Stored) (entries : List TickRecord) (walk : Walk) (seen : Option (List ℕ))
    : Type 0 where
  pub course : IsCourse base entries
  pub world : walk.world ≡ world_after base entries
  pub count : length entries ≤ walk.gate
  pub front : IfSome seen (IsFront base entries walk.gate)
  pub counted : IsCounted walk.world walk.census

-- The same, and the gate that comes next is closed.
pub record HasEnded (base : Stored) (entries : List TickRecord) (walk : Walk) (seen : Option (List ℕ))
    : Type 0 where
  pub walked : HasWalked base entries walk seen
  pub closed : FindsAt walk.gate Closed seen

-- A step of the reading from behind these records: the end, or behind one record more.
abbrev pub HasStepped : Stored → List TickRecord → Walk → Option (List ℕ) → Option TickRecord → Type 0
HasStepped base entries walk seen None = HasEnded base entries walk seen
HasStepped base entries walk seen (Some entry) = HasWalked base (entries ++ entry ∷ []) walk seen

-- ---- a reading that tests no rules

-- A reading has come behind these records, and has the world that they lead to.
pub record HasPassed (base : Stored) (entries : List TickRecord) (walk : UntestedWalk)
    (seen : Option (List ℕ)) : Type 0 where
  pub course : IsCourse base entries
  pub world : walk.world ≡ world_after base entries
  pub count : length entries ≤ walk.gate
  pub front : IfSome seen (IsFront base entries walk.gate)

-- The same, and the gate that comes next is closed.
pub record HasPassedAll (base : Stored) (entries : List TickRecord) (walk : UntestedWalk)
    (seen : Option (List ℕ)) : Type 0 where
  pub passed : HasPassed base entries walk seen
  pub closed : FindsAt walk.gate Closed seen

-- It has come behind one record more, which fits and leads from the one world to the other, and is told
-- without its tables. If that world keeps the rules of objects, the record follows; if not, its frame is the
-- first that fails.
pub record HasPut (base : Stored) (entries : List TickRecord) (old new : UntestedWalk)
    (seen : Option (List ℕ)) (told : TickRecord) : Type 0 where
  pub entry : TickRecord
  pub rest : told ≡ record entry { rooms = [] }
  pub read : IsRead entry
  pub fits : Fits old.world entry
  pub world : new.world ≡ after old.world entry
  pub passes : KeepsObjectRules new.world → HasPassed base (entries ++ entry ∷ []) new seen
  pub fails : (KeepsObjectRules new.world → ⊥) → IfSome seen (FailsAt new.from)

-- A step of such a reading: the end, or behind one record more.
abbrev pub HasPassedOn : Stored → List TickRecord → UntestedWalk → UntestedWalk → Option (List ℕ)
    → Option TickRecord → Type 0
HasPassedOn base entries old new seen None = HasPassedAll base entries new seen
HasPassedOn base entries old new seen (Some told) = HasPut base entries old new seen told
