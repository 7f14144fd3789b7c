-- What is said of would-be movers.
use Rattle.std.specs.Prelude.{◌≡◌, ◌≢◌, ◌≤◌, true, List, Option, Some}
use Rattle.std.specs.List.{AllPairs, Contains}
use Rattle.room_table.specs.declared.object.Object.{Object}
use Rattle.intent_book.specs.declared.intent.Intent.{Intent}
use Rattle.world_rules.specs.Movement.{Mover, meet, winners, may_move}

-- No creep would step twice.
abbrev pub AreCreepsOnce : List Mover → Type 0
AreCreepsOnce list = AllPairs (λ one later. one.creep ≢ later.creep) list

-- The creep that a move would step is its actor.
abbrev pub StepsActor : (Intent → Option Mover) → Type 0
StepsActor step = (entry : Intent) (one : Mover) → step entry ≡ Some one → one.creep ≡ entry.actor

-- The mover is one of these, and none of them that would step to its tile has a lesser id.
pub record IsLeast (list : List Mover) (one : Mover) : Type 0 where
  pub listed : Contains list one
  pub least : (other : Mover) → Contains list other → meet one other ≡ true → one.creep ≤ other.creep

-- The set is of winners, and may move: each of it goes to a tile without a creep, or to that of a creep of
-- the set.
pub record IsAllowed (objects : List Object) (list set : List Mover) : Type 0 where
  pub winners : (one : Mover) → Contains set one → Contains (winners list) one
  pub moves : may_move objects set ≡ true
