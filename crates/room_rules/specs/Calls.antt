-- What the call of a rule asks of a room's table, and what it keeps beside the rule itself.
use Rattle.std.specs.Prelude.{◌≡◌, ◌≢◌, ℕ, ◌+◌, ◌-◌, ◌*◌, ◌^◌, ◌<◌, ◌≤◌, true, false, List}
use Rattle.std.specs.List.{AllByRecursion, AllPairs}
use Rattle.game_tables.specs.Kinds.{clash, is_creep}
use Rattle.game_tables.specs.Bodies.{most_parts}
use Rattle.room_table.specs.declared.object.Object.{Object}
use Rattle.room_table.specs.Tables.{Table, IsOnTile, HasId, HasNoId}
use Rattle.room_table.specs.Tallies.{sum_with, tally_of}
use Rattle.room_table.specs.declared.tally.Tally.{Tally}
use Rattle.intent_book.specs.declared.intent.Intent.{Intent}
use Rattle.world_rules.specs.RuleBook.{Harm, Sums}
use Rattle.world_rules.specs.Tick.{total_for}

-- A table that is ready for a rule which may make one object: there is memory for it and a serial, no object
-- has its id, and all objects stand on tiles of the room.
pub record IsReady (table : Table) : Type 0 where
  pub spare : 1 ≤ table.spare
  pub serial : table.next < 2 ^ 32 - 1
  pub fresh : HasNoId (table.index * 2 ^ 32 + table.next) table.objects
  pub tiles : AllByRecursion IsOnTile table.objects

-- The room's index stays, each object that was made took a serial and the memory for one, at most one was
-- made, and all objects stand on tiles of the room.
pub record Keeps (old new : Table) : Type 0 where
  pub index : new.index ≡ old.index
  pub used : new.next + new.spare ≡ old.next + old.spare
  pub later : old.next ≤ new.next
  pub made : new.next ≤ old.next + 1
  pub tiles : AllByRecursion IsOnTile new.objects

-- What was done to the objects that still stand stays.
abbrev pub KeepsTallies : Table → Table → Type 0
KeepsTallies old new =
    (id : ℕ) → HasId id new.objects → tally_of id new.tallies ≡ tally_of id old.tallies

-- a tally with what an entry does to the object of an id
abbrev pub tally_with : Harm → ℕ → Tally → Tally
tally_with harm id tally = record {
  damage = sum_with (total_for harm.damage id) tally.damage;
  healing = sum_with (total_for harm.healing id) tally.healing;
}

-- What an entry does to objects was added to what was done to those that stand.
abbrev pub IsHarmedBy : Harm → Table → Table → Type 0
IsHarmedBy harm old new =
    (id : ℕ) → HasId id new.objects
    → tally_of id new.tallies ≡ tally_with harm id (tally_of id old.tallies)

-- These are the sums of what was done to the objects of the table.
pub record AreSumsOf (sums : Sums) (table : Table) : Type 0 where
  pub damage : (id : ℕ) → HasId id table.objects → sums.damage id ≡ (tally_of id table.tallies).damage
  pub healing : (id : ℕ) → HasId id table.objects → sums.healing id ≡ (tally_of id table.tallies).healing

-- A table that is ready for a step of upkeep which may make so many objects, and what the step keeps.
pub record IsReadyFor (many : ℕ) (table : Table) : Type 0 where
  pub spare : many ≤ table.spare
  pub serial : table.next + many ≤ 2 ^ 32 - 1
  pub fresh : (serial : ℕ) → table.next ≤ serial → serial < 2 ^ 32
      → HasNoId (table.index * 2 ^ 32 + serial) table.objects
  pub tiles : AllByRecursion IsOnTile table.objects

pub record KeepsUpTo (many : ℕ) (old new : Table) : Type 0 where
  pub index : new.index ≡ old.index
  pub used : new.next + new.spare ≡ old.next + old.spare
  pub later : old.next ≤ new.next
  pub made : new.next ≤ old.next + many
  pub tiles : AllByRecursion IsOnTile new.objects

-- Two objects of a tile are of kinds that may share it.
abbrev pub AreApart : List Object → Type 0
AreApart objects =
    AllPairs (λ one other. one.x ≡ other.x → one.y ≡ other.y → clash one.kind other.kind ≡ false) objects

-- A creep carries at most what a body of CARRY parts alone would.
abbrev pub IsLoadWithin : Object → Type 0
IsLoadWithin object = is_creep object.kind ≡ true → object.energy ≤ 50 * most_parts

-- A table that is ready for movement: its objects stand on tiles of the room, which they share where their
-- kinds may, and its creeps carry no more than a body can.
pub record IsMovable (table : Table) : Type 0 where
  pub tiles : AllByRecursion IsOnTile table.objects
  pub apart : AreApart table.objects
  pub loads : AllByRecursion IsLoadWithin table.objects

-- No creep has two moves.
abbrev pub AreActorsOnce : List Intent → Type 0
AreActorsOnce moves = AllPairs (λ one other. one.actor ≢ other.actor) moves
