-- The course of paying, place by place.
use Rattle.std.specs.Prelude.{◌≡◌, ℕ, ◌+◌, ◌-◌, ◌==◌, ◌&&◌, Bool, List, [], ◌∷◌, length, drop, Option}
use Rattle.std.specs.List.{AllByRecursion}
use Rattle.std.specs.FinMap.{get}
use Rattle.game_tables.specs.Numbers.{kind_number}
use Rattle.game_tables.specs.declared.kind.Kind.{Kind}
use Rattle.room_terrain.specs.declared.terrain.Ground.{Ground}
use Rattle.room_table.specs.declared.object.Object.{Object}
use Rattle.room_table.specs.Tables.{Table, IsOnTile}
use Rattle.world_rules.specs.RoomParts.{RoomPart, table_part}
use Rattle.world_rules.specs.Changes.{with_object}
use Rattle.world_rules.specs.Loads.{with_less}
use Rattle.world_rules.specs.Spawns.{paid, share, those_of}
use Rattle.world_rules.specs.Steps.{by_object}

-- The object is of a kind, and of an owner.
abbrev pub is_one : Kind → ℕ → Object → Bool
is_one kind owner object =
    (kind_number object.kind == kind_number kind) && (object.owner == owner)

-- what is left to pay after these paid
abbrev pub unpaid : List ℕ → ℕ → RoomPart → ℕ
unpaid [] cost part = cost
unpaid (id ∷ later) cost part =
    let payer : Option Object = get part.objects id in
    let pay : Object → RoomPart → RoomPart = λ object. with_object (with_less (share cost payer) object) in
    unpaid later (cost - share cost payer) (by_object pay part payer)

-- The objects of the table have the ids, kinds and owners of those of another.
pub record HasThoseOf (old new : Table) : Type 0 where
  pub table : new ≡ record old { objects = new.objects }
  pub tiles : AllByRecursion IsOnTile new.objects
  pub same : (kind : Kind) (owner : ℕ) → those_of kind owner new.objects ≡ those_of kind owner old.objects

-- The object at a place paid, where it is of the kind and the owner.
pub record IsPaidAt (kind : Kind) (owner cost place : ℕ) (old : Table) (left : ℕ) (new : Table) : Type 0 where
  pub has : HasThoseOf old new
  pub many : length new.objects ≡ length old.objects
  pub rule : (grounds : List Ground)
      → paid (those_of kind owner (drop (place + 1) new.objects)) left (table_part grounds new)
      ≡ paid (those_of kind owner (drop place old.objects)) cost (table_part grounds old)
  pub rest : (grounds : List Ground)
      → unpaid (those_of kind owner (drop (place + 1) new.objects)) left (table_part grounds new)
      ≡ unpaid (those_of kind owner (drop place old.objects)) cost (table_part grounds old)

-- Those before a place paid.
pub record IsPaidTo (kind : Kind) (owner cost : ℕ) (start : Table) (place left : ℕ)
    (now : Table) : Type 0 where
  pub has : HasThoseOf start now
  pub rule : (grounds : List Ground)
      → paid (those_of kind owner (drop place now.objects)) left (table_part grounds now)
      ≡ paid (those_of kind owner start.objects) cost (table_part grounds start)
  pub rest : (grounds : List Ground)
      → unpaid (those_of kind owner (drop place now.objects)) left (table_part grounds now)
      ≡ unpaid (those_of kind owner start.objects) cost (table_part grounds start)
