-- Who would step to which tile. For private clauses.
use Rattle.std.specs.Prelude.{◌≡◌, ℕ, ◌<◌, ◌≤◌, ◌==◌, ◌||◌, ◌⊎◌, Bool, true, nat_lt, List, Some, slice_index}
use Rattle.std.specs.List.{Contains}
use Rattle.std.specs.FinMap.{get}
use Rattle.game_tables.specs.Kinds.{is_creep}
use Rattle.room_terrain.specs.Tiles.{tile}
use Rattle.room_table.specs.declared.object.Object.{Object}
use Rattle.intent_book.specs.declared.intent.Intent.{Intent}
use Rattle.world_rules.specs.RoomParts.{RoomPart}
use Rattle.world_rules.specs.Movement.{Mover}
use Rattle.world_rules.specs.Moves.{mover_of}
use Rattle.creep_move.specs.declared.candidate.Step.{Step}

-- the mover of a step
abbrev pub as_mover : Step → Mover
as_mover step = record { creep = step.creep; x = step.x; y = step.y }

-- The step is the creep's, from where it stands.
pub record IsStepOf (creep : Object) (step : Step) : Type 0 where
  pub its : step.creep ≡ creep.id
  pub from : step.from ≡ tile creep.x creep.y
  pub inside : step.from < 2500
  pub column : step.x < 50
  pub row : step.y < 50

-- The creep of the mover stands on the tile of this number.
pub record ComesFrom (part : RoomPart) (one : Mover) (from : ℕ) : Type 0 where
  pub object : Object
  pub stands : get part.objects one.creep ≡ Some object
  pub creep : is_creep object.kind ≡ true
  pub at : tile object.x object.y ≡ from
  pub inside : from < 2500
  pub column : one.x < 50
  pub row : one.y < 50

-- One of the entries would make this step.
abbrev pub Would : RoomPart → List Intent → Mover → Type 0
Would part moves one = (entry : Intent) × Contains moves entry × (mover_of part entry ≡ Some one)

-- Of the steps to a tile that of the least creep comes from this tile.
pub record Wins (part : RoomPart) (moves : List Intent) (to from creep : ℕ) : Type 0 where
  pub one : Mover
  pub would : Would part moves one
  pub there : tile one.x one.y ≡ to
  pub its : one.creep ≡ creep
  pub comes : ComesFrom part one from
  pub least : (other : Mover) → Would part moves other → tile other.x other.y ≡ to → creep ≤ other.creep

-- The winner of a tile is this creep and comes from this tile, or nobody would step there.
abbrev pub Arrives : RoomPart → List Intent → ℕ → ℕ → ℕ → Type 0
Arrives part moves to from creep =
    ((from ≡ 2500) × ((one : Mover) → Would part moves one → tile one.x one.y ≡ to → ⊥))
    ⊎ Wins part moves to from creep

-- The step wins its tile by the tables so far.
abbrev pub leads : Step → List ℕ → List ℕ → Bool
leads step comes best =
    (slice_index comes (tile step.x step.y) == 2500)
    || nat_lt step.creep (slice_index best (tile step.x step.y))
