-- Which creeps move, by the tables by tile. For private clauses.
use Rattle.std.specs.Prelude.{◌≡◌, ℕ, ◌<◌, Bool, List, slice_index}
use Rattle.std.specs.List.{Contains}
use Rattle.room_terrain.specs.Tiles.{tile}
use Rattle.world_rules.specs.Movement.{Mover}
use Rattle.creep_move.specs.inner.Walk.{IsFree}

-- The tile has a winner, and it is not held back.
abbrev pub IsGoing : List ℕ → List Bool → ℕ → Type 0
IsGoing comes held at = (slice_index comes at < 2500) × IsFree held (slice_index comes at)

-- The movers are those of the tables: the winners that are not held back.
pub record IsDecided (set : List Mover) (comes best : List ℕ) (held : List Bool) : Type 0 where
  pub inside_x : (one : Mover) → Contains set one → one.x < 50
  pub inside_y : (one : Mover) → Contains set one → one.y < 50
  pub going : (one : Mover) → Contains set one → IsGoing comes held (tile one.x one.y)
  pub its : (one : Mover) → Contains set one → slice_index best (tile one.x one.y) ≡ one.creep
  pub goes : (x y : ℕ) → x < 50 → y < 50 → IsGoing comes held (tile x y)
      → Contains set (record { creep = slice_index best (tile x y); x = x; y = y })
