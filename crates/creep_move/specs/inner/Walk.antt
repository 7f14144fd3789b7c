-- What the tables by tile say. For private clauses.
use Rattle.std.specs.Prelude.{◌≡◌, ◌<◌, ℕ, Bool, false, true, List, length, slice_index, slice_index_or}
use Rattle.std.specs.List.{Contains}
use Rattle.game_tables.specs.Kinds.{is_creep}
use Rattle.room_terrain.specs.Tiles.{tile}
use Rattle.room_table.specs.declared.object.Object.{Object}

-- A creep stands on the tile.
abbrev pub IsStoodOn : List Object → ℕ → Type 0
IsStoodOn objects at =
    (object : Object) × Contains objects object × (is_creep object.kind ≡ true)
    × (tile object.x object.y ≡ at)

-- The table has the tile among those of creeps that stay.
abbrev pub IsHeld : List Bool → ℕ → Type 0
IsHeld held at = slice_index_or held at false ≡ true

abbrev pub IsFree : List Bool → ℕ → Type 0
IsFree held at = slice_index_or held at false ≡ false

-- The winner of some tile comes from this one.
abbrev pub IsLeft : List ℕ → ℕ → Type 0
IsLeft comes at = (to : ℕ) × (to < length comes) × (slice_index comes to ≡ at)

-- The creep on the tile stays, since it does not win or would go to where a creep stays.
pub data Stuck (comes : List ℕ) (held : List Bool) : ℕ → Type 0 where
  here : {t : ℕ} → IsHeld held t → Stuck comes held t
  behind : {t u : ℕ} → Stuck comes held t → slice_index comes t ≡ u → u < length held → Stuck comes held u

-- The creep that would go to the tile stays.
abbrev pub IsClosed : List ℕ → List Bool → ℕ → Type 0
IsClosed comes held at = slice_index comes at < length held → IsHeld held (slice_index comes at)
