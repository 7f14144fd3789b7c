-- The course of hatching, from id to id.
use Rattle.std.specs.Prelude.{◌≡◌, ℕ, ◌+◌, ◌^◌, ◌<◌, ◌≤◌, ◌&&◌, nat_le, Bool, List, length, map}
use Rattle.std.specs.Prelude.{if◌then◌else◌, Option, Some, None, option_and_then}
use Rattle.std.specs.List.{AllByRecursion, filter}
use Rattle.room_terrain.specs.declared.direction.Direction.{Direction}
use Rattle.room_terrain.specs.declared.terrain.Ground.{Ground}
use Rattle.room_table.specs.declared.object.Object.{Object}
use Rattle.room_table.specs.Tables.{Table}
use Rattle.world_rules.specs.RoomParts.{RoomPart, table_part}
use Rattle.world_rules.specs.Moves.{tile_towards}
use Rattle.world_rules.specs.Spawns.{hatched, hatched_as, is_free_for_creep}
use Rattle.world_rules.specs.Steps.{over_ids}
use Rattle.room_rules.specs.Calls.{IsReadyFor}
use Rattle.spawn_rules.specs.Spare.{is_spawn, may_hatch}

-- a spawn whose id is at least this one
abbrev pub is_left : ℕ → Object → Bool
is_left from object = is_spawn object && nat_le from object.id

abbrev pub left_from : ℕ → List Object → ℕ
left_from from objects = length (filter (is_left from) objects)

-- their ids, as they rise
abbrev pub ids_from : ℕ → List Object → List ℕ
ids_from from objects = map (λ object. object.id) (filter (is_left from) objects)

-- No id is 2^64 or more.
abbrev pub HaveIds : List Object → Type 0
HaveIds objects = AllByRecursion (λ object. object.id < 2 ^ 64) objects

-- where the next turns begin, past all ids at the end
abbrev pub next_of : Option ℕ → ℕ
next_of None = 2 ^ 64
next_of (Some from) = from

-- the turn of an object
abbrev pub hatches : Object → RoomPart → RoomPart
hatches object = hatched_as object.kind object

-- The spawns past an id are as they were, and no id is 2^64 or more where none was.
pub record KeepsOthers (id : ℕ) (old new : Table) : Type 0 where
  pub same : (from : ℕ) → id < from → filter (is_left from) new.objects ≡ filter (is_left from) old.objects
  pub ids : HaveIds old.objects → HaveIds new.objects
  pub ready : (many : ℕ) → IsReadyFor (many + 1) old → IsReadyFor many new

-- The turns up to the next id were taken.
pub record IsHatchedFrom (grounds : List Ground) (from : ℕ) (old : Table) (next : Option ℕ)
    (new : Table) : Type 0 where
  pub rule : over_ids hatches (ids_from (next_of next) new.objects) (table_part grounds new)
      ≡ over_ids hatches (ids_from from old.objects) (table_part grounds old)
  pub ready : IsReadyFor (left_from (next_of next) new.objects) new
  pub ids : HaveIds new.objects
  pub index : new.index ≡ old.index
  pub used : new.next + new.spare ≡ old.next + old.spare
  pub later : old.next ≤ new.next
  pub made : new.next + left_from (next_of next) new.objects ≤ old.next + left_from from old.objects

pub record IsHatchedTo (grounds : List Ground) (start : Table) (from : ℕ) (now : Table) : Type 0 where
  pub rule : over_ids hatches (ids_from from now.objects) (table_part grounds now)
      ≡ hatched (table_part grounds start)
  pub ready : IsReadyFor (left_from from now.objects) now
  pub ids : HaveIds now.objects
  pub index : now.index ≡ start.index
  pub used : now.next + now.spare ≡ start.next + start.spare
  pub later : start.next ≤ now.next
  pub made : now.next + left_from from now.objects ≤ start.next + may_hatch start.objects

-- ---- tiles round a spawn

abbrev pub free_at : RoomPart → Object → Option (ℕ × ℕ) → Option (ℕ × ℕ)
free_at part spawn None = None
free_at part spawn (Some at) = if is_free_for_creep part spawn.owner at then Some at else None

-- the tile in a direction, where the creep of a spawn may come onto it
abbrev pub free_towards : RoomPart → Object → Option Direction → Option (ℕ × ℕ)
free_towards part spawn to = free_at part spawn (option_and_then (λ way. tile_towards way spawn.x spawn.y) to)
