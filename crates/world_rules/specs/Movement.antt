-- Movement: which of the creeps that would step do, and what they leave.
use Rattle.std.specs.Prelude.{ℕ, ◌-◌, ◌==◌, ◌&&◌, not, max, Bool, nat_lt, List, [], ◌∷◌, ◌++◌, length, map}
use Rattle.std.specs.Prelude.{Option, Some, None}
use Rattle.std.specs.List.{filter, list_any, list_all, find}
use Rattle.std.specs.FinMap.{values}
use Rattle.game_tables.specs.declared.kind.Kind.{Kind}
use Rattle.game_tables.specs.declared.kind.Kind.TheVariants.{Road}
use Rattle.room_table.specs.declared.object.Object.{Object}
use Rattle.game_tables.specs.Kinds.{is_creep}
use Rattle.world_rules.specs.RoomParts.{RoomPart}
use Rattle.world_rules.specs.Changes.{with_object}
use Rattle.world_rules.specs.Steps.{over_objects}

-- a creep that would step, and the tile to which
pub record Mover : Type 0 where
  pub creep : ℕ
  pub x : ℕ
  pub y : ℕ

-- Both would step to one tile.
abbrev pub meet : Mover → Mover → Bool
meet one other = (one.x == other.x) && (one.y == other.y)

-- per tile the one of least id
abbrev pub winners : List Mover → List Mover
winners list =
    filter (λ one. not (list_any (λ other. meet one other && nat_lt other.creep one.creep) list)) list

-- The creep is among these.
abbrev pub has_mover : List Mover → ℕ → Bool
has_mover set creep = list_any (λ one. one.creep == creep) set

-- It is a creep on this tile.
abbrev pub is_creep_on : ℕ → ℕ → Object → Bool
is_creep_on x y object = is_creep object.kind && (object.x == x) && (object.y == y)

-- Each goes to a tile without a creep, or to the tile of a creep of the same set.
abbrev pub may_move : List Object → List Mover → Bool
may_move objects set =
    let creeps_on : Mover → List Object = λ one. filter (is_creep_on one.x one.y) objects in
    list_all (λ one. list_all (λ creep. has_mover set creep.id) (creeps_on one)) set

-- all sets of these
abbrev pub sets_of : List Mover → List (List Mover)
sets_of [] = [] ∷ []
sets_of (one ∷ later) = map (λ set. one ∷ set) (sets_of later) ++ sets_of later

-- the union of all sets of winners that may move
abbrev pub movers : List Object → List Mover → List Mover
movers objects list =
    let first : List Mover = winners list in
    filter (λ one. list_any (λ set. may_move objects set && has_mover set one.creep) (sets_of first)) first

-- A creep that moves stands on its tile, has moved, and is tired.
abbrev pub stepped : (Object → Mover → ℕ) → Object → Option Mover → Object
stepped fatigue creep None = creep
stepped fatigue creep (Some one) =
    record creep { x = one.x; y = one.y; other_ticks = 1; extra = fatigue creep one }

-- A road wears by 1 for each part of the creep that came onto it, down to 1.
abbrev pub worn_as : Kind → List Object → Object → Object
worn_as Road creeps road = elim (find (is_creep_on road.x road.y) creeps) as (λ found. Object) [
  | None ↦ road
  | Some creep ↦ record road { timer = max 1 (road.timer - length creep.body) }
]
worn_as _ creeps object = object

-- All movers step at once, then the roads under them wear.
abbrev pub moved_by : (Object → Mover → ℕ) → List Mover → RoomPart → RoomPart
moved_by fatigue list part =
    let set : List Mover = movers (values part.objects) list in
    let mover : Object → Option Mover = λ object. find (λ one. one.creep == object.id) set in
    let step : Object → RoomPart → RoomPart = λ object. with_object (stepped fatigue object (mover object)) in
    let after : RoomPart = over_objects step part in
    let creeps : List Object = filter (λ object. has_mover set object.id) (values after.objects) in
    over_objects (λ object now. with_object (worn_as object.kind creeps object) now) after
