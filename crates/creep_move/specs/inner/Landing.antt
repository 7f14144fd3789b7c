-- What the steps of creeps make of the objects of a room. For private clauses.
use Rattle.std.specs.Prelude.{◌≡◌, ◌≢◌, ℕ, ◌-◌, ◌*◌, ◌/◌, ◌%◌, ◌<◌, ◌≤◌, max, true, List, length, Some, None}
use Rattle.std.specs.Prelude.{Bool, slice_index, slice_get}
use Rattle.std.specs.Option.{is_some}
use Rattle.game_tables.specs.Kinds.{is_creep}
use Rattle.game_tables.specs.Numbers.{kind_number}
use Rattle.game_tables.specs.declared.kind.Kind.TheVariants.{Road}
use Rattle.room_terrain.specs.Tiles.{tile}
use Rattle.room_terrain.specs.declared.terrain.Ground.{Ground}
use Rattle.room_table.specs.declared.object.Object.{Object}
use Rattle.room_table.specs.Tables.{find_object, first_on}
use Rattle.world_rules.specs.Moves.{pace, weight}
use Rattle.creep_move.specs.inner.Decided.{IsGoing}

-- a creep after its step
abbrev pub stepped_to : ℕ → ℕ → ℕ → Object → Object
stepped_to x y tired creep = record creep { x = x; y = y; other_ticks = 1; extra = tired }

-- a road after a creep of so many parts came onto it
abbrev pub worn_by : ℕ → Object → Object
worn_by parts road = record road { timer = max 1 (road.timer - parts) }

-- A creep of this id stands there, which carries no more than a body can.
pub record IsGoer (objects : List Object) (id : ℕ) : Type 0 where
  pub creep : Object
  pub found : find_object id objects ≡ Some creep
  pub kind : is_creep creep.kind ≡ true
  pub load : creep.energy ≤ 2500

-- how tired a creep is after its step onto a tile of a room of these objects
abbrev pub tired_on : List Ground → List Object → ℕ → ℕ → Object → ℕ
tired_on grounds objects x y creep =
    weight creep * pace (is_some (first_on x y Road objects)) (slice_get grounds (tile x y))

-- A creep has stepped onto the tile, and the road there has worn.
pub record IsLanded (x y tired : ℕ) (creep : Object) (old new : List Object) : Type 0 where
  pub its : find_object creep.id new ≡ Some (stepped_to x y tired creep)
  pub road : (road : Object) → first_on x y Road old ≡ Some road
      → find_object road.id new ≡ Some (worn_by (length creep.body) road)
  pub others : (id : ℕ) → id ≢ creep.id → ((road : Object) → first_on x y Road old ≡ Some road → id ≢ road.id)
      → find_object id new ≡ find_object id old

-- Creeps of the room go to the tiles of the tables, each to one.
pub record AreGoers (objects : List Object) (comes best : List ℕ) (held : List Bool) : Type 0 where
  pub goer : (t : ℕ) → t < 2500 → IsGoing comes held t → IsGoer objects (slice_index best t)
  pub once : (t u : ℕ) → t < 2500 → u < 2500 → IsGoing comes held t → IsGoing comes held u
      → slice_index best t ≡ slice_index best u → t ≡ u

-- The object is a road.
abbrev pub IsRoad : Object → Type 0
IsRoad object = kind_number object.kind ≡ kind_number Road

-- What stands for an object once the tiles before this one were gone to.
pub data IsAfter (grounds : List Ground) (objects : List Object) (comes best : List ℕ) (held : List Bool)
    (next : ℕ) (object after : Object) : Type 0 where
  steps : (t : ℕ) → t < next → IsGoing comes held t → slice_index best t ≡ object.id
      → after ≡ stepped_to (t % 50) (t / 50) (tired_on grounds objects (t % 50) (t / 50) object) object
      → IsAfter grounds objects comes best held next object after
  wears : (creep : Object) → IsRoad object → tile object.x object.y < next
      → IsGoing comes held (tile object.x object.y)
      → find_object (slice_index best (tile object.x object.y)) objects ≡ Some creep
      → after ≡ worn_by (length creep.body) object → IsAfter grounds objects comes best held next object after
  stays : ((t : ℕ) → t < next → IsGoing comes held t → slice_index best t ≡ object.id → ⊥)
      → (IsRoad object → tile object.x object.y < next → IsGoing comes held (tile object.x object.y) → ⊥)
      → after ≡ object → IsAfter grounds objects comes best held next object after

-- What stands in a room once the tiles before this one were gone to.
pub record AreAfter (grounds : List Ground) (objects : List Object) (comes best : List ℕ) (held : List Bool)
    (next : ℕ) (now : List Object) : Type 0 where
  pub absent : (id : ℕ) → find_object id objects ≡ None → find_object id now ≡ None
  pub present : (id : ℕ) (object : Object) → find_object id objects ≡ Some object
      → (after : Object) × (find_object id now ≡ Some after)
      × IsAfter grounds objects comes best held next object after
