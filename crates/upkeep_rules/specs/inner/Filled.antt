-- The course of the gain of spawns, place by place.
use Rattle.std.specs.Prelude.{◌≡◌, ℕ, ◌+◌, min, nat_lt, Bool, false, List, length, Option, Some, None}
use Rattle.std.specs.Prelude.{slice_get}
use Rattle.std.specs.List.{AllByRecursion}
use Rattle.game_tables.specs.declared.kind.Kind.{Kind}
use Rattle.game_tables.specs.declared.kind.Kind.TheVariants.{Spawn}
use Rattle.room_terrain.specs.declared.terrain.Ground.{Ground}
use Rattle.room_table.specs.declared.object.Object.{Object}
use Rattle.room_table.specs.Tables.{Table, IsOnTile}
use Rattle.world_rules.specs.RoomParts.{RoomPart, table_part}
use Rattle.world_rules.specs.Steps.{by_object, over_ids}
use Rattle.world_rules.specs.Upkeep.{filled, filled_as, spawn_capacity}
use Rattle.world_rules.specs.Spawns.{held_by}
use Rattle.upkeep_rules.specs.declared.filling.Held.{Held}
use Rattle.upkeep_rules.specs.inner.Worn.{ahead, ids_of}

-- What is known of an owner is what it holds.
abbrev pub IsKnown : Option Held → List Object → Type 0
IsKnown None objects = Unit {0}
IsKnown (Some held) objects = held.energy ≡ min spawn_capacity (held_by held.owner objects)

-- It is a spawn that has room.
abbrev pub has_room : Kind → ℕ → Bool
has_room Spawn energy = nat_lt energy spawn_capacity
has_room kind energy = false

-- the gain of an object
abbrev pub gains : Object → RoomPart → RoomPart
gains object = filled_as object.kind object

-- The object at a place had its gain.
pub record IsFilled (place : ℕ) (old new : Table) : Type 0 where
  pub table : new ≡ record old { objects = new.objects }
  pub tiles : AllByRecursion IsOnTile new.objects
  pub many : length new.objects ≡ length old.objects
  pub ahead : ahead (place + 1) new ≡ ahead (place + 1) old
  pub rule : (grounds : List Ground)
      → table_part grounds new ≡ by_object gains (table_part grounds old) (slice_get old.objects place)

-- The objects before a place had their gains.
pub record IsFilledTo (start : Table) (place : ℕ) (known : Option Held) (now : Table) : Type 0 where
  pub table : now ≡ record start { objects = now.objects }
  pub tiles : AllByRecursion IsOnTile now.objects
  pub held : IsKnown known now.objects
  pub rule : (grounds : List Ground)
      → over_ids gains (ids_of (ahead place now)) (table_part grounds now) ≡ filled (table_part grounds start)
