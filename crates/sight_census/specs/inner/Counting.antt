-- The course of the counting, room by room and object by object.
use Rattle.std.specs.Prelude.{◌≡◌, ℕ, ◌+◌, ◌-◌, ◌^◌, ◌==◌, min, if◌then◌else◌}
use Rattle.std.specs.Prelude.{List, length, slice_get, Option, Some}
use Rattle.room_table.specs.declared.object.Object.{Object}
use Rattle.world_rules.specs.Sites.{count_of}
use Rattle.world_rules.specs.Spawns.{held_by}
use Rattle.sight_census.specs.declared.told.Told.{Told}

abbrev pub none : Told
none = record { held = 0; spawns = 0; extensions = 0; storages = 0; containers = 0; roads = 0 }

-- how many there are of a number, with one more of another
abbrev pub with_one : ℕ → ℕ → ℕ → ℕ
with_one number other count = if other == number then count + 1 else count

abbrev pub one_more : ℕ → Told → Told
one_more number told = record told {
  spawns = with_one 4 number told.spawns;
  extensions = with_one 5 number told.extensions;
  storages = with_one 6 number told.storages;
  containers = with_one 7 number told.containers;
  roads = with_one 8 number told.roads;
}

-- how many there are of all kinds
abbrev pub total : Told → ℕ
total told = told.spawns + told.extensions + told.storages + told.containers + told.roads

-- This is what the player's spawns and extensions among the objects hold, and these are the buildings and
-- sites.
pub record AreCounted (player : ℕ) (objects : List Object) (told : Told) : Type 0 where
  pub held : told.held ≡ min (2 ^ 32 - 1) (held_by player objects)
  pub spawns : told.spawns ≡ count_of 4 objects
  pub extensions : told.extensions ≡ count_of 5 objects
  pub storages : told.storages ≡ count_of 6 objects
  pub containers : told.containers ≡ count_of 7 objects
  pub roads : told.roads ≡ count_of 8 objects

-- Of each room this is what is counted there, where it is known yet.
pub record AreKnown (rooms : List Told) (known : List (Option Told)) : Type 0 where
  pub same : length known ≡ length rooms
  pub told : (place : ℕ) (told : Told) → slice_get known place ≡ Some (Some told)
      → slice_get rooms place ≡ Some told
