-- What a step leaves in which each object changes by itself, or goes.
use Rattle.std.specs.Prelude.{◌≡◌, ℕ, List, ◌++◌, length, filter_map, Option, Some, None}
use Rattle.std.specs.List.{AllByRecursion}
use Rattle.room_table.specs.declared.object.Object.{Object}
use Rattle.room_table.specs.Tables.{Table, IsOnTile}
use Rattle.room_table.specs.Tallies.{Tallies}
use Rattle.world_rules.specs.Claims.{controller_aged_as}
use Rattle.world_rules.specs.Upkeep.{recovered_as, renewed_as, decayed_as}
use Rattle.upkeep_rules.specs.declared.pass.Step.{Step}
use Rattle.upkeep_rules.specs.declared.pass.Step.TheVariants.{Recover, Control, Renew, Decay}
use Rattle.upkeep_rules.specs.declared.pass.Upkept.{Upkept}
use Rattle.upkeep_rules.specs.declared.pass.Upkept.TheVariants.{Stays, Changes, Goes}

-- what a step leaves of an object
abbrev pub left_by : Step → Object → Option Object
left_by Recover object = Some (recovered_as object.kind object)
left_by Control object = Some (controller_aged_as object.kind object)
left_by (Renew capacity) object = renewed_as object.kind capacity object
left_by Decay object = decayed_as object.kind object

-- what is left of an object
abbrev pub left_of : Object → Upkept → Option Object
left_of object Stays = Some object
left_of object (Changes left) = Some left
left_of object Goes = None

-- the table with the objects that a step leaves, in their order, and with what was done to them
abbrev pub passed : Step → Tallies → Table → Table
passed step tallies table =
    record table { objects = filter_map (left_by step) table.objects; tallies = tallies }

-- The objects before a place are as the step leaves them, and those from it on are still as they were.
pub record IsPassedTo (step : Step) (start : Table) (place : ℕ) (now : Table) : Type 0 where
  pub done : List Object
  pub later : List Object
  pub whole : start.objects ≡ done ++ later
  pub count : length (filter_map (left_by step) done) ≡ place
  pub table : now
      ≡ record start { objects = filter_map (left_by step) done ++ later; tallies = now.tallies }
  pub tiles : AllByRecursion IsOnTile now.objects
