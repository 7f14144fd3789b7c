-- What is counted of what a player sees, for the checks that hang on how much there is.
use Rattle.std.specs.Prelude.{ℕ, ◌-◌, ◌^◌, ◌==◌, ◌&&◌, min, if◌then◌else◌, Bool, List, map}
use Rattle.std.specs.List.{count_by}
use Rattle.game_tables.specs.Kinds.{is_controller}
use Rattle.room_table.specs.declared.object.Object.{Object}
use Rattle.world_rules.specs.Sites.{count_of}
use Rattle.world_rules.specs.Spawns.{held_by}
use Rattle.visible_view.specs.Sights.{SeenRoom, Sight}
use Rattle.visible_view.specs.Fields.{objects_at}
use Rattle.sight_census.specs.declared.told.Told.{Told}

-- of one room: what the player's spawns and extensions hold together, as far as 32 bits tell it, and how many
-- buildings and sites there are of each kind that is built from sites
abbrev pub told_of : ℕ → List Object → Told
told_of player objects = record {
  held = min (2 ^ 32 - 1) (held_by player objects);
  spawns = count_of 4 objects;
  extensions = count_of 5 objects;
  storages = count_of 6 objects;
  containers = count_of 7 objects;
  roads = count_of 8 objects;
}

-- how many of the kind of a number, and 0 of one that is not built from sites
abbrev pub built : Told → ℕ → ℕ
built told number =
    if number == 4 then told.spawns
    else if number == 5 then told.extensions
    else if number == 6 then told.storages
    else if number == 7 then told.containers
    else if number == 8 then told.roads
    else 0

abbrev pub told_in : Sight → SeenRoom → Told
told_in sight room = told_of sight.account.player (objects_at sight room.index)

-- a controller that the player owns
abbrev pub is_controller_of : ℕ → Object → Bool
is_controller_of player object = is_controller object.kind && (object.owner == player)

-- of each room that is seen, in their order, and the number of the player's controllers
pub record Census : Type 0 where
  pub rooms : List Told
  pub controllers : ℕ

abbrev pub census_of : Sight → Census
census_of sight = record {
  rooms = map (told_in sight) sight.rooms;
  controllers = count_by (λ placed. is_controller_of sight.account.player placed.object) sight.objects;
}
