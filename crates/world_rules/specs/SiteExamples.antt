-- Worked examples of sites, and of creeps that spawns make, which the check computes.
use Rattle.std.specs.Prelude.{◌≡◌, ℕ, List, [], ◌∷◌, ◌++◌, replicate, Option, Some, None}
use Rattle.game_tables.specs.declared.code.Code.{Code}
use Rattle.game_tables.specs.declared.kind.Kind.{Kind}
use Rattle.game_tables.specs.declared.kind.Kind.TheVariants as kinds
use Rattle.game_tables.specs.declared.kind.Part.{Part}
use Rattle.room_terrain.specs.declared.terrain.Ground.TheVariants.{Plain, Wall}
use Rattle.room_table.specs.declared.object.Object.{Object}
use Rattle.world_rules.specs.Checks.{first_failing}
use Rattle.world_rules.specs.Sites.{Plan, removal_checks, site_checks}
use Rattle.world_rules.specs.Spawns.{spawn_checks}
use Rattle.world_rules.specs.FightExamples.{fighter}
use Rattle.world_rules.specs.WorkExamples.{store}

-- a plan of player 1 for a kind of this number on a tile of a room in which these stand and the tile (2, 1)
-- alone is a wall
abbrev pub planned : ℕ → ℕ → ℕ → List Object → Plan
planned x y number around = record {
  player = 1;
  x = x;
  y = y;
  number = number;
  grounds = replicate 52 Plain ++ Wall ∷ replicate 2447 Plain;
  around = around;
  recorded = 0;
  sites = 0;
}

-- The checks of a plan answer this.
abbrev pub Answers : Plan → Code → Type 0
Answers plan code = first_failing (site_checks plan) ≡ code

-- an object of a player in the column 10, in this row
abbrev pub there : Kind → ℕ → ℕ → Object
there kind owner y = fighter 9 kind owner y 100 []

-- a site of a player for a building of the kind of this number
abbrev pub site_for : ℕ → ℕ → ℕ → Object
site_for number owner y = record (there kinds.Site owner y) { extra = number }

-- so many of them
abbrev pub many_of : ℕ → Object → List Object
many_of many object = replicate many object

-- The checks of a removal by player 1 answer this.
abbrev pub Removes : Option Object → Code → Type 0
Removes None code = first_failing (removal_checks 1 None) ≡ code
Removes (Some object) code =
    first_failing (removal_checks 1 (Some (record { room = 0; object = object }))) ≡ code

-- The checks of a creep of this body, which player 1 wants of this object, answer this where these stand
-- there.
abbrev pub Begins : Object → List Object → Option (List Part) → Code → Type 0
Begins spawn around body code =
    first_failing (spawn_checks 1 (Some (record { room = 0; object = spawn })) around body) ≡ code

-- an object of this id and kind of a player, with this energy
abbrev pub holder : ℕ → Kind → ℕ → ℕ → Object
holder id kind owner energy = record (store kind energy) { id = id; owner = owner }

-- a spawn of a player that makes a creep for so many ticks more
abbrev pub spawn : ℕ → ℕ → Object
spawn owner timer = record (holder 2 kinds.Spawn owner 50) { timer = timer }

-- a spawn of player 1 that makes a creep of this body
abbrev pub making : List Part → Object
making body = record (spawn 1 1) { body = body }
