-- What comes of some checks that are made in their order. For private clauses.
use Rattle.std.specs.Prelude.{◌≡◌, ℕ, true, false, List, Result, Ok, Err}
use Rattle.game_tables.specs.declared.code.Code.{Code}
use Rattle.room_table.specs.declared.object.Object.{Object}
use Rattle.world_rules.specs.World.{Placed}
use Rattle.world_rules.specs.Checks.{Check, all_hold, first_failing}

-- All hold, or this is the code of the first that fails.
abbrev pub Passes : Result (Unit {0}) Code → List Check → Type 0
Passes (Ok done) checks = all_hold checks ≡ true
Passes (Err code) checks = (first_failing checks ≡ code) × (all_hold checks ≡ false)

-- the object in a room
abbrev pub placed_at : ℕ → Object → Placed
placed_at room object = record { room = room; object = object }
