-- The code of an object with its room.
use Rattle.std.specs.Prelude.{ℕ, refl}
use Rattle.std.specs.Coded.{Coded, code_by, coded×, coded_ℕ}
use Rattle.room_table.specs.contracts.object.Object.{the_row}
use Rattle.room_table.specs.declared.object.Object.{Object}
use Rattle.world_rules.specs.World.{Placed}

-- as a pair of its parts
abbrev pub placed_code : Coded Placed
placed_code =
    code_by (ℕ × Object) (coded× coded_ℕ the_row.coded) (λ placed. (placed.room, placed.object))
    (λ pair. record { room = pair.0; object = pair.1 }) (λ _. refl)
