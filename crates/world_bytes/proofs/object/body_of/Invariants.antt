use Rattle.std.proofs.Common.{◌≡◌, map, take}
use Rattle.game_tables.specs.Numbers.{part_number}
use Rattle.world_bytes.proofs.object.body_of.Given as goal

abbrev pub invariant-each : goal.invariant-each
invariant-each l = map part_number l.body ≡ take l.number-index l.numbers
