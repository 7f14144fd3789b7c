use Rattle.std.proofs.Common.{◌≡◌, ◌++◌, ◌∷◌, length, map, take}
use Rattle.game_tables.specs.Numbers.{part_number}
use Rattle.world_bytes.proofs.write.put_body.Given as goal

abbrev pub invariant-each : goal.invariant-each
invariant-each l = l.out.items ≡ l.fn.out.items ++ (length l.parts ∷ map part_number (take l.part-index l.parts))
