use Rattle.std.proofs.Common.{◌≡◌, map, take}
use Rattle.room_terrain.specs.Tiles.{ground_number}
use Rattle.tick_journal.proofs.read_base.grounds_of.Given as goal

abbrev pub invariant-each : goal.invariant-each
invariant-each l = map ground_number l.grounds.items ≡ take l.number-index l.numbers
