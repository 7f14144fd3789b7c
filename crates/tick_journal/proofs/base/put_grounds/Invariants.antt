use Rattle.std.proofs.Common.{◌≡◌, ◌++◌, map, take}
use Rattle.room_terrain.specs.Tiles.{ground_number}
use Rattle.tick_journal.proofs.base.put_grounds.Given as goal

abbrev pub invariant-each : goal.invariant-each
invariant-each l = l.out.items ≡ l.fn.out.items ++ map ground_number (take l.ground-index l.grounds)
