use Rattle.std.proofs.Common.{◌≡◌, ◌<◌, ◌^◌, ◌++◌, length, take}
use Rattle.std.specs.List.{AllByRecursion, flat_map}
use Rattle.byteorder.specs.Endian.{little_bytes}
use Rattle.world_bytes.specs.Forms.{room_bytes}
use Rattle.world_bytes.specs.Numbers.{TableFits}
use Rattle.tick_journal.proofs.parts.put_tables.Given as goal

abbrev pub invariant-each : goal.invariant-each
invariant-each l = record {
  written : l.out.items ≡ l.fn.out.items ++ (little_bytes 4 (length l.tables) ++ flat_map room_bytes (take l.table-index l.tables));
  count : length l.tables < 2 ^ 32;
  fits : AllByRecursion TableFits (take l.table-index l.tables);
}
