use Rattle.std.proofs.Common.{◌≡◌, ◌<◌, ◌^◌, ◌++◌, length, take}
use Rattle.std.specs.List.{AllByRecursion, flat_map}
use Rattle.byteorder.specs.Endian.{little_bytes}
use Rattle.tick_journal.specs.Contents.{base_room}
use Rattle.world_bytes.specs.Numbers.{TableFits}
use Rattle.tick_journal.proofs.base.put_base_rooms.Given as goal

abbrev pub invariant-each : goal.invariant-each
invariant-each l = record {
  written : l.out.items ≡ l.fn.out.items ++ (little_bytes 4 (length l.rooms) ++ flat_map base_room (take l.room-index l.rooms));
  count : length l.rooms < 2 ^ 32;
  fits : AllByRecursion (λ room. TableFits room.table) (take l.room-index l.rooms);
}
