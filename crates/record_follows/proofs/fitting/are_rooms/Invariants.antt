use Rattle.std.proofs.Common.{◌<◌, drop, length}
use Rattle.std.specs.List.{AllByRecursion}
use Rattle.record_follows.proofs.fitting.are_rooms.Given as goal

abbrev pub invariant-loop-table : goal.invariant-loop-table
invariant-loop-table l = record {
  left : AllByRecursion (λ table. table.index < length l.before.rooms) (drop l.table-index l.tables) → AllByRecursion (λ table. table.index < length l.before.rooms) l.tables;
  whole : AllByRecursion (λ table. table.index < length l.before.rooms) l.tables → AllByRecursion (λ table. table.index < length l.before.rooms) (drop l.table-index l.tables);
}
