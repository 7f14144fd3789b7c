use Rattle.std.proofs.Common.{drop}
use Rattle.std.specs.List.{AllByRecursion}
use Rattle.changed_rules.specs.Census.{KeepsSerials}
use Rattle.changed_rules.proofs.places.keep_serials.Given as goal

abbrev pub invariant-loop-table : goal.invariant-loop-table
invariant-loop-table l = record {
  left : AllByRecursion (KeepsSerials l.world.rooms) (drop l.table-index l.tables) → AllByRecursion (KeepsSerials l.world.rooms) l.tables;
  whole : AllByRecursion (KeepsSerials l.world.rooms) l.tables → AllByRecursion (KeepsSerials l.world.rooms) (drop l.table-index l.tables);
}
