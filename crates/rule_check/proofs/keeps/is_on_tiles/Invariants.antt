use Rattle.std.specs.List.{AllByRecursion}
use Rattle.room_table.specs.Tables.{IsOnTile}
use Rattle.rule_check.proofs.keeps.is_on_tiles.Given as goal

abbrev pub invariant-loop-object : goal.invariant-loop-object
invariant-loop-object l = record {
  left : AllByRecursion IsOnTile l.object-iterator → AllByRecursion IsOnTile l.fn.table.objects;
  whole : AllByRecursion IsOnTile l.fn.table.objects → AllByRecursion IsOnTile l.object-iterator;
}
