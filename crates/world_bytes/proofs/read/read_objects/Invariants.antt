use Rattle.std.proofs.Common.{◌≡◌, ◌+◌, length}
use Rattle.std.specs.List.{AllByRecursion}
use Rattle.room_table.specs.Tables.{IsRising}
use Rattle.world_bytes.specs.Forms.{HasObjectForm}
use Rattle.world_bytes.specs.inner.Rows.{objects_row}
use Rattle.world_bytes.proofs.read.read_objects.Given as goal

abbrev pub invariant-each : goal.invariant-each
invariant-each l = record {
  counted : length l.objects.items ≡ l.counter;
  rising : IsRising l.objects.items;
  forms : AllByRecursion HasObjectForm l.objects.items;
  whole : l.initial.from.0 ≡ objects_row l.objects.items l.from.0;
  place : l.from.1 + length l.from.0 ≡ l.initial.from.1 + length l.initial.from.0;
}
