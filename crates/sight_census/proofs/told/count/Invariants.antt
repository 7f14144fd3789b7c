use Rattle.std.proofs.Common.{◌≡◌, ◌≤◌, ◌+◌, ◌-◌, ◌^◌, length}
use Rattle.std.specs.Prelude.{min}
use Rattle.world_rules.specs.Sites.{count_of}
use Rattle.world_rules.specs.Spawns.{held_by}
use Rattle.sight_census.specs.inner.Counting.{total}
use Rattle.sight_census.proofs.told.count.Given as goal

abbrev pub invariant-loop-object : goal.invariant-loop-object
invariant-loop-object l = record {
  fits : l.told.held ≤ 2 ^ 32 - 1;
  held : min (2 ^ 32 - 1) (l.told.held + held_by l.fn.player l.object-iterator) ≡ min (2 ^ 32 - 1) (held_by l.fn.player l.fn.objects);
  spawns : l.told.spawns + count_of 4 l.object-iterator ≡ count_of 4 l.fn.objects;
  extensions : l.told.extensions + count_of 5 l.object-iterator ≡ count_of 5 l.fn.objects;
  storages : l.told.storages + count_of 6 l.object-iterator ≡ count_of 6 l.fn.objects;
  containers : l.told.containers + count_of 7 l.object-iterator ≡ count_of 7 l.fn.objects;
  roads : l.told.roads + count_of 8 l.object-iterator ≡ count_of 8 l.fn.objects;
  few : total l.told + length l.object-iterator ≤ length l.fn.objects;
}
