use Rattle.std.proofs.Common.{◌≡◌, map, take}
use Rattle.std.specs.List.{AllByRecursion}
use Rattle.world_rules.specs.World.{listed_room}
use Rattle.rule_check.specs.Views.{viewed_room, IsOrdered}
use Rattle.rule_check.proofs.keeps.views_of.Given as goal

abbrev pub invariant-loop-index : goal.invariant-loop-index
invariant-loop-index l = record {
  same : map viewed_room l.views.items ≡ map listed_room (take l.index l.rooms);
  ordered : AllByRecursion IsOrdered l.views.items;
}
