use Rattle.std.proofs.Common.{◌≡◌, map, take}
use Rattle.std.specs.List.{AllByRecursion}
use Rattle.rule_check.specs.Views.{viewed_room, IsOrdered}
use Rattle.world_text.specs.inner.Drafts.{drafted_room}
use Rattle.world_text.proofs.build.views_of.Given as goal

abbrev pub invariant-loop-room : goal.invariant-loop-room
invariant-loop-room l = record {
  same : map viewed_room l.views.items ≡ map drafted_room (take l.room-index l.rooms);
  ordered : AllByRecursion IsOrdered l.views.items;
}
