use Rattle.std.proofs.Common.{◌≡◌, ◌++◌, map}
use Rattle.std.specs.List.{filter}
use Rattle.world_rules.specs.Crossings.{is_crosser}
use Rattle.exit_crossing.specs.Crossing.{crosser_in}
use Rattle.exit_crossing.proofs.leaving.add_crossers.Given as goal

abbrev pub invariant-loop-object : goal.invariant-loop-object
invariant-loop-object l = l.list.items ++ map (crosser_in l.index) (filter is_crosser l.object-iterator) ≡ l.fn.list.items ++ map (crosser_in l.index) (filter is_crosser l.room.objects)
