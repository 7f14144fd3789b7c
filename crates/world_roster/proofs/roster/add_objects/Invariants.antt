use Rattle.std.proofs.Common.{◌≡◌, ◌++◌, map}
use Rattle.world_roster.specs.Rosters.{shown_entry}
use Rattle.world_roster.specs.inner.Listed.{placed_at}
use Rattle.world_roster.proofs.roster.add_objects.Given as goal

abbrev pub invariant-loop-object : goal.invariant-loop-object
invariant-loop-object l = map shown_entry l.all.items ++ placed_at l.room l.object-iterator ≡ map shown_entry l.fn.all.items ++ placed_at l.room l.fn.objects
