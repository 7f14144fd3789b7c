use Rattle.std.proofs.Common.{◌≡◌, map, take}
use Rattle.world_roster.specs.Rosters.{shown_entry}
use Rattle.world_roster.specs.inner.Listed.{placed_among}
use Rattle.world_roster.proofs.roster.gather.Given as goal

abbrev pub invariant-loop-index : goal.invariant-loop-index
invariant-loop-index l = map shown_entry l.all.items ≡ placed_among (take l.index l.rooms)
