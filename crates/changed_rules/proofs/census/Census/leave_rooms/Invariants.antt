use Rattle.std.proofs.Common.{drop}
use Rattle.changed_rules.specs.Census.{IsCensusApart}
use Rattle.changed_rules.proofs.census.Census.leave_rooms.Given as goal

abbrev pub invariant-loop-at : goal.invariant-loop-at
invariant-loop-at l = IsCensusApart (drop l.at l.places) l.world l.self
