use Rattle.std.proofs.Common.{drop}
use Rattle.changed_rules.proofs.Apart.{KnownApart}
use Rattle.changed_rules.proofs.census.Census.enter_rooms.Given as goal

abbrev pub invariant-loop-place : goal.invariant-loop-place
invariant-loop-place l = KnownApart (drop l.place-index l.places) l.world l.self
