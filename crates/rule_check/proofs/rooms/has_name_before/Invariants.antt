use Rattle.std.proofs.Common.{◌≡◌, ◌<◌}
use Rattle.rule_check.proofs.Minima.{NoneBelow}
use Rattle.rule_check.proofs.rooms.has_name_before.Given as goal

abbrev pub invariant-loop-earlier : goal.invariant-loop-earlier
invariant-loop-earlier l = NoneBelow (λ k room. (k < l.index) × (room.name ≡ l.name)) l.rooms l.earlier
