use Rattle.rule_check.proofs.Minima.{NoneBelow}
use Rattle.rule_check.proofs.rooms.first_room.Given as goal

abbrev pub invariant-loop-index : goal.invariant-loop-index
invariant-loop-index g l = NoneBelow (g.R.RoomRule.broken l.rule) l.rooms l.index
