use Rattle.creep_move.proofs.Held.{Kept}
use Rattle.creep_move.proofs.walk.hold.Given as goal

-- each held tile is closed, but for those to come
abbrev pub invariant-loop-tile : goal.invariant-loop-tile
invariant-loop-tile l = Kept l.comes l.initial.held l.held l.tile
