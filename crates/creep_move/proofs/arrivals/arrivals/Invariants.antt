use Rattle.std.proofs.Common.{◌≡◌, ℕ, ◌<◌, take, get_or, length}
use Rattle.world_rules.specs.RoomParts.{table_part}
use Rattle.creep_move.specs.inner.Arrivals.{Arrives}
use Rattle.creep_move.proofs.arrivals.arrivals.Given as goal

-- the winners so far
abbrev pub invariant-loop-intent : goal.invariant-loop-intent
invariant-loop-intent l = record {
  long : length l.comes ≡ 2500;
  wide : length l.best ≡ 2500;
  winners : (t : ℕ) → t < 2500 → Arrives (table_part l.terrain l.room) (take l.intent-index l.moves) t (get_or l.comes t 0) (get_or l.best t 0);
}
