use Rattle.std.proofs.Common.{◌≡◌, ℕ, ◌↔◌, get_or, false, true}
use Rattle.creep_move.proofs.Tables.{LeftBy}
use Rattle.creep_move.proofs.walk.release.Given as goal

-- the tiles that the winners so far go away from
abbrev pub invariant-loop-from : goal.invariant-loop-from
invariant-loop-from l = record {
  kept : (t : ℕ) → get_or l.held t false ≡ true → get_or l.initial.held t false ≡ true;
  left : (t : ℕ) → get_or l.initial.held t false ≡ true → (get_or l.held t false ≡ false ↔ LeftBy l.from-index l.comes t);
}
