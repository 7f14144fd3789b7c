use Rattle.std.proofs.Common.{◌≡◌, ◌≢◌, ℕ, ◌<◌, ◌⊎◌, length, get_or, false, true, not}
use Rattle.std.specs.List.{count_by}
use Rattle.creep_move.specs.inner.Walk.{Stuck, IsClosed}
use Rattle.creep_move.proofs.walk.hold_behind.Given as goal

-- only the creep that would go to a tile held last may still be free
abbrev pub invariant-loop-from : goal.invariant-loop-from
invariant-loop-from l = record {
  next : l.from < length l.held → Stuck l.comes l.initial.held l.from;
  kept : (t : ℕ) → get_or l.initial.held t false ≡ true → get_or l.held t false ≡ true;
  stuck : (t : ℕ) → get_or l.held t false ≡ true → Stuck l.comes l.initial.held t;
  closed : (t : ℕ) → get_or l.held t false ≡ true → IsClosed l.comes l.held t ⊎ ((get_or l.comes t 0 ≡ l.from) ⊎ (get_or l.initial.held t false ≡ true) × (t ≢ l.tile));
}

-- each turn holds one creep more
abbrev pub decreases-loop-from : goal.decreases-loop-from
decreases-loop-from l = count_by (λ b. not b) l.held
