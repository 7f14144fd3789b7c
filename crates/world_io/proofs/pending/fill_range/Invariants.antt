use Rattle.std.proofs.Common.{◌≡◌, ◌⊎◌, ◌<◌, ◌≤◌, ℕ, length, get_or}
use Rattle.world_io.proofs.pending.fill_range.Given as goal

abbrev pub invariant-loop-place : goal.invariant-loop-place
invariant-loop-place l =
    record {
      inside : (k : ℕ) → k < length l.image → l.at ≤ k → k < l.place → get_or l.image k 0 ≡ l.free;
      outside : (k : ℕ) → (k < l.at) ⊎ (l.place ≤ k) → get_or l.image k 0 ≡ get_or l.fn.image k 0;
    }
