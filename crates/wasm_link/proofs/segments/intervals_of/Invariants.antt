use Rattle.std.proofs.Common.{ℕ, ◌-◌, ◌<◌, ◌≤◌, length, take, All}
use Rattle.std.specs.Prelude.{Any}
use Rattle.wasm_link.specs.Linking.{Fits}
use Rattle.wasm_link.specs.inner.Images.{EndsIn, IsOf}
use Rattle.wasm_link.proofs.segments.intervals_of.Given as goal

abbrev pub invariant-loop-at : goal.invariant-loop-at
invariant-loop-at g l = record {
  within : l.at ≤ length l.segments;
  ends : (size : ℕ) → All (λ segment. Fits (g.S.Placed.span size segment)) l.segments → All (EndsIn size) l.intervals.items;
  each : All (λ segment. (size : ℕ) → 0 < (g.S.Placed.span size segment).count → Any (IsOf (g.S.Placed.span size segment)) l.intervals.items) (take l.at l.segments);
}

abbrev pub decreases-loop-at : goal.decreases-loop-at
decreases-loop-at g l = length l.segments - l.at
