use Rattle.std.proofs.Common.{◌-◌, ◌≤◌, length, take, All}
use Rattle.wasm_link.specs.Linking.{Fits}
use Rattle.wasm_link.proofs.segments.first_past.Given as goal

abbrev pub invariant-loop-at : goal.invariant-loop-at
invariant-loop-at g l = record { within : l.at ≤ length l.segments; held : All (λ segment. Fits (g.S.Placed.span l.size segment)) (take l.at l.segments) }

abbrev pub decreases-loop-at : goal.decreases-loop-at
decreases-loop-at g l = length l.segments - l.at
