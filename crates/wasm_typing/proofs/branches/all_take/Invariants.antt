use Rattle.std.proofs.Common.{length, ◌-◌, ◌≤◌, take, All}
use Rattle.wasm_typing.specs.Typing.{Takes}
use Rattle.wasm_typing.proofs.branches.all_take.Given as goal

abbrev pub invariant-loop-at : goal.invariant-loop-at
invariant-loop-at l = record { within : l.at ≤ length l.several; same : All (Takes l.labels l.kind) (take l.at l.several) }

abbrev pub decreases-loop-at : goal.decreases-loop-at
decreases-loop-at l = length l.several - l.at
