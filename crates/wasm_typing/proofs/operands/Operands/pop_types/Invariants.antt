use Rattle.std.proofs.Common.{length, ◌≤◌, drop, reverse}
use Rattle.wasm_typing.specs.inner.Stands.{Popped}
use Rattle.wasm_typing.proofs.operands.Operands.pop_types.Given as goal

abbrev pub invariant-loop-left : goal.invariant-loop-left
invariant-loop-left l = record { within : l.left ≤ length l.types; popped : Popped (reverse (drop l.left l.types)) l.fn.self l.self }

abbrev pub decreases-loop-left : goal.decreases-loop-left
decreases-loop-left l = l.left
