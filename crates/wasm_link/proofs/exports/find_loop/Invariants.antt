use Rattle.std.proofs.Common.{ℕ, ◌≡◌, ◌<◌, ◌-◌, ◌≤◌, length, map, Some, slice_get}
use Rattle.wasm_values.specs.declared.exports.Export.{Export}
use Rattle.wasm_link.specs.Made.{kind_of, IsLoop}
use Rattle.wasm_link.proofs.exports.find_loop.Given as goal

abbrev pub invariant-loop-at : goal.invariant-loop-at
invariant-loop-at l = record {
  within : l.at ≤ length l.exports;
  before : (place : ℕ) (entry : Export) → place < l.at → slice_get l.exports place ≡ Some entry → (func : ℕ) → IsLoop l.types (map kind_of l.functions) entry func → ⊥;
}

abbrev pub decreases-loop-at : goal.decreases-loop-at
decreases-loop-at l = length l.exports - l.at
