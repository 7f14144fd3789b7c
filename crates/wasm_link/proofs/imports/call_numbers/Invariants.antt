use Rattle.std.proofs.Common.{◌≡◌, ◌-◌, ◌≤◌, length}
use Rattle.wasm_link.specs.Made.{EachAt, IsNamedAt}
use Rattle.wasm_link.proofs.imports.call_numbers.Given as goal

abbrev pub invariant-loop-at : goal.invariant-loop-at
invariant-loop-at l = record {
  within : l.at ≤ length l.imports;
  count : length l.calls.items ≡ l.at;
  named : EachAt (IsNamedAt l.sigs l.imports) l.calls.items;
}

abbrev pub decreases-loop-at : goal.decreases-loop-at
decreases-loop-at l = length l.imports - l.at
