use Rattle.std.proofs.Common.{◌≡◌, ℕ, ◌-◌, ◌≤◌, List, Option, None, length, map, drop, All}
use Rattle.wasm_module.specs.Entries.{element_view}
use Rattle.wasm_link.specs.Linking.{Fits, first_table}
use Rattle.wasm_link.specs.Made.{element_span}
use Rattle.wasm_link.specs.inner.Images.{Stands}
use Rattle.wasm_link.proofs.values.write_elements.Given as goal

abbrev pub invariant-loop-at : goal.invariant-loop-at
invariant-loop-at l = record {
  within : l.at ≤ length l.elements;
  size : length l.values ≡ length l.fn.values;
  begun : (table : List (Option ℕ)) → All (λ segment. Fits (element_span (length table) segment)) l.elements → Stands None l.stretches l.fn.values table
      → (now : List (Option ℕ)) × (length now ≡ length table) × Stands None l.stretches l.values now
      × (first_table now (map element_view (drop l.at l.elements)) ≡ first_table table (map element_view l.elements));
}

abbrev pub decreases-loop-at : goal.decreases-loop-at
decreases-loop-at l = length l.elements - l.at
