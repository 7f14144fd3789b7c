use Rattle.std.proofs.Common.{◌≡◌, ◌-◌, ◌≤◌, length, map, drop, All}
use Rattle.wasm_module.specs.Entries.{segment_view}
use Rattle.wasm_store.specs.Memory.{Memory}
use Rattle.wasm_link.specs.Linking.{Fits, with_segments}
use Rattle.wasm_link.specs.Made.{data_span}
use Rattle.wasm_link.specs.inner.Images.{Stands}
use Rattle.wasm_link.proofs.values.write_segments.Given as goal

abbrev pub invariant-loop-at : goal.invariant-loop-at
invariant-loop-at l = record {
  within : l.at ≤ length l.segments;
  size : length l.values ≡ length l.fn.values;
  begun : (memory : Memory) → All (λ segment. Fits (data_span (length memory.bytes) segment)) l.segments → Stands 0 l.stretches l.fn.values memory.bytes
      → (now : Memory) × (length now.bytes ≡ length memory.bytes) × Stands 0 l.stretches l.values now.bytes
      × (with_segments now (map segment_view (drop l.at l.segments)) ≡ with_segments memory (map segment_view l.segments));
}

abbrev pub decreases-loop-at : goal.decreases-loop-at
decreases-loop-at l = length l.segments - l.at
