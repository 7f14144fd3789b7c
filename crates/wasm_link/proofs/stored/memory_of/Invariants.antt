use Rattle.std.proofs.Common.{◌≡◌, ◌-◌, ◌≤◌, length, take}
use Rattle.wasm_store.specs.Memory.{Memory}
use Rattle.wasm_link.specs.Linking.{first_memory}
use Rattle.wasm_link.specs.inner.Images.{Stands, IsLaid}
use Rattle.wasm_link.proofs.stored.memory_of.Given as goal

abbrev pub invariant-loop-at : goal.invariant-loop-at
invariant-loop-at l = record {
  within : l.at ≤ length l.stretches;
  size : length l.pages.bytes ≡ length (first_memory l.fn.memories).bytes;
  limit : l.pages.limit ≡ (first_memory l.fn.memories).limit;
  laid : (memory : Memory) → length memory.bytes ≡ length (first_memory l.fn.memories).bytes → Stands 0 l.stretches l.values memory.bytes → IsLaid 0 (take l.at l.stretches) memory.bytes l.pages.bytes;
}

abbrev pub decreases-loop-at : goal.decreases-loop-at
decreases-loop-at l = length l.stretches - l.at
