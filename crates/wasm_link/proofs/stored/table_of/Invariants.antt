use Rattle.std.proofs.Common.{◌≡◌, ℕ, ◌-◌, ◌≤◌, List, Option, None, length, take}
use Rattle.wasm_link.specs.Linking.{table_size}
use Rattle.wasm_link.specs.inner.Images.{Stands, IsLaid}
use Rattle.wasm_link.proofs.stored.table_of.Given as goal

abbrev pub invariant-loop-at : goal.invariant-loop-at
invariant-loop-at l = record {
  within : l.at ≤ length l.stretches;
  size : length l.table ≡ table_size l.fn.tables;
  laid : (content : List (Option ℕ)) → length content ≡ table_size l.fn.tables → Stands None l.stretches l.values content → IsLaid None (take l.at l.stretches) content l.table;
}

abbrev pub decreases-loop-at : goal.decreases-loop-at
decreases-loop-at l = length l.stretches - l.at
