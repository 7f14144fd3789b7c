use Rattle.std.proofs.Common.{◌-◌, ◌≤◌, length, take}
use Rattle.wasm_values.specs.View.{items_view}
use Rattle.wasm_validate.specs.Floats.{OpsHaveNoFloat}
use Rattle.wasm_validate.proofs.floats.+floats.Given as goal

abbrev pub decreases-is_plain : goal.decreases-is_plain
decreases-is_plain l = goal.size-is_plain l

abbrev pub decreases-list_is_plain : goal.decreases-list_is_plain
decreases-list_is_plain l = goal.size-list_is_plain l

abbrev pub invariant-list_is_plain-loop-at : goal.invariant-list_is_plain-loop-at
invariant-list_is_plain-loop-at l = record {
  within : l.at ≤ length l.items;
  plain : OpsHaveNoFloat (items_view (take l.at l.items));
}

abbrev pub decreases-list_is_plain-loop-at : goal.decreases-list_is_plain-loop-at
decreases-list_is_plain-loop-at l = length l.items - l.at
