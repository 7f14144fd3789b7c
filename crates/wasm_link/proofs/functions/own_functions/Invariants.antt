use Rattle.std.proofs.Common.{◌≡◌, ◌-◌, ◌≤◌, length, map, take}
use Rattle.wasm_module.specs.Sections.{module_view}
use Rattle.wasm_link.specs.Made.{kind_of, EachAt, IsOwnAt}
use Rattle.wasm_link.proofs.functions.own_functions.Given as goal

abbrev pub invariant-loop-at : goal.invariant-loop-at
invariant-loop-at l = record {
  within : l.at ≤ length l.kinds;
  count : length l.functions.items ≡ l.at;
  own : EachAt (IsOwnAt (module_view l.whole)) l.functions.items;
  kinds : map kind_of l.functions.items ≡ take l.at l.kinds;
}

abbrev pub decreases-loop-at : goal.decreases-loop-at
decreases-loop-at l = length l.kinds - l.at
