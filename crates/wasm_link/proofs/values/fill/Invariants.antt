use Rattle.std.proofs.Common.{◌≡◌, ◌+◌, ◌-◌, ◌≤◌, ◌++◌, length, map, take, drop, Some}
use Rattle.wasm_link.proofs.values.fill.Given as goal

abbrev pub invariant-loop-step : goal.invariant-loop-step
invariant-loop-step l = record {
  within : l.step ≤ length l.funcs;
  filled : l.values ≡ take l.at l.fn.values ++ (map Some (take l.step l.funcs) ++ drop (l.at + l.step) l.fn.values);
}

abbrev pub decreases-loop-step : goal.decreases-loop-step
decreases-loop-step l = length l.funcs - l.step
