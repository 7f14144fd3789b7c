use Rattle.std.proofs.Common.{◌≡◌, ◌-◌, ◌≤◌, length, take, vec_capacity}
use Rattle.wasm_machine.specs.inner.Calls.{arguments_of}
use Rattle.wasm_machine.proofs.host_calls.write_arguments.Given as goal

abbrev pub invariant-loop-at : goal.invariant-loop-at
invariant-loop-at l = record {
  within : l.at ≤ length l.kinds;
  written : l.arguments.items ≡ arguments_of (take l.at l.kinds) (take l.at l.operands);
  count : length l.arguments.items ≡ l.at;
  capacity : vec_capacity l.arguments ≡ vec_capacity l.fn.arguments;
}

abbrev pub decreases-loop-at : goal.decreases-loop-at
decreases-loop-at l = length l.kinds - l.at
