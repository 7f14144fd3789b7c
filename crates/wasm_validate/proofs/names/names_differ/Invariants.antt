use Rattle.std.proofs.Common.{length, ◌-◌, ◌≤◌}
use Rattle.wasm_validate.proofs.Named.{Named}
use Rattle.wasm_validate.proofs.names.names_differ.Given as goal

abbrev pub invariant-loop-at : goal.invariant-loop-at
invariant-loop-at l = record {
  within : l.at ≤ length l.exports;
  named : Named l.exports l.at l.names;
}

abbrev pub decreases-loop-at : goal.decreases-loop-at
decreases-loop-at l = length l.exports - l.at
