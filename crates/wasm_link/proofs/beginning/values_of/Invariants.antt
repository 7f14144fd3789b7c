use Rattle.std.proofs.Common.{◌≡◌, ◌-◌, ◌≤◌, length, map, take, All}
use Rattle.wasm_module.specs.Entries.{global_view}
use Rattle.wasm_values.specs.View.{instrs_view}
use Rattle.wasm_soundness.specs.Typed.{IsValue}
use Rattle.wasm_link.specs.Linking.{constant}
use Rattle.wasm_link.proofs.beginning.values_of.Given as goal

abbrev pub invariant-loop-at : goal.invariant-loop-at
invariant-loop-at l = record {
  within : l.at ≤ length l.globals;
  begun : l.values.items ≡ map (λ global. constant global.1) (map global_view (take l.at l.globals));
  typed : All (λ global. IsValue global.kind.value (constant (instrs_view global.init))) (take l.at l.globals);
}

abbrev pub decreases-loop-at : goal.decreases-loop-at
decreases-loop-at l = length l.globals - l.at
