use Rattle.std.proofs.Common.{◌≡◌, ◌∷◌, ◌-◌, ◌≤◌, length, map, take}
use Rattle.wasm_link.specs.Made.{result_code, code_of}
use Rattle.wasm_link.proofs.classes.text.Given as goal

abbrev pub invariant-loop-at : goal.invariant-loop-at
invariant-loop-at l = record {
  within : l.at ≤ length l.params;
  written : l.text.items ≡ result_code l.kind.result ∷ map code_of (take l.at l.params);
}

abbrev pub decreases-loop-at : goal.decreases-loop-at
decreases-loop-at l = length l.params - l.at
