use Rattle.std.proofs.Common.{ℕ, ◌≡◌, ◌<◌, ◌-◌, ◌≤◌, length, Some, slice_get}
use Rattle.wasm_values.specs.declared.host_sig.HostSig.{HostSig}
use Rattle.wasm_link.specs.Made.{HasNames}
use Rattle.wasm_link.proofs.imports.call_of.Given as goal

abbrev pub invariant-loop-at : goal.invariant-loop-at
invariant-loop-at l = record {
  within : l.at ≤ length l.sigs;
  before : (earlier : ℕ) (other : HostSig) → earlier < l.at → slice_get l.sigs earlier ≡ Some other → HasNames other l.entry → ⊥;
}

abbrev pub decreases-loop-at : goal.decreases-loop-at
decreases-loop-at l = length l.sigs - l.at
