use Rattle.std.proofs.Common.{ℕ, ◌≡◌, ◌<◌, ◌-◌, ◌≤◌, length, Some, slice_get}
use Rattle.wasm_values.specs.declared.host_sig.HostSig.{HostSig}
use Rattle.wasm_link.proofs.Names.{IsMet}
use Rattle.wasm_link.proofs.imports.most_params.Given as goal

abbrev pub invariant-loop-at : goal.invariant-loop-at
invariant-loop-at l = record {
  within : l.at ≤ length l.calls;
  most : (place number : ℕ) (sig : HostSig) → place < l.at → slice_get l.calls place ≡ Some number → slice_get l.sigs number ≡ Some sig → length sig.params.now ≤ l.most;
  met : IsMet l.sigs l.calls l.most;
}

abbrev pub decreases-loop-at : goal.decreases-loop-at
decreases-loop-at l = length l.calls - l.at
