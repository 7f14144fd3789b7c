use Rattle.std.proofs.Common.{◌-◌, ◌≤◌}
use Rattle.wasm_validate.specs.inner.Groups.{AreFunctions}
use Rattle.wasm_typing.specs.Views.{context_view}
use Rattle.wasm_validate.proofs.codes.are_functions_in.Given as goal

abbrev pub invariant-loop-at : goal.invariant-loop-at
invariant-loop-at l = record {
  within : l.at ≤ l.count;
  held : AreFunctions (context_view l.context) l.kinds l.codes l.at;
}

abbrev pub decreases-loop-at : goal.decreases-loop-at
decreases-loop-at l = l.count - l.at
