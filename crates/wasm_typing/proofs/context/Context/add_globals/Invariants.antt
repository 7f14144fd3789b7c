use Rattle.std.proofs.Common.{length, ◌-◌, ◌≤◌, take, map, []}
use Rattle.wasm_typing.specs.inner.Adds.{Adds}
use Rattle.wasm_typing.specs.Views.{context_view}
use Rattle.wasm_typing.proofs.context.Context.add_globals.Given as goal

abbrev pub invariant-loop-at : goal.invariant-loop-at
invariant-loop-at l = record {
  within : l.at ≤ length l.globals;
  added : Adds (context_view l.fn.self) (context_view l.self) [] [] [] (map (λ global. global.kind) (take l.at l.globals));
}

abbrev pub decreases-loop-at : goal.decreases-loop-at
decreases-loop-at l = length l.globals - l.at
