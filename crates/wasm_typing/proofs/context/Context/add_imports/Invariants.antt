use Rattle.std.proofs.Common.{length, ◌-◌, ◌≤◌, take}
use Rattle.std.specs.List.{filter_map}
use Rattle.wasm_typing.specs.inner.Adds.{Adds}
use Rattle.wasm_typing.specs.Context.{imported_func, imported_table, imported_memory, imported_global}
use Rattle.wasm_typing.specs.Views.{context_view}
use Rattle.wasm_typing.proofs.context.Context.add_imports.Given as goal

abbrev pub invariant-loop-at : goal.invariant-loop-at
invariant-loop-at l = record {
  within : l.at ≤ length l.imports;
  added : Adds (context_view l.fn.self) (context_view l.self) (filter_map (λ entry. imported_func entry.desc) (take l.at l.imports)) (filter_map (λ entry. imported_table entry.desc) (take l.at l.imports)) (filter_map (λ entry. imported_memory entry.desc) (take l.at l.imports)) (filter_map (λ entry. imported_global entry.desc) (take l.at l.imports));
}

abbrev pub decreases-loop-at : goal.decreases-loop-at
decreases-loop-at l = length l.imports - l.at
