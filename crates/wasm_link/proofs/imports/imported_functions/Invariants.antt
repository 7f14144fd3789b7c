use Rattle.std.proofs.Common.{◌≡◌, ◌-◌, ◌≤◌, length, map, take}
use Rattle.std.specs.List.{filter_map}
use Rattle.wasm_typing.specs.Context.{imported_func}
use Rattle.wasm_link.specs.Made.{kind_of, EachAt, IsImportedAt}
use Rattle.wasm_link.proofs.imports.imported_functions.Given as goal

abbrev pub invariant-loop-at : goal.invariant-loop-at
invariant-loop-at l = record {
  within : l.at ≤ length l.imports;
  count : length l.functions.items ≡ l.at;
  imported : EachAt (IsImportedAt l.sigs l.types l.imports) l.functions.items;
  kinds : map kind_of l.functions.items ≡ filter_map (λ entry. imported_func entry.desc) (take l.at l.imports);
}

abbrev pub decreases-loop-at : goal.decreases-loop-at
decreases-loop-at l = length l.imports - l.at
