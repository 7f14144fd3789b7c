use Rattle.std.proofs.Common.{◌≡◌, ◌-◌, ◌≤◌, length, map, take}
use Rattle.wasm_link.specs.Made.{text_of}
use Rattle.wasm_link.proofs.classes.texts.Given as goal

abbrev pub invariant-loop-at : goal.invariant-loop-at
invariant-loop-at l = record {
  within : l.at ≤ length l.types;
  written : map (λ text. text.items) l.list.items ≡ map text_of (take l.at l.types);
}

abbrev pub decreases-loop-at : goal.decreases-loop-at
decreases-loop-at l = length l.types - l.at
