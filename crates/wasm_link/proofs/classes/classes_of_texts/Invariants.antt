use Rattle.std.proofs.Common.{◌≡◌, ◌-◌, ◌≤◌, length, map}
use Rattle.wasm_link.proofs.Known.{Known}
use Rattle.wasm_link.proofs.classes.classes_of_texts.Given as goal

abbrev pub invariant-loop-at : goal.invariant-loop-at
invariant-loop-at l = record {
  within : l.at ≤ length l.texts;
  count : length l.classes.items ≡ l.at;
  known : Known (map (λ text. text.items) l.texts) l.classes.items l.at l.known;
}

abbrev pub decreases-loop-at : goal.decreases-loop-at
decreases-loop-at l = length l.texts - l.at
