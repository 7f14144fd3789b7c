use Rattle.std.proofs.Common.{◌≡◌, List, ℕ, length, map, ◌++◌}
use Rattle.byte_fields.specs.Front.{Begins}
use Rattle.wasm_values.specs.Spelling.{SpellsEach}
use Rattle.wasm_values.proofs.Lists.{Later}
use Rattle.wasm_values.proofs.read.entries.Given as goal

abbrev pub invariant-each : goal.invariant-each
invariant-each g l = record {
  count : length l.list.items ≡ l.counter;
  text : List ℕ;
  spelled : SpellsEach g.F.Form.spells text (map g.F.Form.seen l.list.items);
  whole : l.initial.cursor.0 ≡ text ++ l.cursor.0;
  later : (values : List g.F.Form.Seen) (rest : List ℕ)
      → Begins (SpellsEach g.F.Form.spells) l.initial.cursor.0 values rest
      → length values ≡ l.count
      → Later g.F.Form.Seen g.F.Form.spells values (map g.F.Form.seen l.list.items) l.cursor.0 rest;
}
