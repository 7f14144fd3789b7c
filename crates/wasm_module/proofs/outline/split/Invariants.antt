use Rattle.std.proofs.Common.{◌≡◌, ℕ, [], ◌++◌, List, length, map}
use Rattle.wasm_values.specs.Spelling.{SpellsEach}
use Rattle.wasm_module.specs.Sections.{Section, SpellsSection}
use Rattle.wasm_module.specs.inner.Parts.{section_view}
use Rattle.wasm_values.proofs.Lists.{Later}
use Rattle.wasm_module.proofs.outline.split.Given as goal

abbrev pub invariant-each : goal.invariant-each
invariant-each l = record {
  text : List ℕ;
  spelled : SpellsEach SpellsSection text (map section_view l.list.items);
  whole : l.fn.bytes ≡ text ++ l.cursor.0;
  later : (values : List Section)
      → SpellsEach SpellsSection l.fn.bytes values
      → Later Section SpellsSection values (map section_view l.list.items) l.cursor.0 [];
}

abbrev pub decreases-each : goal.decreases-each
decreases-each l = length l.cursor.0
