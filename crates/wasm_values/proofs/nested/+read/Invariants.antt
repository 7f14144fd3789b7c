use Rattle.std.proofs.Common.{◌≡◌, ℕ, ◌+◌, ◌*◌, ◌≤◌, ◌++◌, List, length, map}
use Rattle.wasm_values.specs.Syntax.{Ops, ops_nesting}
use Rattle.wasm_values.specs.View.{instr_view, items_view}
use Rattle.wasm_values.specs.Instructions.{SpellsOps}
use Rattle.byte_fields.specs.Front.{Begins}
use Rattle.wasm_values.specs.inner.Nested.{SpellsBody}
use Rattle.wasm_values.proofs.Bodies.{LaterOps}
use Rattle.wasm_values.proofs.nested.+read.Given as goal

abbrev pub decreases-body : goal.decreases-body
decreases-body l = 4 * l.depth + 3

abbrev pub decreases-inner : goal.decreases-inner
decreases-inner l = 4 * l.depth

abbrev pub decreases-branches : goal.decreases-branches
decreases-branches l = 4 * l.depth + 1

abbrev pub decreases-instr : goal.decreases-instr
decreases-instr l = 4 * l.depth + 2

abbrev pub invariant-body-loop-list : goal.invariant-body-loop-list
invariant-body-loop-list l = record {
  text : List ℕ;
  spelled : SpellsOps text (items_view l.list.items);
  whole : l.fn.cursor.0 ≡ text ++ l.cursor.0;
  depth : ops_nesting (items_view l.list.items) ≤ l.depth;
  later : (value : Ops × ℕ) (rest : List ℕ)
      → Begins (SpellsBody l.depth) l.fn.cursor.0 value rest
      → LaterOps l.depth value (map instr_view l.list.items) l.cursor.0 rest;
}

abbrev pub decreases-body-loop-list : goal.decreases-body-loop-list
decreases-body-loop-list l = length l.cursor.0
