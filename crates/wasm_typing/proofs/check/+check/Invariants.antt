use Rattle.std.proofs.Common.{◌≡◌, ◌+◌, ◌*◌, ◌-◌, length, drop}
use Rattle.wasm_values.specs.Syntax.{nesting, ops_nesting}
use Rattle.wasm_values.specs.View.{instr_view, instrs_view, items_view}
use Rattle.wasm_typing.specs.inner.Scopes.{scope_view}
use Rattle.wasm_typing.proofs.Lists.{Onward}
use Rattle.wasm_typing.proofs.check.+check.Given as goal

abbrev pub decreases-list : goal.decreases-list
decreases-list l = 3 * ops_nesting (instrs_view l.instrs.now) + 1

abbrev pub decreases-instr : goal.decreases-instr
decreases-instr l = 3 * nesting (instr_view l.instr.now)

abbrev pub decreases-nested : goal.decreases-nested
decreases-nested l = 3 * ops_nesting (instrs_view l.body.now) + 2

abbrev pub invariant-list-loop-at : goal.invariant-list-loop-at
invariant-list-loop-at l = record {
  labels : l.labels ≡ l.fn.labels;
  onward : Onward (scope_view l.scope) l.fn.labels (items_view l.items) (items_view (drop l.at l.items)) l.fn.operands l.operands;
}

abbrev pub decreases-list-loop-at : goal.decreases-list-loop-at
decreases-list-loop-at l = length l.items - l.at
