use Rattle.std.proofs.Common.{arith, List, subst, sym, ap, ◌∙◌}
use Rattle.std.proofs.lemmas.List.{take_all}
use Rattle.wasm_values.specs.Syntax.{Ops}
use Rattle.wasm_values.specs.View.{items_view}
use Rattle.wasm_values.specs.declared.instr.Instr.{Instr}
use Rattle.wasm_values.proofs.Views.{view_instrs}
use Rattle.wasm_validate.specs.Floats.{OpsHaveNoFloat}
use Rattle.wasm_validate.proofs.Plain.{plain_more, plain_at}
use Rattle.wasm_validate.proofs.floats.+floats.Goals as goal

pub list_is_plain-returns-then-not-is_plain : goal.list_is_plain-returns-then-not-is_plain
list_is_plain-returns-then-not-is_plain t c = λ h.
    c.if-not-is_plain.ensures (plain_at c.as_slice-items.result.now c.loop-at.at c.index-items-at.result c.index-items-at.is (omega (arith, c.loop-at-test.true)) (subst (λ (z : Ops). OpsHaveNoFloat z) (view_instrs c.args.instrs.now ∙ ap items_view (sym c.as_slice-items.ensures)) h))

pub list_is_plain-loop-at-preserved : goal.list_is_plain-loop-at-preserved
list_is_plain-loop-at-preserved t c = record {
  within = omega (arith, c.loop-at-test.true);
  plain = plain_more c.as_slice-items.result.now c.loop-at.at c.index-items-at.result c.index-items-at.is (omega (arith, c.loop-at-test.true)) c.loop-at.invariant.plain c.if-not-is_plain.ensures;
}

pub list_is_plain-returns : goal.list_is_plain-returns
list_is_plain-returns t c = subst (λ (z : Ops). OpsHaveNoFloat z) (sym (view_instrs c.args.instrs.now ∙ ap items_view (sym c.as_slice-items.ensures)))
    (subst (λ (z : List Instr). OpsHaveNoFloat (items_view z)) (take_all c.loop-at.at c.as_slice-items.result.now (omega (arith, c.loop-at-test.false))) c.loop-at.invariant.plain)
