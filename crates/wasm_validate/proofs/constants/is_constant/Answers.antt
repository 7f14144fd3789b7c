use Rattle.std.proofs.Common.{sym, ap, ◌∙◌, subst, arith}
use Rattle.wasm_values.specs.View.{items_view}
use Rattle.wasm_values.specs.Syntax.{Ops}
use Rattle.wasm_values.proofs.Views.{view_instrs}
use Rattle.wasm_typing.specs.Typing.{IsConstant}
use Rattle.wasm_typing.specs.inner.Stands.{Exactly}
use Rattle.wasm_validate.proofs.OneConstant.{one_item, is_single}
use Rattle.wasm_validate.proofs.constants.is_constant.Goals as goal

pub returns-then-items-eq1 : goal.returns-then-items-eq1
returns-then-items-eq1 c = subst (λ (z : Ops). Exactly (IsConstant c.args.imported.now z c.args.value) c.is_one.result)
    (sym (view_instrs c.args.init.now ∙ ap items_view (sym c.as_slice-items.ensures) ∙ one_item c.as_slice-items.result.now c.index-items-0.result (omega (arith, c.if-items-eq1.true)) c.index-items-0.is)) c.is_one.ensures

pub returns-else-items-eq1 : goal.returns-else-items-eq1
returns-else-items-eq1 c = λ k.
    let one = is_single c.args.imported.now c.as_slice-items.result.now c.args.value (subst (λ (z : Ops). IsConstant c.args.imported.now z c.args.value) (view_instrs c.args.init.now ∙ ap items_view (sym c.as_slice-items.ensures)) k) in
    absurd (omega (arith, one, c.if-items-eq1.false))
