use Rattle.std.proofs.Common.{◌∙◌, sym, ap, subst, []}
use Rattle.wasm_values.specs.Syntax.{Ops}
use Rattle.wasm_values.specs.View.{items_view}
use Rattle.wasm_values.proofs.Views.{view_instrs}
use Rattle.wasm_typing.specs.Typing.{IsConstant}
use Rattle.wasm_validate.proofs.OneConstant.{one_item, is_single}
use Rattle.wasm_link.specs.Linking.{constant}
use Rattle.wasm_link.proofs.Begun.{no_constant}
use Rattle.wasm_link.proofs.constants.value_of.Goals as goal

pub returns-then-items-eq1 : goal.returns-then-items-eq1
returns-then-items-eq1 c =
    let is = view_instrs c.args.init.now ∙ ap items_view (sym c.as_slice-items.ensures) ∙ one_item c.as_slice-items.result.now c.index-items-0.result c.if-items-eq1.true c.index-items-0.is in
    record {
      value = c.value_of_one.ensures.value ∙ ap constant (sym is);
      typed = λ kind k. c.value_of_one.ensures.typed kind (subst (λ (z : Ops). IsConstant [] z kind) is k);
    }

pub returns-else-items-eq1 : goal.returns-else-items-eq1
returns-else-items-eq1 c =
    let is = view_instrs c.args.init.now ∙ ap items_view (sym c.as_slice-items.ensures) in
    record {
      value = sym (ap constant is ∙ no_constant c.as_slice-items.result.now c.if-items-eq1.false);
      typed = λ kind k. absurd (c.if-items-eq1.false (is_single [] c.as_slice-items.result.now kind (subst (λ (z : Ops). IsConstant [] z kind) is k)));
    }
