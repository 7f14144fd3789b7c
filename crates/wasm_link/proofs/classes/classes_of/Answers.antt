use Rattle.std.proofs.Common.{◌∙◌, ℕ, ap, map, List, Vec, Global}
use Rattle.std.proofs.lemmas.Result.{IfOk-weaker}
use Rattle.wasm_link.specs.Made.{AreClasses}
use Rattle.wasm_link.proofs.Known.{classes_under}
use Rattle.wasm_link.proofs.classes.classes_of.Goals as goal

pub returns : goal.returns
returns c =
    let items : Vec ℕ Global → List ℕ = λ text. text.items in
    IfOk-weaker c.classes_of_texts.result (λ classes. AreClasses (map items c.as_slice.result.now) classes.items) (λ classes. AreClasses c.args.types.now classes.items)
    (λ classes h. classes_under c.args.types.now (map items c.as_slice.result.now) classes.items (ap (map items) c.as_slice.ensures.value ∙ c.in_ok-list.ensures) h) c.classes_of_texts.ensures
