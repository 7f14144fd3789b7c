use Rattle.std.proofs.Common.{◌≡◌, ◌<◌, ◌≤◌, length, get_or, ap, ◌∙◌, refl, false, true, arith}
use Rattle.wasm_module.proofs.Locals.{more, not_here, every}
use Rattle.wasm_module.proofs.limits.locals_within.Goals as goal

no : false ≡ true → ⊥
no e = cc

pub returns-then-not-function_within : goal.returns-then-not-function_within
returns-then-not-function_within c =
    let items : c.as_slice-code-items.result.now ≡ c.args.whole.now.codes = c.as_slice-code-items.ensures in
    let within : c.each.at < length c.args.whole.now.codes = omega (arith, c.each-test.true, ap length items) in
    let is : c.code-item.result ≡ get_or c.args.whole.now.codes c.each.at c.code-item.result = c.code-item.is ∙ ap (λ z. get_or z c.each.at c.code-item.result) items in
    (λ never. absurd (no never), λ all. absurd (no (c.if-not-function_within.ensures.1 (not_here c.args.whole.now.types c.args.whole.now.funcs c.args.whole.now.codes c.each.at c.code-item.result within is all))))

pub each-preserved : goal.each-preserved
each-preserved c =
    let items : c.as_slice-code-items.result.now ≡ c.args.whole.now.codes = c.as_slice-code-items.ensures in
    let within : c.each.at < length c.args.whole.now.codes = omega (arith, c.each-test.true, ap length items) in
    let is : c.code-item.result ≡ get_or c.args.whole.now.codes c.each.at c.code-item.result = c.code-item.is ∙ ap (λ z. get_or z c.each.at c.code-item.result) items in
    more c.args.whole.now.types c.args.whole.now.funcs c.args.whole.now.codes c.each.at c.code-item.result within is c.each.invariant (c.function_within.ensures.0 c.if-not-function_within.false)

pub returns : goal.returns
returns c =
    let items : c.as_slice-code-items.result.now ≡ c.args.whole.now.codes = c.as_slice-code-items.ensures in
    let end : length c.args.whole.now.codes ≤ c.each.at = omega (arith, c.each-test.false, ap length items) in
    (λ _. every c.args.whole.now.types c.args.whole.now.funcs c.args.whole.now.codes c.each.at end c.each.invariant, λ _. refl)
