use Rattle.std.proofs.Common.{◌≡◌, ℕ, ◌+◌, ◌<◌, List, length, refl, ap, sym, ◌∙◌, subst, arith, Option, Some, slice_get}
use Rattle.std.proofs.lemmas.Option.{slice_get_within, slice_get_read, slice_get-get_or}
use native.Mathlib.Decide.{dec_le}
use Rattle.wasm_module.specs.Entries.{code_view}
use Rattle.wasm_module.specs.declared.codes.Code.{Code}
use Rattle.wasm_typing.specs.Context.{Context}
use Rattle.wasm_typing.specs.Functions.{IsFunction}
use Rattle.wasm_validate.specs.inner.Groups.{AreFunctions}
use Rattle.wasm_typing.specs.Views.{context_view}
use Rattle.wasm_validate.proofs.codes.are_functions_in.Goals as goal

inside : {X : Type 0} {x y : X} → ◌≡◌ {A = Option X} (Some x) (Some y) → x ≡ y
inside e = cc

-- one more code
one_more : (cx : Context) (kinds : List ℕ) (codes : List Code) (at k : ℕ) (d : Code) → slice_get kinds at ≡ Some k → slice_get codes at ≡ Some d
    → AreFunctions cx kinds codes at → IsFunction cx k (code_view d) → AreFunctions cx kinds codes (at + 1)
one_more cx kinds codes at k d has_kind has_code held fits = λ i kind code below e f. elim (dec_le at i) [
  | yes h ↦
      let same : at ≡ i = omega arith in
      let same_kind : k ≡ kind = inside (sym has_kind ∙ ap (λ z. slice_get kinds z) same ∙ e) in
      let same_code : d ≡ code = inside (sym has_code ∙ ap (λ z. slice_get codes z) same ∙ f) in
      subst (λ (z : Code). IsFunction cx kind (code_view z)) same_code (subst (λ (z : ℕ). IsFunction cx z (code_view d)) same_kind fits)
  | no h ↦ held i kind code (omega arith) e f
]

pub loop-at-preserved : goal.loop-at-preserved
loop-at-preserved c =
    let kinds = c.args.kinds.now in
    let codes = c.args.codes.now in
    let at = c.loop-at.at in
    let in_kinds : at < length kinds = omega (arith, c.loop-at-test.true) in
    let in_codes : at < length codes = omega (arith, c.loop-at-test.true) in
    let has_kind = slice_get-get_or kinds at 0 in_kinds in
    let has_code = slice_get_read codes (length codes) at c.index-codes-at.result refl in_codes c.index-codes-at.is in
    record {
      within = omega (arith, c.loop-at-test.true);
      held = one_more (context_view c.args.context.now) kinds codes at _ c.index-codes-at.result has_kind has_code c.loop-at.invariant.held (rw c.if-not-branch.false at c.in_ok-is_function.ensures);
    }

pub returns-then-not-branch : goal.returns-then-not-branch
returns-then-not-branch c = λ all.
    let kinds = c.args.kinds.now in
    let codes = c.args.codes.now in
    let at = c.loop-at.at in
    let in_kinds : at < length kinds = omega (arith, c.loop-at-test.true) in
    let in_codes : at < length codes = omega (arith, c.loop-at-test.true) in
    let has_kind = slice_get-get_or kinds at 0 in_kinds in
    let has_code = slice_get_read codes (length codes) at c.index-codes-at.result refl in_codes c.index-codes-at.is in
    (rw c.if-not-branch.true at c.in_ok-is_function.ensures) (all at _ c.index-codes-at.result in_kinds has_kind has_code)

pub returns : goal.returns
returns c = λ i kind code below e f.
    let in_codes = slice_get_within c.args.codes.now i code f in
    c.loop-at.invariant.held i kind code (omega (arith, in_codes, below, c.loop-at-test.false)) e f
