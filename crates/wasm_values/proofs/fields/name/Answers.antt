use Rattle.std.proofs.Common.{sym, ◌∙◌, subst, List, ℕ}
use Rattle.std.specs.Str.{IsUtf8}
use Rattle.std.proofs.lemmas.Result.{err_from_is_err_and}
use Rattle.wasm_values.proofs.fields.name.Goals as goal

pub returns-in_err-text-clause-malformed : goal.returns-in_err-text-clause-malformed
returns-in_err-text-clause-malformed c = let p = err_from_is_err_and c.from_residual.result c.from_residual.ensures.1 in rw (p.1, p.2) (λ is content rest b. c.in_err-text.ensures.malformed is content rest (b.0, b.1.0, b.2))

pub returns-clause-only : goal.returns-clause-only
returns-clause-only c = λ content rest b. let one = c.in_ok-text.ensures.only content rest (b.0, b.1.0, b.2) in (one.0 ∙ sym (c.in_ok-kept.ensures ∙ c.in_ok-list.ensures.items), one.1)

pub returns-in_default-clause-malformed : goal.returns-in_default-clause-malformed
returns-in_default-clause-malformed c = λ _ content rest b. let one = c.in_ok-text.ensures.only content rest (b.0, b.1.0, b.2) in let P : List ℕ → Type 0 = λ z. IsUtf8 z in absurd (c.in_default.ensures.cases.0 (subst P one.0 b.1.1))
