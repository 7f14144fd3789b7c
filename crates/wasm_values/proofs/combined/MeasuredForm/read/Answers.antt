use Rattle.std.proofs.Common.{◌≡◌, ℕ, List, length, ap, sym, ◌∙◌, subst}
use Rattle.std.proofs.lemmas.Result.{err_from_is_err_and}
use Rattle.byte_fields.specs.Front.{Begins, BeginsNone, BeginsOnly}
use Rattle.wasm_values.proofs.Sizes.{sized_found, sized_short, sized_none, sized_only, sized_left, none_left}
use Rattle.wasm_values.proofs.combined.MeasuredForm.read.Goals as goal

pub returns-in_err-content-clause-malformed : goal.returns-in_err-content-clause-malformed
returns-in_err-content-clause-malformed g c = let p = err_from_is_err_and c.from_residual.result c.from_residual.ensures.1 in rw (p.1, p.2) (λ is. sized_short g.F.Form.spells c.args.cursor.now.0 (c.in_err-content.ensures.malformed is))

pub returns-in_err-value-clause-malformed : goal.returns-in_err-value-clause-malformed
returns-in_err-value-clause-malformed g c = let start : c.over-inside.result.0 ≡ c.in_ok-content.content.now = ap (λ (z : List ℕ × ℕ). z.0) c.over-inside.ensures in let P : List ℕ → Type 0 = λ z. BeginsNone g.F.Form.spells z in let p = err_from_is_err_and c.from_residual-in_err-value.result c.from_residual-in_err-value.ensures.1 in rw (p.1, p.2) (λ is. sized_none g.F.Form.spells c.args.cursor.now.0 c.in_ok-content.content.now c.counted.new.cursor.0 c.in_ok-content.ensures.only (subst P start (c.in_err-value.ensures.malformed is)))

pub returns-then-left-eq0-clause-only : goal.returns-then-left-eq0-clause-only
returns-then-left-eq0-clause-only g c = let start : c.over-inside.result.0 ≡ c.in_ok-content.content.now = ap (λ (z : List ℕ × ℕ). z.0) c.over-inside.ensures in let P : List ℕ → Type 0 = λ z. BeginsOnly g.F.Form.spells z (g.F.Form.seen c.in_ok-value.value) c.read.new.cursor.0 in sized_only g.F.Form.spells c.args.cursor.now.0 c.in_ok-content.content.now c.counted.new.cursor.0 c.read.new.cursor.0 (g.F.Form.seen c.in_ok-value.value) c.in_ok-content.ensures.only (subst P start c.in_ok-value.ensures.only)

pub returns-else-left-eq0-clause-malformed : goal.returns-else-left-eq0-clause-malformed
returns-else-left-eq0-clause-malformed g c = let start : c.over-inside.result.0 ≡ c.in_ok-content.content.now = ap (λ (z : List ℕ × ℕ). z.0) c.over-inside.ensures in let P : List ℕ → Type 0 = λ z. BeginsOnly g.F.Form.spells z (g.F.Form.seen c.in_ok-value.value) c.read.new.cursor.0 in λ _. sized_left g.F.Form.spells c.args.cursor.now.0 c.in_ok-content.content.now c.counted.new.cursor.0 c.read.new.cursor.0 (g.F.Form.seen c.in_ok-value.value) c.in_ok-content.ensures.only (subst P start c.in_ok-value.ensures.only) (λ none. c.if-left-eq0.false (c.left.ensures ∙ ap length none))

pub returns-then-left-eq0-clause-found : goal.returns-then-left-eq0-clause-found
returns-then-left-eq0-clause-found g c = let start : c.over-inside.result.0 ≡ c.in_ok-content.content.now = ap (λ (z : List ℕ × ℕ). z.0) c.over-inside.ensures in let P : List ℕ → Type 0 = λ z. Begins g.F.Form.spells z (g.F.Form.seen c.in_ok-value.value) c.read.new.cursor.0 in sized_found g.F.Form.spells c.args.cursor.now.0 c.in_ok-content.content.now c.counted.new.cursor.0 c.read.new.cursor.0 (g.F.Form.seen c.in_ok-value.value) c.in_ok-content.ensures.found (subst P start c.in_ok-value.ensures.found) (none_left c.read.new.cursor.0 (sym c.left.ensures ∙ c.if-left-eq0.true))
