use Rattle.std.proofs.Common.{◌≡◌, ℕ, List, length, ap, ◌∙◌}
use Rattle.std.proofs.lemmas.Result.{err_from_is_err_and}
use Rattle.wasm_values.specs.Spelling.{SpellsU32}
use Rattle.wasm_values.proofs.Wholes.{whole_none, whole_left}
use Rattle.wasm_module.proofs.held.whole_index.Goals as goal

pub returns-in_err-index-clause-malformed : goal.returns-in_err-index-clause-malformed
returns-in_err-index-clause-malformed c = let start : c.over-cursor.result.0 ≡ c.args.content.now = ap (λ (z : List ℕ × ℕ). z.0) c.over-cursor.ensures in let p = err_from_is_err_and c.from_residual.result c.from_residual.ensures.1 in rw p.1 (λ _ other (func, s, e). whole_none SpellsU32 c.over-cursor.result.0 c.args.content.now func start c.in_err-index.ensures.bad s)

pub returns-else-left-eq0-clause-malformed : goal.returns-else-left-eq0-clause-malformed
returns-else-left-eq0-clause-malformed c = let start : c.over-cursor.result.0 ≡ c.args.content.now = ap (λ (z : List ℕ × ℕ). z.0) c.over-cursor.ensures in λ _ other (func, s, e). whole_left SpellsU32 c.over-cursor.result.0 c.args.content.now c.leb_u32.new.self.0 c.in_ok-index.index func start c.in_ok-index.ensures.only (λ none. c.if-left-eq0.false (c.left.ensures ∙ ap length none)) s
