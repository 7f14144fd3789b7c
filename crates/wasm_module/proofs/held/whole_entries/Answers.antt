use Rattle.std.proofs.Common.{◌≡◌, ℕ, List, length, map, ap, sym, ◌∙◌}
use Rattle.std.proofs.lemmas.Result.{err_from_is_err_and}
use Rattle.wasm_values.specs.Spelling.{SpellsList}
use Rattle.wasm_values.proofs.Sizes.{none_left}
use Rattle.wasm_values.proofs.Wholes.{whole_found, whole_only, whole_none, whole_left}
use Rattle.wasm_module.proofs.held.whole_entries.Goals as goal

pub returns-in_err-list-clause-malformed : goal.returns-in_err-list-clause-malformed
returns-in_err-list-clause-malformed g c = let start : c.over-cursor.result.0 ≡ c.args.content.now = ap (λ (z : List ℕ × ℕ). z.0) c.over-cursor.ensures in let p = err_from_is_err_and c.from_residual.result c.from_residual.ensures.1 in rw (p.1, p.2) (λ is other s. whole_none (SpellsList g.F.Form.spells) c.over-cursor.result.0 c.args.content.now other start (c.in_err-list.ensures.malformed is) s)

pub returns-in_ok-kept-clause-found : goal.returns-in_ok-kept-clause-found
returns-in_ok-kept-clause-found g c = let start : c.over-cursor.result.0 ≡ c.args.content.now = ap (λ (z : List ℕ × ℕ). z.0) c.over-cursor.ensures in rw c.in_ok-kept.ensures (whole_found (SpellsList g.F.Form.spells) c.over-cursor.result.0 c.args.content.now c.entries.new.cursor.0 (map g.F.Form.seen c.in_ok-list.list.items) start (none_left c.entries.new.cursor.0 (sym c.left.ensures ∙ c.if-left-eq0.true)) c.in_ok-list.ensures.found)

pub returns-in_ok-kept-clause-only : goal.returns-in_ok-kept-clause-only
returns-in_ok-kept-clause-only g c = let start : c.over-cursor.result.0 ≡ c.args.content.now = ap (λ (z : List ℕ × ℕ). z.0) c.over-cursor.ensures in λ other s. rw c.in_ok-kept.ensures (whole_only (SpellsList g.F.Form.spells) c.over-cursor.result.0 c.args.content.now c.entries.new.cursor.0 (map g.F.Form.seen c.in_ok-list.list.items) other start c.in_ok-list.ensures.only s)

pub returns-else-left-eq0-clause-malformed : goal.returns-else-left-eq0-clause-malformed
returns-else-left-eq0-clause-malformed g c = let start : c.over-cursor.result.0 ≡ c.args.content.now = ap (λ (z : List ℕ × ℕ). z.0) c.over-cursor.ensures in λ _ other s. whole_left (SpellsList g.F.Form.spells) c.over-cursor.result.0 c.args.content.now c.entries.new.cursor.0 (map g.F.Form.seen c.in_ok-list.list.items) other start c.in_ok-list.ensures.only (λ none. c.if-left-eq0.false (c.left.ensures ∙ ap length none)) s
