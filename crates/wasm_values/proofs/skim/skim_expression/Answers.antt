use Rattle.std.proofs.Common.{[], ◌∷◌, ap, reverse}
use Rattle.std.proofs.lemmas.Result.{err_from_is_err_and}
use Rattle.wasm_values.specs.inner.Opens.{after, opens}
use Rattle.wasm_values.specs.declared.skim.Open.TheVariants.{Block}
use Rattle.wasm_values.proofs.Opens.{alike_step, alike_none, alike_found, alike_only}
use Rattle.wasm_values.proofs.skim.skim_expression.Goals as goal

pub returns-in_err-turn-clause-malformed : goal.returns-in_err-turn-clause-malformed
returns-in_err-turn-clause-malformed c = let p = err_from_is_err_and c.from_residual.result c.from_residual.ensures.1 in rw (p.1, p.2) (λ is. alike_none (opens c.each.next c.each.outer.items) (c.in-Some.top ∷ reverse c.each.outer.items) c.args.cursor.now.0 c.each.cursor.0 (ap (λ z. opens z c.each.outer.items) c.in-Some.is) c.each.invariant (c.in_err-turn.ensures.malformed is (reverse c.each.outer.items)))

pub each-preserved : goal.each-preserved
each-preserved c = alike_step (Block ∷ []) (opens c.each.next c.each.outer.items) (c.in-Some.top ∷ reverse c.each.outer.items) (after c.in_ok-turn.turn c.in-Some.top (reverse c.each.outer.items)) (opens c.in_ok-next.next c.follow.new.outer.items) c.args.cursor.now.0 c.each.cursor.0 c.read_turn.new.cursor.0 (ap (λ z. opens z c.each.outer.items) c.in-Some.is) c.in_ok-next.ensures c.each.invariant (c.in_ok-turn.ensures.alike (reverse c.each.outer.items))

pub returns-clause-found : goal.returns-clause-found
returns-clause-found c = alike_found (opens c.each.next c.each.outer.items) c.args.cursor.now.0 c.each.cursor.0 (ap (λ z. opens z c.each.outer.items) c.in_default.is) c.each.invariant

pub returns-clause-only : goal.returns-clause-only
returns-clause-only c = alike_only (opens c.each.next c.each.outer.items) c.args.cursor.now.0 c.each.cursor.0 (ap (λ z. opens z c.each.outer.items) c.in_default.is) c.each.invariant
