use Rattle.std.proofs.lemmas.Result.{err_from_is_err_and}
use Rattle.world_bytes.proofs.Intents.{intent_one}
use Rattle.world_bytes.proofs.read.read_intent.Goals as goal

pub returns-in_err-intent-clause-malformed : goal.returns-in_err-intent-clause-malformed
returns-in_err-intent-clause-malformed c =
    let p = err_from_is_err_and c.from_residual.result c.from_residual.ensures.1 in
    rw (p.1, p.2) (λ _. rw c.copy-ahead.ensures at c.in_err-intent.ensures.none)

pub returns-clause-only : goal.returns-clause-only
returns-clause-only c = λ other more begins.
    intent_one c.args.player c.args.from.now.0 other c.in_ok-intent.intent more c.intent_ahead.new.from.0 begins (rw c.copy-ahead.ensures at c.in_ok-intent.ensures.found)
