use Rattle.std.proofs.Common.{◌∷◌, ◌++◌, ◌∙◌, ℕ, List, ap, length, arith}
use Rattle.std.proofs.lemmas.Result.{err_from_is_err_and}
use Rattle.tick_journal.proofs.Recorded.{outcome_short, outcome_read}
use Rattle.tick_journal.proofs.entry_reader.read_outcome.Goals as goal

pub returns-in_err-outcome-clause-malformed : goal.returns-in_err-outcome-clause-malformed
returns-in_err-outcome-clause-malformed c =
    let p = err_from_is_err_and c.from_residual.result c.from_residual.ensures.1 in
    rw p.1 (λ _ is rest form e. outcome_short is c.args.from.now.0 rest (omega (arith, ap length c.in_err-outcome.ensures.short)) e)

pub returns-in_err-trap-clause-malformed : goal.returns-in_err-trap-clause-malformed
returns-in_err-trap-clause-malformed c =
    let p = err_from_is_err_and c.from_residual-in_err-trap.result c.from_residual-in_err-trap.ensures.1 in
    rw p.1 (λ _ is rest form e. outcome_short is c.args.from.now.0 rest (omega (arith, ap length c.in_ok-outcome.ensures.found, ap length c.in_err-trap.ensures.short)) e)

pub returns-in-Some-clause-found : goal.returns-in-Some-clause-found
returns-in-Some-clause-found c =
    let some = c.in-Some.ensures.some in
    (some.0, c.in_ok-outcome.ensures.found ∙ ap (λ (z : List ℕ). c.in_ok-outcome.outcome ∷ z) c.in_ok-trap.ensures.found ∙ ap (λ (z : List ℕ). z ++ c.u8-2.new.self.0) some.1)

pub returns-in-None-clause-malformed : goal.returns-in-None-clause-malformed
returns-in-None-clause-malformed c = λ _ is rest form e.
    c.in-None.ensures.none is form (outcome_read is c.in_ok-outcome.outcome c.in_ok-trap.trap c.args.from.now.0 c.u8.new.self.0 c.u8-2.new.self.0 rest c.in_ok-outcome.ensures.found c.in_ok-trap.ensures.found e)
