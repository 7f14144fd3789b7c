use Rattle.std.proofs.Common.{subst, sym, ℕ, rules}
use Rattle.std.proofs.lemmas.Result.{err_from_is_err_and}
use Rattle.tick_journal.specs.TickForms.{AreCanonicalOf}
use Rattle.world_bytes.proofs.Words.{word_short}
use Rattle.tick_journal.proofs.Recorded.{run_short, run_behind_player, run_behind_outcome, run_behind_used, run_whole}
use Rattle.tick_journal.proofs.entry_reader.read_run.Goals as goal

pub returns-in_err-player-clause-malformed : goal.returns-in_err-player-clause-malformed
returns-in_err-player-clause-malformed c =
    let p = err_from_is_err_and c.from_residual.result c.from_residual.ensures.1 in
    rw p.1 (λ _ run rest form e. run_short run c.args.from.now.0 rest c.in_err-player.ensures.short e)

pub returns-in_err-outcome-clause-malformed : goal.returns-in_err-outcome-clause-malformed
returns-in_err-outcome-clause-malformed c =
    let p = err_from_is_err_and c.from_residual-in_err-outcome.result c.from_residual-in_err-outcome.ensures.1 in
    rw (p.1, p.2) (λ is run rest form e.
    let one = run_behind_player run c.in_ok-player.player c.args.from.now.0 c.u32.new.self.0 rest (search rules) form c.in_ok-player.ensures.found e in
    c.in_err-outcome.ensures.malformed is run.outcome _ form.outcome one.1)

pub returns-in_err-used-clause-malformed : goal.returns-in_err-used-clause-malformed
returns-in_err-used-clause-malformed c =
    let p = err_from_is_err_and c.from_residual-in_err-used.result c.from_residual-in_err-used.ensures.1 in
    rw p.1 (λ _ run rest form e.
    let outcome = c.in_ok-outcome.ensures.found in
    let two = run_behind_outcome run c.in_ok-player.player c.in_ok-outcome.outcome c.args.from.now.0 c.u32.new.self.0 c.read_outcome.new.from.0 rest (search rules) outcome.0 form c.in_ok-player.ensures.found outcome.1 e in
    word_short 8 run.used c.read_outcome.new.from.0 _ c.in_err-used.ensures.short two.1)

pub returns-in_err-intents-clause-malformed : goal.returns-in_err-intents-clause-malformed
returns-in_err-intents-clause-malformed c =
    let p = err_from_is_err_and c.from_residual-in_err-intents.result c.from_residual-in_err-intents.ensures.1 in
    rw (p.1, p.2) (λ is run rest form e.
    let outcome = c.in_ok-outcome.ensures.found in
    let one = run_behind_player run c.in_ok-player.player c.args.from.now.0 c.u32.new.self.0 rest (search rules) form c.in_ok-player.ensures.found e in
    let three = run_behind_used run c.in_ok-player.player c.in_ok-outcome.outcome c.in_ok-used.used c.args.from.now.0 c.u32.new.self.0 c.read_outcome.new.from.0 c.u64.new.self.0 rest (search rules) outcome.0 (search rules) form c.in_ok-player.ensures.found outcome.1 c.in_ok-used.ensures.found e in
    c.in_err-intents.ensures.malformed is run.intents rest (subst (λ (z : ℕ). AreCanonicalOf z run.intents) (sym one.0) form.intents) three.1)

pub returns-clause-found : goal.returns-clause-found
returns-clause-found c =
    let outcome = c.in_ok-outcome.ensures.found in
    let intents = c.in_ok-intents.ensures.found in (
      record { outcome = outcome.0; intents = intents.0; player = search rules; used = search rules },
      run_whole _ c.args.from.now.0 c.u32.new.self.0 c.read_outcome.new.from.0 c.u64.new.self.0 c.read_intents.new.from.0 c.in_ok-player.ensures.found outcome.1 c.in_ok-used.ensures.found intents.1,
    )
