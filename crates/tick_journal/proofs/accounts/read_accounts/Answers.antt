use Rattle.std.proofs.lemmas.Result.{err_from_is_err_and}
use Rattle.tick_journal.proofs.AccountLists.{number_short}
use Rattle.tick_journal.proofs.accounts.read_accounts.Goals as goal

pub returns-in_err-count-clause-malformed : goal.returns-in_err-count-clause-malformed
returns-in_err-count-clause-malformed c =
    let p = err_from_is_err_and c.from_residual.result c.from_residual.ensures.1 in
    rw p.1 (λ _. number_short c.args.from.now.0 c.in_err-count.ensures.short)
