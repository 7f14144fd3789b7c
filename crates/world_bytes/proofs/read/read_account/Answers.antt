use Rattle.std.proofs.lemmas.Result.{err_from_is_err_and}
use Rattle.world_bytes.proofs.Rooms.{account_one}
use Rattle.world_bytes.proofs.read.read_account.Goals as goal

pub returns-in_err-account-clause-malformed : goal.returns-in_err-account-clause-malformed
returns-in_err-account-clause-malformed c =
    let p = err_from_is_err_and c.from_residual.result c.from_residual.ensures.1 in
    rw (p.1, p.2) (rw c.copy-ahead.ensures at c.in_err-account.ensures.malformed)

pub returns-clause-only : goal.returns-clause-only
returns-clause-only c = λ other more begins.
    account_one c.args.from.now.0 other c.in_ok-account.account more c.account_ahead.new.from.0 begins (rw c.copy-ahead.ensures at c.in_ok-account.ensures.found)
