use Rattle.std.proofs.Common.{arith}
use Rattle.recorded_tick.proofs.Added.{accounts_more}
use Rattle.recorded_tick.proofs.changes.changed_accounts.Goals as goal

pub loop-place-preserved : goal.loop-place-preserved
loop-place-preserved c =
    accounts_more c.args.before.now c.args.after.now c.loop-place.place c.index-before-place.result c.index-after-place.result c.loop-place.accounts.items c.add_account.new.accounts.items
    c.requires (omega arith) c.index-before-place.is c.index-after-place.is c.loop-place.invariant c.in_ok-add_account.ensures
