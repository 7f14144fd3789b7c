use Rattle.world_gen.proofs.Listed.{account_last, account_next, no_accounts_yet}
use Rattle.world_gen.proofs.worlds.add_accounts.Goals as goal

pub loop-before-init : goal.loop-before-init
loop-before-init c = no_accounts_yet c.args.world.now c.requires.none

pub push_account-requires-clause-rising : goal.push_account-requires-clause-rising
push_account-requires-clause-rising c =
    account_last c.loop-before.before c.account_of.result c.args.world.now c.loop-before.world
    c.loop-before.invariant c.account_of.ensures

pub loop-before-preserved : goal.loop-before-preserved
loop-before-preserved c =
    account_next c.loop-before.before c.account_of.result c.args.world.now c.loop-before.world c.push_account.new.self
    c.loop-before.invariant c.account_of.ensures c.in_ok-push_account.ensures.ok
