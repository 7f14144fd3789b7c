use Rattle.std.proofs.Common.{◌≡◌}
use Rattle.tick_journal.proofs.read_base.add_accounts.Given as goal

abbrev pub invariant-loop-account : goal.invariant-loop-account
invariant-loop-account l = l.world ≡ record l.fn.world { accounts = l.yielded }
