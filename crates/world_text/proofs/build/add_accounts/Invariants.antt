use Rattle.std.proofs.Common.{◌≡◌}
use Rattle.world_text.proofs.build.add_accounts.Given as goal

abbrev pub invariant-loop-account : goal.invariant-loop-account
invariant-loop-account l = l.world ≡ record l.fn.world { accounts = l.yielded }
