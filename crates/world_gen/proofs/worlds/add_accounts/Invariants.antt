use Rattle.std.proofs.Common.{◌≡◌}
use Rattle.world_gen.specs.Generator.{accounts_to}
use Rattle.world_gen.proofs.worlds.add_accounts.Given as goal

abbrev pub invariant-loop-before : goal.invariant-loop-before
invariant-loop-before l = l.world ≡ record l.fn.world { accounts = accounts_to l.before }
