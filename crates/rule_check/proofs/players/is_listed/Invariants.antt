use Rattle.std.proofs.Common.{◌≡◌}
use Rattle.rule_check.proofs.Minima.{NoneBelow}
use Rattle.rule_check.proofs.players.is_listed.Given as goal

abbrev pub invariant-loop-account : goal.invariant-loop-account
invariant-loop-account l = NoneBelow (λ k account. account.player ≡ l.player) l.accounts l.account-index
