use Rattle.std.proofs.Common.{◌≡◌, ◌<◌, ◌==◌}
use Rattle.std.specs.List.{count_by}
use Rattle.game_tables.specs.Limits.{most_sites}
use Rattle.rule_check.specs.inner.Checks.{IsLeast}
use Rattle.rule_check.proofs.Minima.{AnyBelow}
use Rattle.rule_check.proofs.counts.least_crowded.Given as goal

abbrev pub invariant-loop-account : goal.invariant-loop-account
invariant-loop-account l = IsLeast (AnyBelow (λ account n. (account.player ≡ n) × (most_sites < count_by (λ owner. owner == n) l.owners.items)) l.accounts l.account-index) l.least
