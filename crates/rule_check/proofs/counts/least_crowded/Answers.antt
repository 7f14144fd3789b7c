use Rattle.std.proofs.Common.{◌≡◌, ℕ, ◌<◌, ◌==◌, List, subst}
use Rattle.std.specs.List.{count_by}
use Rattle.game_tables.specs.Limits.{most_sites}
use Rattle.rule_check.specs.inner.Checks.{IsLeast, AnyOf}
use Rattle.rule_check.proofs.Minima.{least_more, least_end, read_at}
use Rattle.rule_check.proofs.counts.least_crowded.Goals as goal

pub loop-account-preserved : goal.loop-account-preserved
loop-account-preserved c =
    rw c.lesser-least.ensures
    (least_more (λ account n. (account.player ≡ n) × (most_sites < count_by (λ owner. owner == n) c.in_ok-owners.owners.items)) c.args.accounts.now c.loop-account.account-index c.account-item.result c.loop-account.least c.if_crowded.result
    (read_at c.args.accounts.now c.loop-account.account-index c.account-item.result c.loop-account-test.true c.account-item.is) c.loop-account.invariant (rw c.deref.ensures.value at c.if_crowded.ensures))

pub returns : goal.returns
returns c =
    subst (λ (owners : List ℕ). IsLeast (AnyOf (λ account n. (account.player ≡ n) × (most_sites < count_by (λ owner. owner == n) owners)) c.args.accounts.now) c.loop-account.least) c.in_ok-owners.ensures
    (least_end (λ account n. (account.player ≡ n) × (most_sites < count_by (λ owner. owner == n) c.in_ok-owners.owners.items)) c.args.accounts.now c.loop-account.account-index c.loop-account.least c.loop-account-test.false c.loop-account.invariant)
