use Rattle.std.proofs.Common.{ℕ, refl}
use Rattle.ruled_tick.specs.inner.Ticked.{raised_by}
use Rattle.ruled_tick.proofs.Rising.{comes_last}
use Rattle.ruled_tick.proofs.Follows.{changed_last}
use Rattle.ruled_tick.proofs.tick.push_raised.Goals as goal

pub push_account-requires-clause-rising : goal.push_account-requires-clause-rising
push_account-requires-clause-rising c =
    let gain : ℕ → ℕ = c.requires.gains.0 in
    rw (c.in_ok-raised.ensures, c.loop-index.invariant gain c.requires.gains.1) (changed_last (raised_by gain) (λ account. refl) _ _ (comes_last _ c.loop-index.index _ c.requires.rising c.loop-index-test.true c.index-accounts-index.is))
