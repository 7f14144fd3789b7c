use Rattle.std.proofs.Common.{◌≡◌, drop}
use Rattle.record_follows.specs.inner.Parts.{with_accounts}
use Rattle.record_follows.proofs.putting.put_accounts.Given as goal

abbrev pub invariant-loop-at : goal.invariant-loop-at
invariant-loop-at l = l.world ≡ with_accounts (drop l.at l.accounts) l.fn.world
