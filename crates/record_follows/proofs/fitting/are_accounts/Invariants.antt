use Rattle.std.proofs.Common.{drop}
use Rattle.std.specs.List.{AllByRecursion}
use Rattle.object_store.specs.Stored.{HasAccount}
use Rattle.record_follows.proofs.fitting.are_accounts.Given as goal

abbrev pub invariant-loop-account : goal.invariant-loop-account
invariant-loop-account l = record {
  left : AllByRecursion (λ account. HasAccount account.player l.before.accounts) (drop l.account-index l.accounts) → AllByRecursion (λ account. HasAccount account.player l.before.accounts) l.accounts;
  whole : AllByRecursion (λ account. HasAccount account.player l.before.accounts) l.accounts → AllByRecursion (λ account. HasAccount account.player l.before.accounts) (drop l.account-index l.accounts);
}
