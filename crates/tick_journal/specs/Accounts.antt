-- Accounts behind their number.
use Rattle.std.specs.Prelude.{◌≡◌, ℕ, ◌<◌, ◌^◌, List, length}
use Rattle.std.specs.List.{AllByRecursion}
use Rattle.object_store.specs.declared.account.Account.{Account}
use Rattle.object_store.specs.Stored.{AreRising}
use Rattle.world_bytes.specs.Forms.{HasAccountForm, account_bytes}
use Rattle.tick_journal.specs.inner.Lists.{listed}

-- The players rise, each account has its form, and the number of accounts fits its field.
pub record HasAccountsForm (accounts : List Account) : Type 0 where
  pub rising : AreRising accounts
  pub forms : AllByRecursion HasAccountForm accounts
  pub count : length accounts < 2 ^ 32

-- The bytes are these accounts in rising player, behind their number.
abbrev pub SpellsAccounts : List ℕ → List Account → Type 0
SpellsAccounts bytes accounts = HasAccountsForm accounts × (bytes ≡ listed account_bytes accounts)
