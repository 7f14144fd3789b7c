-- Accounts in rising player.
use Rattle.std.proofs.Common.{ℕ, ◌<◌, List, [], ◌∷◌, ◌++◌}
use Rattle.std.specs.List.{AllByRecursion}
use Rattle.object_store.specs.declared.account.Account.{Account}
use Rattle.object_store.specs.Stored.{AreRising, IsLast}
use Rattle.room_table.proofs.Rising.{Rises}

pub all_push : {A : Type 0} (P : A → Type 0) (xs : List A) (x : A) → AllByRecursion P xs → P x → AllByRecursion P (xs ++ x ∷ [])
all_push P [] x all holds = (holds, tt)
all_push P (y ∷ xs) x all holds = (all.0, all_push P xs x all.1 holds)

pub rising_push : (accounts : List Account) (account : Account) → AreRising accounts → IsLast account.player accounts → AreRising (accounts ++ account ∷ [])
rising_push [] account rising last = (tt, tt)
rising_push (first ∷ accounts) account rising last = (all_push (λ later. first.player < later.player) accounts account rising.0 last.0, rising_push accounts account rising.1 last.1)

abbrev pub player_of : Account → ℕ
player_of account = account.player

pub rises_from_accounts : (accounts : List Account) → AreRising accounts → Rises player_of accounts
rises_from_accounts [] rising = tt
rises_from_accounts (first ∷ accounts) rising = (rising.0, rises_from_accounts accounts rising.1)

pub accounts_from_rises : (accounts : List Account) → Rises player_of accounts → AreRising accounts
accounts_from_rises [] rises = tt
accounts_from_rises (first ∷ accounts) rises = (rises.0, accounts_from_rises accounts rises.1)
