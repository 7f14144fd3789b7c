-- A tick leaves the players of the accounts.
use Rattle.std.proofs.Common.{◌≡◌, ℕ, ◌<◌, List, [], ◌∷◌, map, Option, Some, None, refl, sym, ap, subst, ◌∙◌}
use Rattle.std.specs.Ordering.{nat_cmp}
use Rattle.std.specs.List.{AllByRecursion}
use Rattle.std.specs.FinMap.{FinMap, entries, from_entries}
use Rattle.object_store.specs.declared.account.Account.{Account}
use Rattle.object_store.specs.Stored.{Stored, AreRising}
use Rattle.intent_book.specs.declared.intent.Intent.{Intent}
use Rattle.intent_book.specs.declared.player_run.PlayerRun.{PlayerRun}
use Rattle.world_rules.specs.Crossings.{crossed}
use Rattle.world_rules.specs.Tick.{account_after, account_raised, book, gained, intents_of, next_world, plain_world, ruled, run_of}
use Rattle.world_rules.specs.World.{World, world_of}
use Rattle.world_rules.proofs.Keys.{accounts_sorted, entries_of_sorted, keyed, same_find, same_list}
use Rattle.site_limit.proofs.Accounts.{ruled_accounts}

abbrev player_of : Account → ℕ
player_of account = account.player

module _ (f : Account → Account) (same : (account : Account) → (f account).player ≡ account.player) where
  players_mapped : (accounts : List Account) → map player_of (map f accounts) ≡ map player_of accounts
  players_mapped [] = refl
  players_mapped (account ∷ accounts) = λ i. same account i ∷ players_mapped accounts i

  keyed_mapped : (accounts : List Account) → map {B = ℕ × Account} (λ (e : ℕ × Account). (e.0, f e.1)) (keyed player_of accounts) ≡ keyed player_of (map f accounts)
  keyed_mapped [] = refl
  keyed_mapped (account ∷ accounts) = λ i. (sym (same account) i, f account) ∷ keyed_mapped accounts i

  above_mapped : (n : ℕ) (accounts : List Account) → AllByRecursion (λ later. n < later.player) accounts → AllByRecursion (λ later. n < later.player) (map f accounts)
  above_mapped n [] all = tt
  above_mapped n (account ∷ accounts) all = (subst (λ (m : ℕ). n < m) (sym (same account)) all.0, above_mapped n accounts all.1)

  rising_mapped : (accounts : List Account) → AreRising accounts → AreRising (map f accounts)
  rising_mapped [] rising = tt
  rising_mapped (account ∷ accounts) rising = (
    subst (λ (n : ℕ). AllByRecursion (λ later. n < later.player) (map f accounts)) (sym (same account)) (above_mapped account.player accounts rising.0),
    rising_mapped accounts rising.1,
  )

-- Where a tick makes of each account one of the same player, the players stay.
module _ (change : ℕ → Account → Account) (own : (player : ℕ) (account : Account) → (change player account).player ≡ account.player) where
  abbrev changed : Account → Account
  changed account = change account.player account

  entries_changed : (accounts : List Account) → map {B = ℕ × Account} (λ (e : ℕ × Account). (e.0, change e.0 e.1)) (keyed player_of accounts) ≡ map {B = ℕ × Account} (λ (e : ℕ × Account). (e.0, changed e.1)) (keyed player_of accounts)
  entries_changed [] = refl
  entries_changed (account ∷ accounts) = ap (λ (es : List (ℕ × Account)). (account.player, changed account) ∷ es) (entries_changed accounts)

  module _ (before after : Stored) (list : List Intent) (rising : AreRising before.accounts) (rises : AreRising after.accounts)
      (is : (world_of after).accounts ≡ from_entries (map {B = ℕ × Account} (λ (e : ℕ × Account). (e.0, change e.0 e.1)) (entries (ruled book crossed (world_of before) list).accounts))) where
    stays : (account : Account) → (changed account).player ≡ account.player
    stays account = own account.player account

    ticked : (world_of after).accounts ≡ from_entries (keyed player_of (map changed before.accounts))
    ticked =
        is
        ∙ ap (λ (accounts : FinMap nat_cmp Account). from_entries (map {B = ℕ × Account} (λ (e : ℕ × Account). (e.0, change e.0 e.1)) (entries accounts))) (ruled_accounts (world_of before) list)
        ∙ ap (λ (es : List (ℕ × Account)). from_entries (map {B = ℕ × Account} (λ (e : ℕ × Account). (e.0, change e.0 e.1)) es)) (entries_of_sorted (keyed player_of before.accounts) (accounts_sorted before.accounts rising))
        ∙ ap from_entries (entries_changed before.accounts ∙ keyed_mapped changed stays before.accounts)

    -- The accounts after are those before, each after the tick.
    accounts_are : after.accounts ≡ map changed before.accounts
    accounts_are =
        same_list player_of after.accounts (map changed before.accounts) (accounts_sorted after.accounts rises) (accounts_sorted (map changed before.accounts) (rising_mapped changed stays before.accounts rising))
        (same_find (keyed player_of after.accounts) (keyed player_of (map changed before.accounts)) ticked)

    players_kept : map player_of before.accounts ≡ map player_of after.accounts
    players_kept = sym (players_mapped changed stays before.accounts) ∙ ap (map player_of) (sym accounts_are)

after_own : (gain : ℕ) (account : Account) (run : Option PlayerRun) → (account_after gain account run).player ≡ account.player
after_own gain account None = refl
after_own gain account (Some run) = refl

-- So they do in a tick with runs,
pub players_are : (before after : Stored) (runs : List PlayerRun) → AreRising before.accounts → AreRising after.accounts → world_of after ≡ next_world (world_of before) runs → map player_of before.accounts ≡ map player_of after.accounts
players_are before after runs rising rises is =
    let gain = gained book (world_of before) (intents_of runs) in
    players_kept (λ player account. account_after (gain player) account (run_of player runs)) (λ player account. after_own (gain player) account (run_of player runs))
    before after (intents_of runs) rising rises (ap (λ (w : World). w.accounts) is)

-- and in one in which accounts gain points alone.
pub players_raised : (before after : Stored) (list : List Intent) → AreRising before.accounts → AreRising after.accounts → world_of after ≡ plain_world (world_of before) list → map player_of before.accounts ≡ map player_of after.accounts
players_raised before after list rising rises is =
    let gain = gained book (world_of before) list in
    players_kept (λ player account. account_raised (gain player) account) (λ player account. refl) before after list rising rises (ap (λ (w : World). w.accounts) is)
