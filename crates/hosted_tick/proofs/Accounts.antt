-- The accounts of a stored world, and those of the world that it is.
use Rattle.std.proofs.Common.{◌≡◌, ℕ, zero, suc, ◌<◌, ◌==◌, cond, List, [], ◌∷◌, map, length, get_or, Some, None, refl, sym, ap, subst, ◌∙◌, arith}
use Rattle.std.specs.Cmp.{nat_cmp_total, nat_eq_equiv, unsigned_tied}
use Rattle.std.specs.FinMap.{get, get-from_entries}
use Rattle.std.specs.FinMap.{find as find_key}
use Rattle.std.specs.Ordering.{nat_cmp, eq_by_cmp}
use Rattle.std.proofs.lemmas.Bool.{eq-eqb, ne_eqb}
use Rattle.std.proofs.lemmas.List.Elements.{All-from_recursion}
use Rattle.object_store.specs.declared.account.Account.{Account}
use Rattle.object_store.specs.Stored.{Stored, AreRising, find_account}
use Rattle.world_rules.specs.Rules.{IsPlayer}
use Rattle.world_rules.specs.World.{world_of}
use Rattle.world_rules.proofs.Keys.{keyed, accounts_sorted, entries_of_sorted, values_of}
use Rattle.hosted_tick.specs.Next.{account_list}

abbrev player_of : Account → ℕ
player_of account = account.player

find_keyed : (player : ℕ) (accounts : List Account) → find_key nat_cmp player (keyed player_of accounts) ≡ find_account player accounts
find_keyed player [] = refl
find_keyed player (account ∷ accounts) =
    let tied : eq_by_cmp nat_cmp player account.player ≡ (account.player == player) = unsigned_tied player account.player ∙ nat_eq_equiv.symm player account.player in
    let rest = find_keyed player accounts in
    λ i. cond (tied i) (Some account) (rest i)

pub get_account : (stored : Stored) (player : ℕ) → get (world_of stored).accounts player ≡ find_account player stored.accounts
get_account stored player = get-from_entries nat_cmp_total (keyed player_of stored.accounts) player ∙ find_keyed player stored.accounts

pub is_player : (stored : Stored) (player : ℕ) (account : Account) → find_account player stored.accounts ≡ Some account → IsPlayer (world_of stored) player
is_player stored player account found = (account, get_account stored player ∙ found)

pub is_no_player : (stored : Stored) (player : ℕ) → find_account player stored.accounts ≡ None → IsPlayer (world_of stored) player → ⊥
is_no_player stored player absent is =
    let some : Some is.0 ≡ None = sym is.1 ∙ get_account stored player ∙ absent in
    cc

pub accounts_listed : (stored : Stored) → AreRising stored.accounts → account_list (world_of stored) ≡ stored.accounts
accounts_listed stored rising =
    ap (map (λ (e : ℕ × Account). e.1)) (entries_of_sorted (keyed player_of stored.accounts) (accounts_sorted stored.accounts rising)) ∙ values_of player_of stored.accounts

-- the account of a player at a place
account_at : (accounts : List Account) (i : ℕ) (account : Account) → AreRising accounts → i < length accounts → account ≡ get_or accounts i account → find_account account.player accounts ≡ Some account
account_at [] i account rising within is = absurd (omega arith)
account_at (first ∷ accounts) zero account rising within is =
    let same : first.player ≡ account.player = ap player_of (sym is) in
    rw (eq-eqb first.player account.player same) (ap Some (sym is))
account_at (first ∷ accounts) (suc i) account rising within is =
    let later : first.player < (get_or accounts i account).player = All-from_recursion (λ (a : Account). first.player < a.player) accounts rising.0 i account (omega arith) in
    let below : first.player < account.player = subst (λ (a : Account). first.player < a.player) (sym is) later in
    rw (ne_eqb first.player account.player (λ same. omega arith)) (account_at accounts i account rising.1 (omega arith) is)

pub account_among : (items accounts : List Account) (i : ℕ) (account : Account) → items ≡ accounts → AreRising items → i < length items → account ≡ get_or items i account → find_account account.player accounts ≡ Some account
account_among items accounts i account same rising within is =
    subst (λ (list : List Account). find_account account.player list ≡ Some account) same (account_at items i account rising within is)
