-- The accounts of a generated world: each player has one, in rising number.
use Rattle.std.proofs.Common.{◌≡◌, ℕ, zero, suc, ◌+◌, ◌^◌, ◌<◌, ◌≤◌, ◌==◌, List, length, map, Some, true, false, cond, refl, ap, arith, lit≤}
use Rattle.std.specs.List.{AllByRecursion, count_by, range_with_len}
use Rattle.std.proofs.lemmas.Bool.{eqb-true}
use Rattle.std.proofs.lemmas.Bool.Decides.{nat_tests}
use Rattle.std.proofs.lemmas.List.FromFn.{length-map-range_with_len}
use Rattle.object_store.specs.Stored.{AreRising, HasAccount, find_account}
use Rattle.object_store.specs.declared.account.Account.{Account}
use Rattle.world_form.specs.Written.{IsWritableAccount}
use Rattle.world_gen.specs.Generator.{account, accounts_to}
use Rattle.made_worlds.proofs.Places.{Rises, all_made, at_most_once}

pub accounts_long : (n : ℕ) → length (accounts_to n) ≡ n
unfolding accounts_to
accounts_long n = length-map-range_with_len account 1 n

above : (player a n : ℕ) → player < a
    → AllByRecursion (λ later. player < later) (map (λ (account : Account). account.player) (map account (range_with_len a n)))
above player a zero less = tt
above player a (suc n) less = (less, above player (a + 1) n (omega arith))

numbers_rise : (a n : ℕ) → Rises (map (λ (account : Account). account.player) (map account (range_with_len a n)))
numbers_rise a zero = tt
numbers_rise a (suc n) = (above a (a + 1) n (omega arith), numbers_rise (a + 1) n)

pub no_player_twice : (players n : ℕ)
    → 2 ≤ count_by (λ m. m == n) (map (λ (account : Account). account.player) (accounts_to players)) → ⊥
unfolding accounts_to
no_player_twice players n many =
    let numbers : List ℕ = map (λ (account : Account). account.player) (map account (range_with_len 1 players)) in
    let once : count_by (λ m. m == n) numbers ≤ 1 = at_most_once n numbers (numbers_rise 1 players) in
    omega arith

rising : (a n : ℕ) → AreRising (map account (range_with_len a n))
rising a zero = tt
rising a (suc n) =
    (all_made (λ (later : Account). a < later.player) account (a + 1) n (λ k low high. omega arith), rising (a + 1) n)

pub accounts_rise : (players : ℕ) → AreRising (accounts_to players)
unfolding accounts_to
accounts_rise players = rising 1 players

pub accounts_writable : (players : ℕ) → players ≤ 8 → AllByRecursion IsWritableAccount (accounts_to players)
unfolding accounts_to
accounts_writable players few =
    all_made IsWritableAccount account 1 players (λ k low high. record {
      player = low;
      below = omega arith;
      limit = lit≤ tt;
      bucket = lit≤ tt;
      points = lit≤ tt;
      memory = lit≤ tt;
    })

pub memories_are_bytes : (players : ℕ)
    → AllByRecursion (λ (account : Account). AllByRecursion (λ byte. byte < 2 ^ 8) account.memory) (accounts_to players)
unfolding accounts_to
memories_are_bytes players =
    all_made (λ (account : Account). AllByRecursion (λ byte. byte < 2 ^ 8) account.memory) account 1 players
    (λ k low high. tt)

-- ---- each player has an account

has_account : (a n player : ℕ) → a ≤ player → player < a + n
    → find_account player (map account (range_with_len a n)) ≡ Some (account player)
has_account a zero player low high = absurd (omega arith)
has_account a (suc n) player low high =
    elim (a == player) as (λ b. (a == player) ≡ b → cond b (Some (account a)) (find_account player (map account (range_with_len (a + 1) n))) ≡ Some (account player)) [
      | true ↦ λ is. ap (λ k. Some (account k)) (eqb-true a player is)
      | false ↦ λ is. has_account (a + 1) n player (grind (arith, nat_tests)) (omega arith)
    ] refl

pub player_known : (players player : ℕ) → 1 ≤ player → player ≤ players → HasAccount player (accounts_to players)
unfolding accounts_to
player_known players player some most =
    (account player, has_account 1 players player some (omega arith))
