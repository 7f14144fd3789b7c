-- A sound world stays sound with other accounts of the same players.
use Rattle.std.proofs.Common.{◌≡◌, ℕ, ◌≤◌, ◌==◌, true, cond, List, [], ◌∷◌, map, Option, Some, None, option_map, is_some, slice_get, refl, sym, ap, subst, ◌∙◌, ◌<◌, arith}
use Rattle.std.specs.List.{AllByRecursion, count_by}
use Rattle.std.specs.Ordering.{nat_cmp}
use Rattle.std.specs.Cmp.{nat_cmp_total}
use Rattle.std.specs.FinMap.{find, get, get-from_entries}
use Rattle.std.proofs.lemmas.List.Sums.{sum_by-cons}
use Rattle.object_store.specs.declared.account.Account.{Account}
use Rattle.object_store.specs.declared.world.Room.{Room}
use Rattle.object_store.specs.Stored.{Stored, AreRising, IsLast}
use Rattle.world_rules.specs.World.{world_of}
use Rattle.world_rules.specs.Sound.{IsSound}
use Rattle.world_rules.proofs.Keys.{keyed, find_mapped}
use Rattle.world_rules.proofs.Follows.{follows_self}
use Rattle.world_rules.proofs.Same.{tables_at}
use Rattle.room_rules.specs.Followed.{part_stored, FollowsAt}
use Rattle.room_rules.specs.RoomRules.{is_player}
use Rattle.room_rules.specs.Within.{between}
use Rattle.room_rules.proofs.Followed.{followed_sound}
use Rattle.room_rules.proofs.Sound.{sound_keeps}

-- a room that stays follows itself
stays_at : (w : Stored) → IsSound w → (k : ℕ) (found : Option Room) → slice_get w.rooms k ≡ found → FollowsAt (is_player (world_of w)) between found found
stays_at w s k None is = tt
stays_at w s k (Some room) is = record {
  name = refl;
  terrain = refl;
  index = refl;
  rising = tables_at w.rooms k room s.tables is;
  follows = follows_self (part_stored room);
  keeps = sound_keeps w s k room is;
}

-- ---- accounts

-- accounts with one in the place of each, of the same player
module _ (f : Account → Account) (same : (account : Account) → (f account).player ≡ account.player) where
  keyed_changed : (accounts : List Account) → map (λ (e : ℕ × Account). (e.0, f e.1)) (keyed (λ account. account.player) accounts) ≡ keyed (λ account. account.player) (map f accounts)
  keyed_changed [] = refl
  keyed_changed (account ∷ accounts) = let rest = keyed_changed accounts in λ i. (sym (same account) i, f account) ∷ rest i

  some_changed : (found : Option Account) → is_some found ≡ true → is_some (option_map f found) ≡ true
  some_changed None is = is
  some_changed (Some account) is = refl

  changed_players : (w : Stored) (tick n : ℕ) → is_player (world_of w) n ≡ true → is_player (world_of (record w { tick = tick; accounts = map f w.accounts })) n ≡ true
  changed_players w tick n listed =
      let key : Account → ℕ = λ account. account.player in
      ap is_some (
      get-from_entries nat_cmp_total (keyed key (map f w.accounts)) n
      ∙ ap (find nat_cmp n) (sym (keyed_changed w.accounts))
      ∙ find_mapped f n (keyed key w.accounts)
      ∙ ap (option_map f) (sym (get-from_entries nat_cmp_total (keyed key w.accounts) n)))
      ∙ some_changed (get (world_of w).accounts n) listed

  changed_count : (n : ℕ) (accounts : List Account) → count_by (λ account. account.player == n) (map f accounts) ≤ count_by (λ account. account.player == n) accounts
  changed_count n [] = omega arith
  changed_count n (account ∷ accounts) =
      let test : Account → ℕ = λ account. cond (account.player == n) 1 0 in
      let here = ap (λ (player : ℕ). cond {A = ℕ} (player == n) 1 0) (same account) in
      omega (arith, changed_count n accounts, sum_by-cons test account accounts, sum_by-cons test (f account) (map f accounts))

  changed_above : (player : ℕ) (accounts : List Account) → AllByRecursion (λ later. player < later.player) accounts → AllByRecursion (λ later. player < later.player) (map f accounts)
  changed_above player [] above = tt
  changed_above player (account ∷ accounts) above = (subst (λ (n : ℕ). player < n) (sym (same account)) above.0, changed_above player accounts above.1)

  changed_rise : (accounts : List Account) → AreRising accounts → AreRising (map f accounts)
  changed_rise [] rising = tt
  changed_rise (account ∷ accounts) rising = (subst (λ (n : ℕ). AllByRecursion (λ (later : Account). n < later.player) (map f accounts)) (sym (same account)) (changed_above account.player accounts rising.0), changed_rise accounts rising.1)

  -- a sound world with another tick and such accounts
  pub changed-IsSound : (w : Stored) (tick : ℕ) → IsSound w → IsSound (record w { tick = tick; accounts = map f w.accounts })
  changed-IsSound w tick s =
      followed_sound w (record w { tick = tick; accounts = map f w.accounts }) s (λ k. stays_at w s k (slice_get w.rooms k) refl)
      (record { rising = changed_rise w.accounts s.accounts; players = changed_players w tick; fewer = λ n. changed_count n w.accounts })

  -- an account comes after others also where they are changed
  pub changed_last : (player : ℕ) (accounts : List Account) → IsLast player accounts → IsLast player (map f accounts)
  changed_last player [] last = tt
  changed_last player (account ∷ accounts) last = (subst (λ (n : ℕ). n < player) (sym (same account)) last.0, changed_last player accounts last.1)
