-- The records that the rules make keep the rules of objects, if nobody has too many sites after them.
use Rattle.std.proofs.Common.{◌≡◌, ◌==◌, ℕ, suc, ◌<◌, true, false, cond, List, [], ◌∷◌, map, length, Some, refl, sym, ap, subst, ◌∙◌, arith}
use Rattle.std.specs.Prelude.{unwrap_or}
use Rattle.std.specs.List.{AllByRecursion}
use Rattle.std.proofs.lemmas.Bool.{eq-eqb, ne_eqb}
use Rattle.object_store.specs.declared.account.Account.{Account}
use Rattle.object_store.specs.declared.world.Room.{Room}
use Rattle.object_store.specs.Stored.{AreRising, Stored, find_account}
use Rattle.changed_rules.specs.Counts.{HaveFewSites}
use Rattle.changed_rules.proofs.Split.{few_sites}
use Rattle.record_follows.proofs.Lasting.{rising_stays}
use Rattle.record_follows.proofs.Placing.{player_stays}
use Rattle.record_follows.specs.Follows.{account_after, after}
use Rattle.rule_check.specs.Kept.{KeepsObjectRules}
use Rattle.ruled_tick.proofs.Follows.{changed-IsSound}
use Rattle.tick_journal.specs.BaseForms.{room_as_read}
use Rattle.tick_journal.specs.declared.tick_record.TickRecord.{TickRecord}
use Rattle.world_rules.specs.Sound.{IsSound}
use Rattle.recorded_tick.specs.Recording.{AreAlike, AreReadAlike, HaveSameFrame, ground_of}
use Rattle.recorded_tick.proofs.Alike.{rules_alike}
use Rattle.recorded_tick.proofs.Standing.{rules_sound}
use Rattle.world_replay.specs.inner.Ruling.{AreAlikeTo}

-- ---- rooms that are written alike are read alike

rooms_read : (ones others : List Room) → map ground_of ones ≡ map ground_of others → AreAlikeTo (length ones) ones others → map room_as_read ones ≡ map room_as_read others
rooms_read [] [] grounds alike = refl
rooms_read [] (y ∷ ys) grounds alike = absurd cc
rooms_read (x ∷ xs) [] grounds alike = absurd cc
rooms_read (x ∷ xs) (y ∷ ys) grounds alike =
    let ground : ground_of x ≡ ground_of y = cc in
    let behind : map ground_of xs ≡ map ground_of ys = cc in
    let table : AreAlike x.table y.table = alike 0 (omega arith) x y refl refl in
    let rest = rooms_read xs ys behind (λ k less one other a b. alike (suc k) (omega (arith, less)) one other a b) in
    λ i. record { name = (ground i).0; terrain = (ground i).1; table = table i } ∷ rest i

-- ---- accounts of the same players

abbrev player_in : Account → ℕ
player_in account = account.player

-- accounts of players above another's don't take his
above_taken : (first : Account) (list accounts : List Account) → AllByRecursion (λ (account : Account). first.player < account.player) accounts → map (account_after (first ∷ list)) accounts ≡ map (account_after list) accounts
above_taken first list [] above = refl
above_taken first list (account ∷ accounts) above =
    let other : (first.player == account.player) ≡ false = ne_eqb first.player account.player (λ same. (let less = above.0 in omega (arith, same, less))) in
    let here : account_after (first ∷ list) account ≡ account_after list account = ap (λ b. unwrap_or (cond b (Some first) (find_account account.player list)) account) other in
    let rest = above_taken first list accounts above.1 in
    λ i. here i ∷ rest i

same_above : (low : ℕ) (ones others : List Account) → map player_in ones ≡ map player_in others → AllByRecursion (λ (account : Account). low < account.player) others → AllByRecursion (λ (account : Account). low < account.player) ones
same_above low [] [] same above = tt
same_above low [] (y ∷ ys) same above = absurd cc
same_above low (x ∷ xs) [] same above = absurd cc
same_above low (x ∷ xs) (y ∷ ys) same above =
    let player : x.player ≡ y.player = cc in
    let behind : map player_in xs ≡ map player_in ys = cc in
    let less = above.0 in
    (omega (arith, player, less), same_above low xs ys behind above.1)

-- Accounts that take those of the same players become these.
accounts_taken : (ones others : List Account) → map player_in ones ≡ map player_in others → AreRising others → map (account_after others) ones ≡ others
accounts_taken [] [] same rising = refl
accounts_taken [] (y ∷ ys) same rising = absurd cc
accounts_taken (x ∷ xs) [] same rising = absurd cc
accounts_taken (x ∷ xs) (y ∷ ys) same rising =
    let player : x.player ≡ y.player = cc in
    let behind : map player_in xs ≡ map player_in ys = cc in
    let at : (y.player == x.player) ≡ true = eq-eqb y.player x.player (sym player) in
    let here : account_after (y ∷ ys) x ≡ y = ap (λ b. unwrap_or (cond b (Some y) (find_account x.player ys)) x) at in
    let rest = above_taken y ys xs (same_above y.player xs ys behind rising.0) ∙ accounts_taken xs ys behind rising.1 in
    λ i. here i ∷ rest i

-- ---- the world after

module _ (ruled after_it : Stored) (frame : HaveSameFrame ruled after_it) (alike : AreAlikeTo (length after_it.rooms) after_it.rooms ruled.rooms) (sound : IsSound ruled) (rising : AreRising after_it.accounts) (few : HaveFewSites ruled.rooms) where
  pub keeps_as_ruled : KeepsObjectRules after_it
  keeps_as_ruled =
      let mid : Stored = record ruled { tick = after_it.tick; accounts = map (account_after after_it.accounts) ruled.accounts } in
      let sound_mid : IsSound mid = changed-IsSound (account_after after_it.accounts) (player_stays after_it.accounts) ruled after_it.tick sound in
      let keeps : KeepsObjectRules mid = rules_sound mid sound_mid (few_sites mid few) in
      let rooms = rooms_read after_it.rooms ruled.rooms (sym frame.rooms) alike in
      let accounts = accounts_taken ruled.accounts after_it.accounts frame.players rising in
      let read : AreReadAlike after_it mid = λ i. record { tick = after_it.tick; rooms = rooms i; accounts = sym accounts i } in
      rules_alike after_it mid read keeps

-- the accounts of a world that is read as the one after a record rise
pub accounts_rise : (own after_it : Stored) (entry : TickRecord) → AreRising own.accounts → AreReadAlike after_it (after own entry) → AreRising after_it.accounts
accounts_rise own after_it entry rising same =
    subst AreRising (sym (ap (λ (w : Stored). w.accounts) same)) (rising_stays own (entry ∷ []) rising)

-- two worlds with the rooms and the players of one have those of each other
pub frame_between : (own one other : Stored) → HaveSameFrame own one → HaveSameFrame own other → HaveSameFrame one other
frame_between own one other first second = record { rooms = sym first.rooms ∙ second.rooms; players = sym first.players ∙ second.players }
