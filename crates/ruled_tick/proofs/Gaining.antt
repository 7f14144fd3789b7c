-- What players gain by the entries of a tick, beside their accounts.
use Rattle.std.proofs.Common.{◌≡◌, ℕ, zero, suc, ◌+◌, ◌-◌, ◌^◌, ◌<◌, ◌≤◌, ◌==◌, min, nat_lt, Bool, true, false, cond, if◌then◌else◌, List, [], ◌∷◌, ◌++◌, map, length, get_or, set, take, replicate, Result, Ok, Err, IfOk, IfErr, Option, Some, None, option_map, slice_get, refl, sym, ap, subst, ◌∙◌, arith, append-nil}
use Rattle.std.specs.List.{AllByRecursion}
use Rattle.std.specs.List.Sorted.{IsSearchInRange, IsBinarySearchResult, IsNonDecreasingBy}
use Rattle.std.specs.Option.{option_to_list}
use Rattle.std.specs.Ordering.{nat_cmp, ordering_index}
use Rattle.std.proofs.lemmas.Bool.{eqb-true, eqb-false, eq-eqb, ltb-true, ltb-false}
use Rattle.std.proofs.lemmas.Bool.Decides.{nat_tests}
use Rattle.std.proofs.lemmas.Cmp.{ranked}
use Rattle.std.proofs.lemmas.List.{map_push, take_all, take_more}
use Rattle.std.proofs.lemmas.List.Sums.{sum_by-append, sum_by-cons}
use Rattle.std.proofs.lemmas.Option.{get_or_from_slice_get, slice_get-get_or, slice_get-map, slice_get_within}
use Rattle.game_tables.specs.declared.action.Action.{Action}
use Rattle.game_tables.specs.declared.action.Action.TheVariants as actions
use Rattle.intent_book.specs.declared.intent.Intent.{Intent}
use Rattle.object_store.specs.declared.account.Account.{Account}
use Rattle.object_store.specs.declared.world.Room.{Room}
use Rattle.object_store.specs.Stored.{Stored, AreRising}
use Rattle.kept_entries.specs.declared.entries.Entry.{Entry}
use Rattle.kept_entries.specs.Turns.{placed, AreKept}
use Rattle.world_rules.specs.World.{World, world_of}
use Rattle.world_rules.specs.RoomParts.{RoomPart, part_at, part_of}
use Rattle.world_rules.specs.Sound.{IsSound}
use Rattle.world_rules.specs.Tick.{Gain, book, gained, points_of, rule_of}
use Rattle.world_rules.proofs.Lifting.{frame_stored}
use Rattle.world_rules.proofs.Same.{same_lists}
use Rattle.room_rules.specs.Followed.{part_stored}
use Rattle.room_rules.specs.RoomRules.{is_player}
use Rattle.ruled_tick.specs.inner.Entered.{gain_entered, gains_entered, points_entered, AreGains, HasNoAccount, IsActed, IsPlaceOf, IsRuledIn}
use Rattle.ruled_tick.proofs.Actions.{acted_enters, gains_append}
use Rattle.ruled_tick.proofs.Entered.{frame_at, part_of_stored}
use Rattle.ruled_tick.proofs.Places.{get_set}

-- ---- rules

-- Only an upgrade gains points.
pub no_points : (a : Action) → (a ≡ actions.Upgrade → ⊥) → (intent : Intent) (part : RoomPart) → (rule_of a intent part).points ≡ 0
no_points actions.Upgrade other intent part = absurd (other refl)
no_points a other intent part = refl

-- ---- accounts in rising player

above_at : (player : ℕ) (accounts : List Account) (j : ℕ) (d : Account) → AllByRecursion (λ later. player < later.player) accounts → j < length accounts → player < (get_or accounts j d).player
above_at player [] j d above inside = absurd (omega arith)
above_at player (account ∷ accounts) zero d above inside = above.0
above_at player (account ∷ accounts) (suc j) d above inside = above_at player accounts j d above.1 (omega arith)

rising_order : (accounts : List Account) (i j : ℕ) (d : Account) → AreRising accounts → i < j → j < length accounts → (get_or accounts i d).player < (get_or accounts j d).player
rising_order [] i j d rising less inside = absurd (omega arith)
rising_order (account ∷ accounts) zero zero d rising less inside = absurd (omega arith)
rising_order (account ∷ accounts) zero (suc j) d rising less inside = above_at account.player accounts j d rising.0 (omega arith)
rising_order (account ∷ accounts) (suc i) zero d rising less inside = absurd (omega arith)
rising_order (account ∷ accounts) (suc i) (suc j) d rising less inside = rising_order accounts i j d rising.1 (omega arith) (omega arith)

module _ (accounts : List Account) (rising : AreRising accounts) where
  below_at : (i k : ℕ) (a b : Account) → slice_get accounts i ≡ Some a → slice_get accounts k ≡ Some b → i < k → a.player < b.player
  below_at i k a b at there less =
      let player : Account → ℕ = λ o. o.player in
      let one : (get_or accounts i a).player ≡ a.player = ap player (get_or_from_slice_get accounts i a a at) in
      let other : (get_or accounts k a).player ≡ b.player = ap player (get_or_from_slice_get accounts k b a there) in
      omega (arith, rising_order accounts i k a rising less (slice_get_within accounts k b there), one, other)

  -- no two accounts are of one player
  apart : (i k : ℕ) (a b : Account) → slice_get accounts i ≡ Some a → slice_get accounts k ≡ Some b → (k ≡ i → ⊥) → a.player ≡ b.player → ⊥
  apart i k a b at there differ same = elim (nat_lt i k) as (λ t. nat_lt i k ≡ t → ⊥) [
    | true ↦ λ is. omega (arith, below_at i k a b at there (ltb-true i k is), same)
    | false ↦ λ is. (
        let more : k < i = grind (arith, ltb-false i k is, differ) in
        omega (arith, below_at k i b a there at more, same)
        )
  ] refl

  -- ---- a search

  module _ (player : ℕ) where
    compared : (i j : ℕ) (d : Account) → i ≤ j → j < length accounts → (get_or accounts i d).player ≤ (get_or accounts j d).player
    compared i j d le inside = elim (i == j) as (λ t. (i == j) ≡ t → (get_or accounts i d).player ≤ (get_or accounts j d).player) [
      | true ↦ λ is. (let same : (get_or accounts i d).player ≡ (get_or accounts j d).player = ap (λ (n : ℕ). (get_or accounts n d).player) (eqb-true i j is) in omega (arith, same))
      | false ↦ λ is. (let less : i < j = grind (arith, eqb-false i j is) in omega (arith, rising_order accounts i j d rising less inside))
    ] refl

    comparisons_rise : IsNonDecreasingBy (λ (account : Account). ordering_index (nat_cmp account.player player)) accounts
    comparisons_rise i j d le inside =
        let rise = compared i j d le inside in
        grind (arith, nat_tests)

    -- A search by player ends at his account, or he has none.
    pub searched : (r : Result ℕ ℕ) → IsSearchInRange r (length accounts) → IsBinarySearchResult (λ (account : Account). nat_cmp account.player player) accounts r
        → record { found : IfOk r (IsPlaceOf accounts player); absent : IfErr r (λ place. HasNoAccount accounts player) }
    searched (Ok at) inside equal = record {
      found = record {
        inside = inside;
        own = λ account there.
            ap (λ (o : Account). o.player) (sym (get_or_from_slice_get accounts at account account there)) ∙ ranked (get_or accounts at account).player player _ (sym (equal account));
      };
      absent = tt;
    }
    searched (Err at) inside parted = record {
      found = tt;
      absent = λ k account there same.
          let read : get_or accounts k account ≡ account = get_or_from_slice_get accounts k account account there in
          let within : k < length accounts = slice_get_within accounts k account there in
          let is_player : (get_or accounts k account).player ≡ player = ap (λ (o : Account). o.player) read ∙ same in
          elim (nat_lt k at) as (λ t. nat_lt k at ≡ t → ⊥) [
            | true ↦ λ is. (
                let less : k < at = ltb-true k at is in
                let below = ranked (get_or accounts k account).player player _ (sym ((parted comparisons_rise).0 k account (omega arith) less)) in
                omega (arith, below, is_player)
                )
            | false ↦ λ is. (
                let least : at ≤ k = omega (arith, ltb-false k at is) in
                let above = ranked (get_or accounts k account).player player _ (sym ((parted comparisons_rise).1 k account least within)) in
                omega (arith, above, is_player)
                )
          ] refl;
    }

  -- ---- points more

  module _ (gains : List ℕ) (gain : ℕ → ℕ) (player points : ℕ) (are : AreGains gain accounts gains) where
    abbrev most : ℕ
    most = 2 ^ 64 - 1

    abbrev gain_then : ℕ → ℕ
    gain_then other = gain other + (if player == other then points else 0)

    abbrev before : Account → ℕ
    before account = min most (gain account.player)

    abbrev after : Account → ℕ
    after account = min most (gain_then account.player)

    read_before : (k : ℕ) → slice_get gains k ≡ option_map before (slice_get accounts k)
    read_before k = ap (λ (list : List ℕ). slice_get list k) are ∙ slice_get-map before accounts k

    stays : (account : Account) → (if player == account.player then points else 0) ≡ 0 → before account ≡ after account
    stays account none = ap (min most) (omega (arith, none))

    -- where no account gets some
    stays_at : (k : ℕ) → ((account : Account) → slice_get accounts k ≡ Some account → (if player == account.player then points else 0) ≡ 0) → slice_get gains k ≡ option_map after (slice_get accounts k)
    stays_at k none = read_before k ∙ as_found (slice_get accounts k) refl
      where
        as_found : (found : Option Account) → slice_get accounts k ≡ found → option_map before found ≡ option_map after found
        as_found None is = refl
        as_found (Some account) is = ap Some (stays account (none account is))

    pub added_nothing : points ≡ 0 → AreGains gain_then accounts gains
    added_nothing nothing = same_lists gains (map after accounts) (λ k. stays_at k (λ account at. zeroth (player == account.player)) ∙ sym (slice_get-map after accounts k))
      where
        zeroth : (b : Bool) → (if b then points else 0) ≡ 0
        zeroth true = nothing
        zeroth false = refl

    other_account : (account : Account) → (account.player ≡ player → ⊥) → (if player == account.player then points else 0) ≡ 0
    other_account account differ = elim (player == account.player) as (λ b. (player == account.player) ≡ b → (if b then points else 0) ≡ 0) [
      | true ↦ λ is. absurd (differ (sym (eqb-true player account.player is)))
      | false ↦ λ is. refl
    ] refl

    pub added_to_none : HasNoAccount accounts player → AreGains gain_then accounts gains
    added_to_none none = same_lists gains (map after accounts) (λ k. stays_at k (λ account at. other_account account (none k account at)) ∙ sym (slice_get-map after accounts k))

    module _ (i : ℕ) (place : IsPlaceOf accounts player i) (x : ℕ) (now : slice_get gains i ≡ Some x) where
      abbrev sum : ℕ
      sum = min most (x + points)

      capped : (m n : ℕ) → min most (min most m + n) ≡ min most (m + n)
      capped m n = omega arith

      here : (account : Account) → slice_get accounts i ≡ Some account → sum ≡ after account
      here account at =
          let was : Some x ≡ Some (before account) = sym now ∙ read_before i ∙ ap (option_map before) at in
          let is : x ≡ before account = cc in
          ap (λ (n : ℕ). min most (n + points)) is
          ∙ capped (gain account.player) points
          ∙ ap (λ (b : Bool). min most (gain account.player + (if b then points else 0))) (sym (eq-eqb player account.player (sym (place.own account at))))

      at_place : (k : ℕ) → cond (k == i) (Some sum) (slice_get gains k) ≡ option_map after (slice_get accounts k)
      at_place k = elim (k == i) as (λ b. (k == i) ≡ b → cond b (Some sum) (slice_get gains k) ≡ option_map after (slice_get accounts k)) [
        | true ↦ λ is.
            let there = slice_get-get_or accounts i (first_of accounts place.inside) place.inside in
            ap Some (here _ there) ∙ ap (option_map after) (sym there) ∙ ap (λ (n : ℕ). option_map after (slice_get accounts n)) (sym (eqb-true k i is))
        | false ↦ λ is. stays_at k (λ account at. other_account account (λ same.
            let d = first_of accounts place.inside in
            let there = slice_get-get_or accounts i d place.inside in
            apart i k (get_or accounts i d) account there at (eqb-false k i is) (place.own _ there ∙ sym same)))
      ] refl
        where
          first_of : (list : List Account) → i < length list → Account
          first_of [] within = absurd (omega arith)
          first_of (account ∷ list) within = account

      pub added_at : AreGains gain_then accounts (set gains i sum)
      added_at = same_lists (set gains i sum) (map after accounts) (λ k. get_set gains i k sum (slice_get_within gains i x now) ∙ at_place k ∙ sym (slice_get-map after accounts k))

-- ---- along the entries

one_more : (player : ℕ) (gains one : List Gain) → points_of player (gains ++ one) ≡ points_of player gains + points_of player one
one_more player gains one = sum_by-append (λ (gain : Gain). if gain.player == player then gain.points else 0) gains one

one_points : (player : ℕ) (gain : Gain) → points_of player (gain ∷ []) ≡ (if gain.player == player then gain.points else 0)
one_points player gain = omega (arith, sum_by-cons (λ (gain : Gain). if gain.player == player then gain.points else 0) gain [])

module _ (stored : Stored) (sound : IsSound stored) (done : List Entry) (entry : Entry) (later : List Entry) (rooms : List Room) (acted : IsActed stored done (entry ∷ later) rooms) where
  abbrev world : World
  world = world_of (record stored { rooms = rooms })

  abbrev one_gain : List Gain
  one_gain = gain_entered entry.intent world (Some entry.room)

  pushed_gains : gains_entered (world_of stored) (map placed (done ++ entry ∷ [])) ≡ gains_entered (world_of stored) (map placed done) ++ one_gain
  pushed_gains =
      ap (gains_entered (world_of stored)) (map_push placed done entry)
      ∙ gains_append (world_of stored) (map placed done) (placed entry ∷ [])
      ∙ ap (λ (w : World). gains_entered (world_of stored) (map placed done) ++ (gain_entered entry.intent w (Some entry.room) ++ [])) (sym acted.same)
      ∙ ap (λ (one : List Gain). gains_entered (world_of stored) (map placed done) ++ one) (append-nil one_gain)

  abbrev gain_of : RoomPart → Gain
  gain_of part = record { room = entry.room; player = entry.intent.player; points = (book.effect entry.intent part).points }

  abbrev given : ℕ → ℕ → ℕ
  given points player = if entry.intent.player == player then points else 0

  module _ (points : ℕ) (new : List Room) where
    points_found : (found : Option Room) → slice_get rooms entry.room ≡ found → IsRuledIn found entry.room entry.intent points rooms new → (player : ℕ) → points_of player one_gain ≡ given points player
    points_found None at stays player =
        let none : part_at world entry.room ≡ None = ap (option_map (part_of world entry.room)) (frame_stored (record stored { rooms = rooms }) entry.room ∙ ap frame_at at) in
        ap (λ (found : Option RoomPart). points_of player (option_to_list (option_map gain_of found))) none
        ∙ sym (zeroth (entry.intent.player == player))
      where
        zeroth : (b : Bool) → (if b then points else 0) ≡ 0
        zeroth true = stays.1
        zeroth false = refl
    points_found (Some room) at ruled player =
        let here : part_at world entry.room ≡ Some (part_stored room) = part_of_stored stored sound rooms (is_player (world_of stored)) acted.follow entry.room room at in
        ap (λ (found : Option RoomPart). points_of player (option_to_list (option_map gain_of found))) here
        ∙ one_points player (gain_of (part_stored room))
        ∙ ap (λ (n : ℕ). given n player) (sym (ruled.3 room.terrain))

    points_more : IsRuledIn (slice_get rooms entry.room) entry.room entry.intent points rooms new → (player : ℕ)
        → points_entered (world_of stored) (map placed (done ++ entry ∷ [])) player ≡ points_entered (world_of stored) (map placed done) player + given points player
    points_more ruled player =
        ap (points_of player) pushed_gains
        ∙ one_more player (gains_entered (world_of stored) (map placed done)) one_gain
        ∙ ap (λ (n : ℕ). points_entered (world_of stored) (map placed done) player + n) (points_found (slice_get rooms entry.room) refl ruled player)

    -- what is beside the accounts after one entry more
    pub gained_more : IsRuledIn (slice_get rooms entry.room) entry.room entry.intent points rooms new → (gains : List ℕ)
        → AreGains (λ player. points_entered (world_of stored) (map placed done) player + given points player) stored.accounts gains
        → AreGains (points_entered (world_of stored) (map placed (done ++ entry ∷ []))) stored.accounts gains
    gained_more ruled gains are = are ∙ (λ i. map (λ (account : Account). min (2 ^ 64 - 1) (sym (points_more ruled account.player) i)) stored.accounts)

-- before the first entry
pub gained_first : (accounts : List Account) → AreGains (λ player. 0) accounts (replicate (length accounts) 0)
gained_first [] = refl
gained_first (account ∷ accounts) = ap (λ (rest : List ℕ). 0 ∷ rest) (gained_first accounts)

-- after all
pub gained_all : (stored : Stored) → IsSound stored → (entries : List Entry) (i : ℕ) (gains : List ℕ) → length entries ≤ i
    → AreGains (points_entered (world_of stored) (map placed (take i entries))) stored.accounts gains → (list : List Intent) → AreKept (world_of stored) list entries
    → AreGains (gained book (world_of stored) list) stored.accounts gains
gained_all stored sound entries i gains past are list kept =
    let world : World = world_of stored in
    let same : (player : ℕ) → points_entered world (map placed (take i entries)) player ≡ gained book world list player = λ player.
    ap (points_of player) (ap (gains_entered world) (ap (map placed) (take_all i entries past) ∙ kept) ∙ sym (acted_enters stored sound list).gains) in
    are ∙ (λ j. map (λ (account : Account). min (2 ^ 64 - 1) (same account.player j)) stored.accounts)

-- along the entries by their places
pub gained_then : (stored : Stored) (entries : List Entry) (i : ℕ) (entry : Entry) (gains : List ℕ) → i < length entries → entry ≡ get_or entries i entry → AreGains (points_entered (world_of stored) (map placed (take i entries ++ entry ∷ []))) stored.accounts gains
    → AreGains (points_entered (world_of stored) (map placed (take (i + 1) entries))) stored.accounts gains
gained_then stored entries i entry gains inside is are =
    subst (λ (done : List Entry). AreGains (points_entered (world_of stored) (map placed done)) stored.accounts gains) (ap (λ (e : Entry). take i entries ++ e ∷ []) is ∙ sym (take_more entries i entry inside)) are
