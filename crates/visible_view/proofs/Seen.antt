-- What is gathered, and the objects of the rooms that are flagged, are what the player sees of the world.
use Rattle.std.proofs.Common.{Less, Equal, Greater, ◌≡◌, ℕ, zero, suc, ◌+◌, ◌<◌, ◌≤◌, ◌==◌, ◌&&◌, ◌||◌, Bool, true, false, cond, if◌then◌else◌, T, List, [], ◌∷◌, ◌++◌, map, length, get_or, Some, None, option_map, refl, sym, ap, subst, ◌∙◌, arith}
use Rattle.std.specs.Prelude.{slice_get}
use Rattle.std.specs.List.{AllByRecursion, Contains, count_by, filter, list_any, sum_by}
use Rattle.std.specs.List.Sorted.{IsPermutation}
use Rattle.std.specs.declared.cmp.Ordering.{Ordering}
use Rattle.std.specs.Ordering.{nat_cmp, is_eq, is_lt}
use Rattle.std.specs.Cmp.{nat_cmp_total, ranked}
use Rattle.std.specs.FinMap.{find, empty, from_entries, entries, entries-insert, get-entries, get-from_entries, is_sorted, len-empty, len-entries}
use Rattle.std.specs.FinMap.Entries.{by_order, put, below_all}
use Rattle.std.proofs.lemmas.Bool.{eq-eqb, ne_eqb}
use Rattle.std.proofs.lemmas.List.{length-map, nil_from_length}
use Rattle.std.proofs.lemmas.List.Folds.{list_any-append}
use Rattle.std.proofs.lemmas.List.Sums.{sum_by-append, sum_by-cons}
use Rattle.std.proofs.lemmas.List.Sorted.{IsPermutation-cons, IsPermutation-middle, IsPermutation-refl, IsPermutation-trans, length_permutation, list_any-IsPermutation, sum_by-IsPermutation}
use Rattle.object_store.specs.declared.account.Account.{Account}
use Rattle.room_table.specs.declared.object.Object.{Object}
use Rattle.object_store.specs.declared.world.Room.{Room}
use Rattle.object_store.specs.Stored.{Stored}
use Rattle.room_table.proofs.Rising.{Rises}
use Rattle.room_table.specs.declared.standing.Standing.{Standing}
use Rattle.world_rules.specs.World.{Placed, World, shown, placed, placed_from, listed_room, listing_of, world_of, framed_from}
use Rattle.world_rules.proofs.Lifting.{frames_stored}
use Rattle.world_rules.specs.Rules.{Stands}
use Rattle.world_rules.specs.Sound.{IsSound}
use Rattle.world_rules.proofs.Entries.{Entries, times, times_cons, no_times}
use Rattle.world_rules.proofs.Same.{once}
use Rattle.world_rules.specs.Sights.{gives_sight}
use Rattle.visible_view.specs.Sights.{SeenRoom, Sight, sight_of, sees_room, seen_rooms, seen_objects, site_count}
use Rattle.world_roster.specs.Rosters.{shown_entry}
use Rattle.world_roster.proofs.Known.{find_as}
use Rattle.visible_view.specs.inner.Gathered.{shown_room, controllers_at, is_controller_of, is_flagged, is_seen, is_site_of, from_each, room_if_seen, sites_at}
use Rattle.visible_view.specs.declared.gather.RoomInView.{RoomInView}
use Rattle.room_table.proofs.Moved.{all_from_within, find_only}
use Rattle.game_tables.specs.Kinds.{is_building, is_controller, is_creep}

-- ---- the entries of a map that is made of entries whose keys stand once

put_moved : (k : ℕ) (p : Placed) (es : Entries) → find nat_cmp k es ≡ None → IsPermutation ((k, p) ∷ es) (put nat_cmp k p es)
put_moved k p [] none = IsPermutation-refl ((k, p) ∷ [])
put_moved k p (e ∷ es) none =
    elim (nat_cmp k e.0) as (λ (r : Ordering). cond (is_eq r) (Some e.1) (find nat_cmp k es) ≡ None → IsPermutation ((k, p) ∷ e ∷ es) (by_order r ((k, p) ∷ e ∷ es) ((e.0, p) ∷ es) (e ∷ put nat_cmp k p es))) [
      | Less ↦ λ is. IsPermutation-refl ((k, p) ∷ e ∷ es)
      | Equal ↦ λ is. absurd (cc)
      | Greater ↦ λ is. IsPermutation-trans ((k, p) ∷ e ∷ es) (e ∷ (k, p) ∷ es) (e ∷ put nat_cmp k p es) (IsPermutation-middle ((k, p) ∷ []) e es) (IsPermutation-cons e ((k, p) ∷ es) (put nat_cmp k p es) (put_moved k p es is))
    ] none

no_entries : entries (empty {X = Placed} {R = nat_cmp}) ≡ []
no_entries = nil_from_length (entries (empty {X = Placed} {R = nat_cmp})) (sym (len-entries (empty {X = Placed} {R = nat_cmp})) ∙ len-empty nat_cmp Placed)

entries_moved : (es : Entries) → ((q : ℕ) → times q es ≤ 1) → IsPermutation es (entries (from_entries {R = nat_cmp} es))
entries_moved [] few = subst (IsPermutation []) (sym no_entries) (IsPermutation-refl [])
entries_moved (e ∷ es) few =
    let rest = entries_moved es (λ q. let all = times_cons q e es in let one : times q (e ∷ es) ≤ 1 = few q in omega arith) in
    let one : times e.0 (e ∷ es) ≤ 1 = few e.0 in
    let all = times_cons e.0 e es in
    let here : cond {A = ℕ} (e.0 == e.0) 1 0 ≡ 1 = ap (λ (b : Bool). cond {A = ℕ} b 1 0) (eq-eqb e.0 e.0 refl) in
    let none : find nat_cmp e.0 es ≡ None = no_times e.0 es (omega arith) in
    let absent : find nat_cmp e.0 (entries (from_entries {R = nat_cmp} es)) ≡ None = sym (get-entries (from_entries {R = nat_cmp} es) e.0) ∙ get-from_entries nat_cmp_total es e.0 ∙ none in
    subst (IsPermutation (e ∷ es)) (sym (entries-insert nat_cmp_total (from_entries es) e.0 e.1))
    (IsPermutation-trans (e ∷ es) (e ∷ entries (from_entries {R = nat_cmp} es)) (put nat_cmp e.0 e.1 (entries (from_entries {R = nat_cmp} es))) (IsPermutation-cons e es (entries (from_entries {R = nat_cmp} es)) rest) (put_moved e.0 e.1 (entries (from_entries {R = nat_cmp} es)) absent))

-- ---- which rooms are seen

abbrev pub entry_at : ℕ → Object → ℕ × Placed
entry_at index object = (object.id, record { room = index; object = object })

abbrev sees : ℕ → ℕ → ℕ × Placed → Bool
sees player r entry = (entry.1.room == r) && gives_sight player entry.1.object

any_here : (player r index : ℕ) (b : Bool) → (index == r) ≡ b → (objects : List Object) → list_any (sees player r) (map (entry_at index) objects) ≡ (b && list_any (gives_sight player) objects)
any_here player r index true is [] = refl
any_here player r index false is [] = refl
any_here player r index true is (object ∷ objects) =
    ap (λ (b : Bool). (b && gives_sight player object) || list_any (sees player r) (map (entry_at index) objects)) is ∙ ap (λ (b : Bool). gives_sight player object || b) (any_here player r index true is objects)
any_here player r index false is (object ∷ objects) =
    ap (λ (b : Bool). (b && gives_sight player object) || list_any (sees player r) (map (entry_at index) objects)) is ∙ any_here player r index false is objects

any_later : (player r index : ℕ) (rooms : List Room) → r < index → list_any (sees player r) (placed_from index (map listed_room rooms)) ≡ false
any_later player r index [] less = refl
any_later player r index (room ∷ rooms) less =
    list_any-append (sees player r) (map (entry_at index) room.table.objects) (placed_from (suc index) (map listed_room rooms))
    ∙ (λ i. any_here player r index false (ne_eqb index r (λ same. omega arith)) room.table.objects i || any_later player r (suc index) rooms (omega arith) i)

or_false : (b : Bool) → (b || false) ≡ b
or_false true = refl
or_false false = refl

sees_stored : (player r index k : ℕ) (rooms : List Room) (room : Room) → r ≡ index + k → slice_get rooms k ≡ Some room → list_any (sees player r) (placed_from index (map listed_room rooms)) ≡ is_seen player room
sees_stored player r index k [] room at is = absurd (cc)
sees_stored player r index zero (first ∷ rooms) room at is =
    let same : first ≡ room = cc in
    list_any-append (sees player r) (map (entry_at index) first.table.objects) (placed_from (suc index) (map listed_room rooms))
    ∙ (λ i. any_here player r index true (eq-eqb index r (omega arith)) first.table.objects i || any_later player r (suc index) rooms (omega arith) i)
    ∙ or_false (is_seen player first)
    ∙ ap (is_seen player) same
sees_stored player r index (suc k) (first ∷ rooms) room at is =
    list_any-append (sees player r) (map (entry_at index) first.table.objects) (placed_from (suc index) (map listed_room rooms))
    ∙ (λ i. any_here player r index false (ne_eqb index r (λ same. omega arith)) first.table.objects i || sees_stored player r (suc index) k rooms room (omega arith) is i)

-- which room is seen, by its index
flag_as : (player r index : ℕ) (rooms : List Room) → get_or (map (is_seen player) rooms) r false ≡ list_any (sees player (index + r)) (placed_from index (map listed_room rooms))
flag_as player r index [] = refl
flag_as player zero index (room ∷ rooms) = sym (sees_stored player (index + 0) index 0 (room ∷ rooms) room refl refl)
flag_as player (suc r) index (room ∷ rooms) =
    let place : suc index + r ≡ index + suc r = omega arith in
    flag_as player r (suc index) rooms
    ∙ ap (λ (n : ℕ). list_any (sees player n) (placed_from (suc index) (map listed_room rooms))) place
    ∙ sym (list_any-append (sees player (index + suc r)) (map (entry_at index) room.table.objects) (placed_from (suc index) (map listed_room rooms))
    ∙ ap (λ (b : Bool). b || list_any (sees player (index + suc r)) (placed_from (suc index) (map listed_room rooms))) (any_here player (index + suc r) index false (ne_eqb index (index + suc r) (λ same. omega arith)) room.table.objects))

-- ---- rooms, sites and objects, room by room

-- what is told of each room from an index on
abbrev pub Tells : (ℕ → Bool) → ℕ → ℕ → List Room → Type 0
Tells seen player index rooms = (k : ℕ) (room : Room) → slice_get rooms k ≡ Some room → seen (index + k) ≡ is_seen player room

first_told : (seen : ℕ → Bool) (player index : ℕ) (room : Room) (rooms : List Room) → Tells seen player index (room ∷ rooms) → seen index ≡ is_seen player room
first_told seen player index room rooms tells = ap seen (let place : index ≡ index + 0 = omega arith in place) ∙ tells 0 room refl

later_told : (seen : ℕ → Bool) (player index : ℕ) (room : Room) (rooms : List Room) → Tells seen player index (room ∷ rooms) → Tells seen player (suc index) rooms
later_told seen player index room rooms tells k r is = ap seen (let place : suc index + k ≡ index + suc k = omega arith in place) ∙ tells (suc k) r is

rooms_stored : (world : World) (player index : ℕ) (rooms : List Room) → Tells (sees_room world player) player index rooms → seen_rooms world player (framed_from index (map listed_room rooms)) ≡ from_each (room_if_seen player) index rooms
rooms_stored world player index [] tells = refl
rooms_stored world player index (room ∷ rooms) tells =
    let rest = rooms_stored world player (suc index) rooms (later_told (sees_room world player) player index room rooms tells) in
    let shown : SeenRoom = record { index = index; name = room.name; grounds = room.terrain } in
    ap (λ (b : Bool). if b then shown ∷ seen_rooms world player (framed_from (suc index) (map listed_room rooms)) else seen_rooms world player (framed_from (suc index) (map listed_room rooms))) (first_told (sees_room world player) player index room rooms tells)
    ∙ ap (λ (more : List SeenRoom). if is_seen player room then shown ∷ more else more) rest
    ∙ elim (is_seen player room) as (λ b. (if b then shown ∷ from_each (room_if_seen player) (suc index) rooms else from_each (room_if_seen player) (suc index) rooms) ≡ (if b then shown ∷ [] else []) ++ from_each (room_if_seen player) (suc index) rooms) [ true ↦ refl | false ↦ refl ]

module _ (counts : Object → Bool) where
  abbrev pub counts_entry : ℕ × Placed → Bool
  counts_entry entry = counts entry.1.object

  abbrev pub counted_at : Room → ℕ
  counted_at room = count_by counts room.table.objects

  counted_here : (index : ℕ) (objects : List Object) → count_by counts_entry (map (entry_at index) objects) ≡ count_by counts objects
  counted_here index [] = refl
  counted_here index (object ∷ objects) =
      sum_by-cons (λ e. cond {A = ℕ} (counts_entry e) 1 0) (entry_at index object) (map (entry_at index) objects)
      ∙ ap (λ (n : ℕ). cond {A = ℕ} (counts object) 1 0 + n) (counted_here index objects)
      ∙ sym (sum_by-cons (λ o. cond {A = ℕ} (counts o) 1 0) object objects)

  pub counted_stored : (index : ℕ) (rooms : List Room) → count_by counts_entry (placed_from index (map listed_room rooms)) ≡ sum_by counted_at rooms
  counted_stored index [] = refl
  counted_stored index (room ∷ rooms) =
      sum_by-append (λ e. cond {A = ℕ} (counts_entry e) 1 0) (map (entry_at index) room.table.objects) (placed_from (suc index) (map listed_room rooms))
      ∙ (λ i. counted_here index room.table.objects i + counted_stored (suc index) rooms i)
      ∙ sym (sum_by-cons counted_at room rooms)

  -- Among the objects of rooms that are seen all are counted, where they stand in such rooms alone.
  counted_seen : (seen : ℕ → Bool) (es : Entries) → AllByRecursion (λ e. counts_entry e ≡ true → seen e.1.room ≡ true) es
      → count_by (λ (p : Placed). counts p.object) (map (λ (e : ℕ × Placed). e.1) (filter (λ (e : ℕ × Placed). seen e.1.room) es)) ≡ count_by counts_entry es
  counted_seen seen [] all = refl
  counted_seen seen (e ∷ es) all =
      let later : List Placed = map (λ (f : ℕ × Placed). f.1) (filter (λ (f : ℕ × Placed). seen f.1.room) es) in
      let rest : count_by (λ (p : Placed). counts p.object) later ≡ count_by counts_entry es = counted_seen seen es all.1 in
      let here = sum_by-cons (λ e. cond {A = ℕ} (counts_entry e) 1 0) e es in
      elim (seen e.1.room) as (λ b. (counts e.1.object ≡ true → b ≡ true) → count_by (λ (p : Placed). counts p.object) (map (λ (f : ℕ × Placed). f.1) (cond b (e ∷ filter (λ (f : ℕ × Placed). seen f.1.room) es) (filter (λ (f : ℕ × Placed). seen f.1.room) es))) ≡ count_by counts_entry (e ∷ es)) [
        | true ↦ λ holds. sum_by-cons (λ (p : Placed). cond {A = ℕ} (counts p.object) 1 0) e.1 later ∙ ap (λ (n : ℕ). cond {A = ℕ} (counts e.1.object) 1 0 + n) rest ∙ sym here
        | false ↦ λ holds. rest ∙ none_here (counts e.1.object) (count_by counts_entry es) holds ∙ sym here
      ] all.0
    where
      none_here : (b : Bool) (n : ℕ) → (b ≡ true → false ≡ true) → n ≡ cond {A = ℕ} b 1 0 + n
      none_here true n holds = let not : false ≡ true = holds refl in absurd (cc)
      none_here false n holds = omega arith

any_within : {X : Type 0} (test : X → Bool) (xs : List X) (x : X) → Contains xs x → test x ≡ true → list_any test xs ≡ true
any_within test xs x within passes = any_at test xs within.0 x within.1 (ap test within.2 ∙ passes)
  where
    any_at : {X : Type 0} (test : X → Bool) (xs : List X) (k : ℕ) (x : X) → k < length xs → test (get_or xs k x) ≡ true → list_any test xs ≡ true
    any_at test [] k x within passes = absurd (omega arith)
    any_at test (first ∷ xs) zero x within passes = ap (λ (b : Bool). b || list_any test xs) passes
    any_at test (first ∷ xs) (suc k) x within passes = ap (λ (b : Bool). test first || b) (any_at test xs k x (omega arith) passes) ∙ or_true (test first)
      where
        or_true : (b : Bool) → (b || true) ≡ true
        or_true true = refl
        or_true false = refl

-- ---- entries that rise

pub both : (a b : Bool) → T (a && b) → T a × T b
both true b h = (tt, h)
both false b h = absurd h

is_less : (r : Ordering) → T (is_lt r) → r ≡ Less
is_less Less h = refl
is_less Equal h = absurd h
is_less Greater h = absurd h

below_from_sorted : (n : ℕ) (es : Entries) → T (below_all nat_cmp n es) → AllByRecursion (λ e. n < e.0) es
below_from_sorted n [] below = tt
below_from_sorted n (e ∷ es) below = let parts = both _ _ below in (ranked n e.0 Less (sym (is_less (nat_cmp n e.0) parts.0)), below_from_sorted n es parts.1)

pub rises_from_sorted : (es : Entries) → T (is_sorted nat_cmp es) → Rises (λ e. e.0) es
rises_from_sorted [] sorted = tt
rises_from_sorted (e ∷ es) sorted = let parts = both _ _ sorted in (below_from_sorted e.0 es parts.0, rises_from_sorted es parts.1)

-- ---- objects in rising id, and their entries

filter_shown : (seen : ℕ → Bool) (listed : List Standing) → map shown (filter (λ s. seen s.room) listed) ≡ map (λ (e : ℕ × Placed). e.1) (filter (λ (e : ℕ × Placed). seen e.1.room) (map shown_entry listed))
filter_shown seen [] = refl
filter_shown seen (s ∷ listed) =
    let rest = filter_shown seen listed in
    elim (seen s.room) as (λ b. map shown (cond b (s ∷ filter (λ s. seen s.room) listed) (filter (λ s. seen s.room) listed)) ≡ map (λ (e : ℕ × Placed). e.1) (cond b (shown_entry s ∷ filter (λ (e : ℕ × Placed). seen e.1.room) (map shown_entry listed)) (filter (λ (e : ℕ × Placed). seen e.1.room) (map shown_entry listed)))) [ true ↦ ap (λ (ps : List Placed). shown s ∷ ps) rest | false ↦ rest ]

-- ---- a sound world

module _ (stored : Stored) (sound : IsSound stored) where
  abbrev pub all : Entries
  all = placed (listing_of stored)

  abbrev pub world : World
  world = world_of stored

  pub moved : IsPermutation all (entries world.objects)
  moved = entries_moved all (once stored sound)

  pub stands : (e : ℕ × Placed) → Contains all e → Stands world e.0 e.1
  stands e within =
      get-from_entries nat_cmp_total all e.0
      ∙ find_as e.0 all
      ∙ ap (option_map (λ (f : ℕ × Placed). f.1)) (find_only (λ (f : ℕ × Placed). f.0 == e.0) all e within (eq-eqb e.0 e.0 refl) (once stored sound e.0))

  module _ (player : ℕ) where
    -- which room is seen, by its index
    seen_by_index : (index : ℕ) → get_or (map (is_seen player) stored.rooms) index false ≡ sees_room world player index
    seen_by_index index =
        flag_as player index 0 stored.rooms
        ∙ ap (λ (n : ℕ). list_any (sees player n) all) (let same : 0 + index ≡ index = omega arith in same)
        ∙ list_any-IsPermutation (sees player index) all (entries world.objects) moved

    pub told : Tells (sees_room world player) player 0 stored.rooms
    told k room is =
        let place : k ≡ 0 + k = omega arith in
        ap (sees_room world player) (sym place)
        ∙ sym (list_any-IsPermutation (sees player k) all (entries world.objects) moved)
        ∙ sees_stored player k 0 k stored.rooms room place is

    pub rooms_seen : seen_rooms world player (entries world.rooms) ≡ from_each (room_if_seen player) 0 stored.rooms
    rooms_seen = ap (seen_rooms world player) (frames_stored stored) ∙ rooms_stored world player 0 stored.rooms told

    pub sites_seen : site_count world player ≡ sum_by (sites_at player) stored.rooms
    sites_seen = sum_by-IsPermutation (λ e. cond {A = ℕ} (counts_entry (is_site_of player) e) 1 0) all (entries world.objects) moved ∙ counted_stored (is_site_of player) 0 stored.rooms

    -- Where the player owns a controller he sees.
    owned_seen : (e : ℕ × Placed) → Contains (entries world.objects) e → is_controller_of player e.1.object ≡ true → sees_room world player e.1.room ≡ true
    owned_seen e within owned = any_within (sees player e.1.room) (entries world.objects) e within (gives e.1.room e.1.object owned)
      where
        own : (b c d : Bool) → (b && c) ≡ true → (c && (d || b)) ≡ true
        own true true true is = refl
        own true true false is = refl
        own true false d is = absurd (cc)
        own false c d is = absurd (cc)

        gives : (room : ℕ) (object : Object) → is_controller_of player object ≡ true → ((room == room) && gives_sight player object) ≡ true
        gives room object owned = ap (λ (b : Bool). b && gives_sight player object) (eq-eqb room room refl) ∙ own (is_controller object.kind) (object.owner == player) (is_creep object.kind || is_building object.kind) owned

    abbrev in_sight : ℕ × Placed → Bool
    in_sight e = sees_room world player e.1.room

    module _ (listed : List Standing) (are : map shown_entry listed ≡ entries world.objects) where
      pub listed_few : length listed ≡ length all
      listed_few = omega (arith, ap length are, length-map listed shown_entry, length_permutation _ _ moved)

      module _ (objects : List Placed) (is : objects ≡ map shown (filter (is_flagged (map (is_seen player) stored.rooms)) listed)) where
        in_view : objects ≡ map shown (filter (λ s. sees_room world player s.room) listed)
        in_view = is ∙ (λ i. map shown (filter (λ s. seen_by_index s.room i) listed))

        pub objects_seen : objects ≡ seen_objects world player
        objects_seen = in_view ∙ filter_shown (sees_room world player) listed ∙ ap (λ (es : Entries). map (λ (e : ℕ × Placed). e.1) (filter in_sight es)) are

        pub controllers_seen : count_by (λ (p : Placed). is_controller_of player p.object) objects ≡ sum_by (controllers_at player) stored.rooms
        controllers_seen =
            ap (count_by (λ (p : Placed). is_controller_of player p.object)) objects_seen
            ∙ counted_seen (is_controller_of player) (sees_room world player) (entries world.objects) (all_from_within (λ e. is_controller_of player e.1.object ≡ true → sees_room world player e.1.room ≡ true) (entries world.objects) owned_seen)
            ∙ sum_by-IsPermutation (λ e. cond {A = ℕ} (counts_entry (is_controller_of player) e) 1 0) all (entries world.objects) moved
            ∙ counted_stored (is_controller_of player) 0 stored.rooms

        -- what is in view is the player's sight
        pub sight_seen : (account : Account) → account.player ≡ player → (rooms : List RoomInView) (sites : ℕ) → map shown_room rooms ≡ from_each (room_if_seen player) 0 stored.rooms → sites ≡ sum_by (sites_at player) stored.rooms
            → ◌≡◌ {A = Sight} (record { tick = stored.tick; account = account; sites = sites; rooms = map shown_room rooms; objects = objects }) (sight_of world account)
        sight_seen account mine rooms sites rooms_are sites_are =
            let sites_told = sites_are ∙ sym sites_seen ∙ ap (site_count world) (sym mine) in
            let rooms_told = rooms_are ∙ sym rooms_seen ∙ ap (λ (n : ℕ). seen_rooms world n (entries world.rooms)) (sym mine) in
            let objects_told = objects_seen ∙ ap (seen_objects world) (sym mine) in
            λ i. record { tick = stored.tick; account = account; sites = sites_told i; rooms = rooms_told i; objects = objects_told i }
