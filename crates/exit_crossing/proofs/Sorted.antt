-- The sorted crossers of all rooms are the crossers of the world.
use Rattle.std.proofs.Common.{◌≡◌, ℕ, suc, ◌+◌, ◌<◌, ◌≤◌, ◌==◌, ◌&&◌, ◌||◌, if◌then◌else◌, inl, inr, Equal, Greater, nat_lt, Bool, true, false, cond, T, List, [], ◌∷◌, ◌++◌, map, Some, None, refl, sym, ap, subst, ◌∙◌, option_map, option_and_then, arith, slice_get}
use Rattle.std.specs.List.{AllPairs, AllByRecursion, Contains, count_by, filter}
use Rattle.std.specs.List.Sorted.{IsPermutation, IsNonDecreasingBy}
use Rattle.std.specs.Ordering.{nat_cmp, is_lt}
use Rattle.std.specs.Cmp.{nat_cmp_is, unsigned_tied}
use Rattle.std.specs.FinMap.{find, entries, entries_sorted, get-entries, is_sorted}
use Rattle.std.specs.FinMap.Entries.{below_all}
use Rattle.std.proofs.lemmas.Bool.{eq-eqb, eqb-true, eqb-false, ne_eqb, ltb-true, ltb-false, and_parts}
use Rattle.std.proofs.lemmas.Option.{slice_get-map}
use Rattle.std.proofs.lemmas.List.Elements.{Contains-append_cases, All-from_recursion}
use Rattle.std.proofs.lemmas.List.Kept.{AllPairs-cons}
use Rattle.std.proofs.lemmas.List.Sorted.{IsPermutation-sym, Contains-permutation, sum_by-IsPermutation}
use Rattle.game_tables.specs.Kinds.{is_creep}
use Rattle.room_table.specs.declared.object.Object.{Object}
use Rattle.object_store.specs.declared.world.Room.{Room}
use Rattle.object_store.specs.Stored.{Stored, HaveRisingTables}
use Rattle.room_table.specs.Tables.{IsRising, find_object}
use Rattle.room_table.proofs.Rising.{Rises, rises-filter}
use Rattle.room_table.proofs.Moved.{Contains-head, Contains-later, first_or_later, none_within, all_from_within, Contains-filter, Contains-from_filter, count_head, strictly}
use Rattle.world_rules.specs.World.{Placed, world_of}
use Rattle.world_rules.specs.Crossings.{is_crosser, is_edge, still, crossers as crossers_in_world}
use Rattle.world_rules.proofs.Keys.{AreKeysOnce, once_of_sorted}
use Rattle.exit_crossing.specs.Crossing.{AreIdsApart, AreCrossers, IsCreepOf, crosser_in, crossers_of, rested_room}
use Rattle.exit_crossing.specs.declared.leaving.Crosser.{Crosser}
use Rattle.exit_crossing.specs.inner.Leaving.{id_of, crossers_among}
use Rattle.exit_crossing.proofs.Found.{stands, is_placed, room_of}
use Rattle.exit_crossing.proofs.Resting.{same_id}
use Rattle.exit_crossing.proofs.Members.{RisesN, within_all, same_numbers, from_mapped, to_mapped, from_among, to_among, rising_in, InTable, in_table, from_table}

-- ---- crossers of ids that are apart

AreApart : List Crosser → Type 0
AreApart [] = Unit {0}
AreApart (one ∷ later) = AllByRecursion (λ (other : Crosser). other.id ≡ one.id → ⊥) later × AreApart later

apart_append : (xs ys : List Crosser) → AreApart xs → AreApart ys → ((x y : Crosser) → Contains xs x → Contains ys y → y.id ≡ x.id → ⊥) → AreApart (xs ++ ys)
unfolding AreApart
apart_append [] ys one other between = other
apart_append (x ∷ xs) ys one other between = (
  all_from_within (λ (c : Crosser). c.id ≡ x.id → ⊥) (xs ++ ys) (λ c within. elim (Contains-append_cases xs ys c within) [
    | inl here ↦ within_all (λ (d : Crosser). d.id ≡ x.id → ⊥) xs c one.0 here
    | inr later ↦ between x c (Contains-head x xs) later
  ]),
  apart_append xs ys one.1 other (λ c d here there. between c d (Contains-later x xs c here) there),
)

apart_table : (index : ℕ) (objects : List Object) → IsRising objects → AreApart (map (crosser_in index) (filter is_crosser objects))
unfolding AreApart
apart_table index [] rise = tt
apart_table index (object ∷ objects) rise =
    let rest = apart_table index objects rise.1 in
    elim (is_crosser object) as (λ b. AreApart (map (crosser_in index) (cond b (object ∷ filter is_crosser objects) (filter is_crosser objects)))) [
      | true ↦ (
        all_from_within (λ (c : Crosser). c.id ≡ object.id → ⊥) (map (crosser_in index) (filter is_crosser objects)) (λ c within same.
            let from = from_mapped (crosser_in index) (filter is_crosser objects) c within in
            let kept = Contains-from_filter is_crosser objects from.0 from.1 in
            let less = within_all (λ (o : Object). object.id < o.id) objects from.0 rise.0 kept.0 in
            let id : from.0.id ≡ c.id = ap (λ (one : Crosser). one.id) from.2 in
            omega (arith, less, id, same)),
        rest,
      )
      | false ↦ rest
    ]

apart_among : (rooms : List Room) → HaveRisingTables rooms → AreIdsApart rooms → AreApart (crossers_among rooms)
unfolding AreApart
apart_among [] rise ids = tt
apart_among (room ∷ rooms) rise ids =
    apart_append (crossers_of room.table) (crossers_among rooms) (apart_table room.table.index room.table.objects rise.0)
    (apart_among rooms rise.1 (λ one other id first second is at has had. let same = ids (suc one) (suc other) id first second is at has had in omega (arith, same)))
    (λ x y here there same.
    let one = in_table room.table x rise.0 here in
    let among = from_among rooms y there in
    let two = in_table among.room.table y (rising_in rooms among.index among.room rise.1 among.is) among.within in
    let equal : 0 ≡ suc among.index = ids 0 (suc among.index) x.id room among.room refl among.is (one.object, one.found) (two.object, ap (λ (n : ℕ). find_object n among.room.table.objects) (sym same) ∙ two.found) in
    omega (arith, equal))

none_left : (n : ℕ) (cs : List Crosser) → AllByRecursion (λ (other : Crosser). other.id ≡ n → ⊥) cs → count_by (λ c. id_of c == n) cs ≡ 0
none_left n [] apart = refl
none_left n (c ∷ cs) apart = count_head (λ (d : Crosser). id_of d == n) c cs ∙ (λ i. cond {A = ℕ} (ne_eqb c.id n apart.0 i) 1 0 + none_left n cs apart.1 i)

few : (cs : List Crosser) → AreApart cs → (q : ℕ) → count_by (λ c. id_of c == q) cs ≤ 1
unfolding AreApart
few [] apart q = omega arith
few (c ∷ cs) apart q =
    let rest = few cs apart.1 q in
    let all = count_head (λ (d : Crosser). id_of d == q) c cs in
    elim (c.id == q) as (λ b. (c.id == q) ≡ b → count_by (λ d. id_of d == q) (c ∷ cs) ≤ 1) [
      | true ↦ λ is.
          let none : count_by (λ d. id_of d == q) cs ≡ 0 = none_left q cs (subst (λ (n : ℕ). AllByRecursion (λ (other : Crosser). other.id ≡ n → ⊥) cs) (eqb-true c.id q is) apart.0) in
          let one : count_by (λ d. id_of d == q) (c ∷ cs) ≡ 1 = all ∙ (λ i. cond {A = ℕ} (is i) 1 0 + none i) in
          omega (arith, one)
      | false ↦ λ is.
          let same : count_by (λ d. id_of d == q) (c ∷ cs) ≡ 0 + count_by (λ d. id_of d == q) cs = all ∙ ap (λ (b : Bool). cond {A = ℕ} b 1 0 + count_by (λ d. id_of d == q) cs) is in
          omega (arith, same, rest)
    ] refl

-- ---- rising keys

mapped_rises : {X : Type 0} (key : X → ℕ) (xs : List X) → Rises key xs → RisesN (map key xs)
mapped_rises key [] rises = tt
mapped_rises {X} key (x ∷ xs) rises = (all_mapped xs rises.0, mapped_rises key xs rises.1)
  where
    all_mapped : (xs : List X) → AllByRecursion (λ later. key x < key later) xs → AllByRecursion (λ n. key x < n) (map key xs)
    all_mapped [] all = tt
    all_mapped (y ∷ ys) all = (all.0, all_mapped ys all.1)

pairs_of : (cs : List Crosser) → Rises id_of cs → AllPairs (λ one later. one.id < later.id) cs
pairs_of [] rises = λ i j d less within. absurd (omega (arith, within))
pairs_of (c ∷ cs) rises = AllPairs-cons (λ (one : Crosser) (later : Crosser). one.id < later.id) c cs (All-from_recursion (λ (later : Crosser). c.id < later.id) cs rises.0) (pairs_of cs rises.1)

below_less : (k n : ℕ) → T (is_lt (nat_cmp k n)) → k < n
below_less k n is = elim (nat_lt k n) as (λ b. nat_lt k n ≡ b → k < n) [
  | true ↦ λ less. ltb-true k n less
  | false ↦ λ least. elim (k == n) as (λ b. (k == n) ≡ b → k < n) [
    | true ↦ λ same. absurd (subst (λ r. T (is_lt r)) (sym (nat_cmp_is k n Equal (eqb-true k n same))) is)
    | false ↦ λ apart. absurd (subst (λ r. T (is_lt r)) (sym (nat_cmp_is k n Greater (more k n (ltb-false k n least) (eqb-false k n apart)))) is)
  ] refl
] refl
  where
    more : (k n : ℕ) → n ≤ k → (k ≡ n → ⊥) → n < k
    more k n least apart = elim (nat_lt n k) as (λ b. nat_lt n k ≡ b → n < k) [
      | true ↦ λ less. ltb-true n k less
      | false ↦ λ other. let most = ltb-false n k other in absurd (apart (omega (arith, least, most)))
    ] refl

both : (a b : Bool) → T (a && b) → T a × T b
both true b h = (tt, h)
both false b h = absurd h

entries_rise : (es : List (ℕ × Placed)) → T (is_sorted nat_cmp es) → Rises (λ (e : ℕ × Placed). e.0) es
entries_rise [] sorted = tt
entries_rise (e ∷ es) sorted = let parts = both _ _ sorted in (all_above es parts.0, entries_rise es parts.1)
  where
    all_above : (es : List (ℕ × Placed)) → T (below_all nat_cmp e.0 es) → AllByRecursion (λ later. e.0 < later.0) es
    all_above [] below = tt
    all_above (f ∷ es) below = let parts = both _ _ below in (below_less e.0 f.0 parts.0, all_above es parts.1)

found_entry : (es : List (ℕ × Placed)) (q : ℕ) (p : Placed) → find nat_cmp q es ≡ Some p → Contains es (q, p)
found_entry [] q p is = absurd cc
found_entry (e ∷ es) q p is =
    elim (q == e.0) as (λ b. (q == e.0) ≡ b → cond b (Some e.1) (find nat_cmp q es) ≡ Some p → Contains (e ∷ es) (q, p)) [
      | true ↦ λ same here.
          let value : e.1 ≡ p = cc in
          let key = eqb-true q e.0 same in
          let whole : ◌≡◌ {A = ℕ × Placed} e (q, p) = λ i. (sym key i, value i) in
          subst (Contains (e ∷ es)) whole (Contains-head e es)
      | false ↦ λ other later. Contains-later e es (q, p) (found_entry es q p later)
    ] refl (ap (λ (b : Bool). cond b (Some e.1) (find nat_cmp q es)) (sym (unsigned_tied q e.0)) ∙ is)

entry_found : (es : List (ℕ × Placed)) (e : ℕ × Placed) → AreKeysOnce es → Contains es e → find nat_cmp e.0 es ≡ Some e.1
entry_found [] e once within = absurd (none_within e within)
entry_found (first ∷ es) e once within = elim (first_or_later first es e within) [
  | inl here ↦
      ap (λ (b : Bool). cond b (Some first.1) (find nat_cmp e.0 es)) (unsigned_tied e.0 first.0 ∙ eq-eqb e.0 first.0 (ap (λ (f : ℕ × Placed). f.0) (sym here)))
      ∙ ap (λ (f : ℕ × Placed). Some f.1) here
  | inr later ↦ (
      let rest = entry_found es e once.1 later in
      let apart : e.0 ≡ first.0 → ⊥ = λ same. let clash : None ≡ Some e.1 = sym once.0 ∙ ap (λ (n : ℕ). find nat_cmp n es) (sym same) ∙ rest in absurd cc in
      ap (λ (b : Bool). cond b (Some first.1) (find nat_cmp e.0 es)) (unsigned_tied e.0 first.0 ∙ ne_eqb e.0 first.0 apart) ∙ rest
      )
]

-- ---- the crossers of a stored world

module _ (stored : Stored) (places : (index : ℕ) (room : Room) → slice_get stored.rooms index ≡ Some room → room.table.index ≡ index)
    (rise : HaveRisingTables stored.rooms) (ids : AreIdsApart stored.rooms)
    (list : List Crosser) (moved : IsPermutation (crossers_among stored.rooms) list) (order : IsNonDecreasingBy id_of list) where
  list_rises : Rises id_of list
  list_rises = strictly id_of list order (λ q. subst (λ (n : ℕ). n ≤ 1) (sym (sum_by-IsPermutation (λ (c : Crosser). cond {A = ℕ} (id_of c == q) 1 0) (crossers_among stored.rooms) list moved)) (few (crossers_among stored.rooms) (apart_among stored.rooms rise ids) q))

  record Held (c : Crosser) : Type 0 where
    pub room : Room
    pub object : Object
    pub is : slice_get stored.rooms c.room ≡ Some room
    pub found : find_object c.id room.table.objects ≡ Some object
    pub crosses : is_crosser object ≡ true

  held : (c : Crosser) → Contains list c → Held c
  held c within =
      let among = from_among stored.rooms c (Contains-permutation list (crossers_among stored.rooms) c (IsPermutation-sym (crossers_among stored.rooms) list moved) within) in
      let in_it = in_table among.room.table c (rising_in stored.rooms among.index among.room rise among.is) among.within in
      let index : c.room ≡ among.index = in_it.place ∙ places among.index among.room among.is in
      record { room = among.room; object = in_it.object; is = ap (slice_get stored.rooms) index ∙ among.is; found = in_it.found; crosses = in_it.crosses }

  abbrev test : ℕ × Placed → Bool
  test entry = is_crosser entry.1.object

  to_world : (q : ℕ) → Contains (map id_of list) q → Contains (crossers_in_world (world_of stored)) q
  to_world q within =
      let from = from_mapped id_of list q within in
      let c = from.0 in
      let is = held c from.1 in
      let placed : Placed = record { room = c.room; object = is.object } in
      let there = is_placed stored ids c.id c.room is.object (ap (option_and_then (λ (room : Room). find_object c.id room.table.objects)) is.is ∙ is.found) in
      let es = entries (world_of stored).objects in
      let entry = found_entry es c.id placed (sym (get-entries (world_of stored).objects c.id) ∙ there) in
      subst (Contains (crossers_in_world (world_of stored))) from.2
      (to_mapped (λ (e : ℕ × Placed). e.0) (filter test es) (c.id, placed) (Contains-filter test es (c.id, placed) entry is.crosses))

  from_world : (q : ℕ) → Contains (crossers_in_world (world_of stored)) q → Contains (map id_of list) q
  from_world q within =
      let es = entries (world_of stored).objects in
      let from = from_mapped (λ (e : ℕ × Placed). e.0) (filter test es) q within in
      let e = from.0 in
      let kept = Contains-from_filter test es e from.1 in
      let got = get-entries (world_of stored).objects e.0 ∙ entry_found es e (once_of_sorted es (entries_sorted (world_of stored).objects)) kept.0 in
      let there = stands stored e.0 e.1 got in
      let room = room_of stored e.1.room e.0 e.1.object (slice_get stored.rooms e.1.room) refl there in
      let c : Crosser = record { id = e.0; room = e.1.room } in
      let in_it : InTable room.0.table c = record { object = e.1.object; found = room.2; crosses = kept.1; place = sym (places e.1.room room.0 room.1) } in
      let in_list = Contains-permutation (crossers_among stored.rooms) list c moved (to_among stored.rooms e.1.room room.0 c room.1 (from_table room.0.table c in_it)) in
      subst (Contains (map id_of list)) from.2 (to_mapped id_of list c in_list)

  pub are_of_world : map id_of list ≡ crossers_in_world (world_of stored)
  are_of_world =
      same_numbers (map id_of list) (crossers_in_world (world_of stored))
      (mapped_rises id_of list list_rises)
      (mapped_rises (λ (e : ℕ × Placed). e.0) (filter test (entries (world_of stored).objects)) (rises-filter (λ (e : ℕ × Placed). e.0) test (entries (world_of stored).objects) (entries_rise (entries (world_of stored).objects) (entries_sorted (world_of stored).objects))))
      to_world from_world

  -- ---- they are creeps of their rooms yet, once all rest

  found_still : (id : ℕ) (objects : List Object) (object : Object) → find_object id objects ≡ Some object → find_object id (map still objects) ≡ Some (still object)
  found_still id [] object is = absurd cc
  found_still id (first ∷ objects) object is =
      ap (λ (n : ℕ). cond (n == id) (Some (still first)) (find_object id (map still objects))) (same_id first)
      ∙ elim (first.id == id) as (λ b. cond b (Some first) (find_object id objects) ≡ Some object → cond b (Some (still first)) (find_object id (map still objects)) ≡ Some (still object)) [
        | true ↦ λ here. let same : first ≡ object = cc in ap (λ (o : Object). Some (still o)) same
        | false ↦ λ later. found_still id objects object later
      ] is

  still_creep : (object : Object) → is_crosser object ≡ true → is_creep (still object).kind ≡ true
  still_creep object is =
      let parts = and_parts (is_creep object.kind && (object.other_ticks == 1)) (is_edge object.x || is_edge object.y) is in
      let creep = (and_parts (is_creep object.kind) (object.other_ticks == 1) parts.0).0 in
      kind_same object ∙ creep
    where
      kind_same : (object : Object) → is_creep (still object).kind ≡ is_creep object.kind
      kind_same object = elim (is_creep object.kind) as (λ b. is_creep (if b then record object { other_ticks = 0 } else object).kind ≡ is_creep object.kind) [ true ↦ refl | false ↦ refl ]

  creep_yet : (c : Crosser) → Contains list c → IsCreepOf (map rested_room stored.rooms) c
  creep_yet c within =
      let is = held c within in
      (rested_room is.room, still is.object, slice_get-map rested_room stored.rooms c.room ∙ ap (option_map rested_room) is.is, found_still c.id is.room.table.objects is.object is.found, still_creep is.object is.crosses)

  pub are_crossers : AreCrossers (map rested_room stored.rooms) list
  are_crossers = record {
    rising = pairs_of list list_rises;
    creeps = All-from_recursion (IsCreepOf (map rested_room stored.rooms)) list (all_from_within (IsCreepOf (map rested_room stored.rooms)) list creep_yet);
  }
