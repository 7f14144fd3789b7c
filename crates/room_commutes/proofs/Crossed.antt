-- What crossings keep.
use Rattle.std.proofs.Common.{◌≡◌, ◌≢◌, ◌⊎◌, inl, inr, ℕ, ◌==◌, ◌&&◌, not, if◌then◌else◌, true, false, cond, List, [], ◌∷◌, Option, Some, None, option_map, refl, sym, ap, subst, ◌∙◌}
use Rattle.std.specs.Cmp.{nat_cmp_total, unsigned_tied}
use Rattle.std.specs.FinMap.{get, values, entries, entries_sorted, get-entries, get-insert}
use Rattle.std.specs.List.{filter}
use Rattle.std.proofs.lemmas.Bool.{eqb-true, eqb-false, eq-eqb, and_parts, not_from_true, false_from_ne_true}
use Rattle.world_rules.specs.World.{Placed, World}
use Rattle.game_tables.specs.Kinds.{is_creep}
use Rattle.world_rules.specs.Crossings.{Place, beyond, is_taken, is_open_in, may_enter, with_place, with_object_on, crossed_to, crossed_by, crossed_over, is_crosser, crossers, rested, crossed}
use Rattle.world_rules.proofs.Keys.{once_of_sorted}
use Rattle.room_commutes.specs.Standing.{AreAllApart, is_creep_at}
use Rattle.room_commutes.proofs.Members.{Has, has_any, has_filter, map_has, found_has, has_found}
use Rattle.room_commutes.proofs.Rested.{all_rested_get, still_x, still_y, still_kind}

-- ---- what stands

stands_has : (world : World) (id : ℕ) (placed : Placed) → get world.objects id ≡ Some placed → Has (values world.objects) placed
stands_has world id placed is = found_has (entries world.objects) id placed (sym (get-entries world.objects id) ∙ is)

-- a place that is not taken has no creep
free_of : (world : World) (place : Place) (id : ℕ) (placed : Placed) → is_taken world place ≡ false → get world.objects id ≡ Some placed → is_creep_at place.room place.x place.y placed ≡ false
free_of world place id placed free is = false_from_ne_true (is_creep_at place.room place.x place.y placed) (λ on.
    let taken : is_taken world place ≡ true = has_any (is_creep_at place.room place.x place.y) (values world.objects) placed (stands_has world id placed is) on in
    absurd (cc))

-- A crosser stands under the id.
abbrev IsCrosserAt : World → ℕ → Type 0
IsCrosserAt world id = (placed : Placed) × (get world.objects id ≡ Some placed) × (is_crosser placed.object ≡ true)

crossers_stand : (world : World) (id : ℕ) → Has (crossers world) id → IsCrosserAt world id
crossers_stand world id has =
    let among = map_has (λ (e : ℕ × Placed). e.0) (filter (λ (e : ℕ × Placed). is_crosser e.1.object) (entries world.objects)) id has in
    let e : ℕ × Placed = among.0 in
    let parts = has_filter (λ (e : ℕ × Placed). is_crosser e.1.object) (entries world.objects) e among.1 in
    let found : get world.objects e.0 ≡ Some e.1 = get-entries world.objects e.0 ∙ has_found (entries world.objects) (once_of_sorted (entries world.objects) (entries_sorted world.objects)) e parts.0 in
    (e.1, subst (λ n. get world.objects n ≡ Some e.1) among.2 found, parts.1)

-- ---- one object after the other

-- It stands as it stood, or it is a crosser that came to another place.
abbrev Came : Option Placed → Option Placed → Type 0
Came found now =
    (now ≡ found)
    ⊎ ((placed : Placed) × (place : Place) × (found ≡ Some placed) × (is_crosser placed.object ≡ true) × (now ≡ Some (with_place placed.object place)))

-- The world is one in the course of crossings.
record IsCrossing (before now : World) : Type 0 where
  came : (id : ℕ) → Came (get before.objects id) (get now.objects id)
  rest : record now { objects = before.objects } ≡ before
  apart : AreAllApart before → AreAllApart now

module _ (before : World) where
  -- a crosser comes to a free place
  module _ (now : World) (crossing : IsCrossing before now) (id : ℕ) (crosser : IsCrosserAt before id) (placed : Placed) (is : get now.objects id ≡ Some placed) (place : Place) (free : is_taken now place ≡ false) where
    abbrev next : World
    next = with_object_on now id placed.object place

    next_get : (q : ℕ) → get next.objects q ≡ cond (q == id) (Some (with_place placed.object place)) (get now.objects q)
    next_get q = get-insert nat_cmp_total now.objects id (with_place placed.object place) q ∙ ap (λ b. cond b (Some (with_place placed.object place)) (get now.objects q)) (unsigned_tied q id)

    came_here : Came (get before.objects id) (get now.objects id) → Came (get before.objects id) (Some (with_place placed.object place))
    came_here (inl same) =
        let first : crosser.0 ≡ placed = let got : Some crosser.0 ≡ Some placed = sym crosser.1 ∙ sym same ∙ is in cc in
        inr (crosser.0, place, crosser.1, crosser.2, ap (λ (p : Placed). Some (with_place p.object place)) (sym first))
    came_here (inr gone) =
        let same : with_place gone.0.object gone.1 ≡ placed = let got : Some (with_place gone.0.object gone.1) ≡ Some placed = sym gone.4 ∙ is in cc in
        inr (gone.0, place, gone.2, gone.3, ap (λ (p : Placed). Some (with_place p.object place)) (sym same))

    came_next : (q : ℕ) → Came (get before.objects q) (get next.objects q)
    came_next q = subst (Came (get before.objects q)) (sym (next_get q)) (
        elim (q == id) as (λ b. (q == id) ≡ b → Came (get before.objects q) (cond b (Some (with_place placed.object place)) (get now.objects q))) [
          | true ↦ λ at. subst (λ n. Came (get before.objects n) (Some (with_place placed.object place))) (sym (eqb-true q id at)) (came_here (crossing.came id))
          | false ↦ λ at. crossing.came q
        ] refl)

    -- what stands then came, or stood
    either : (q : ℕ) (p : Placed) → get next.objects q ≡ Some p → ((q ≡ id) × (with_place placed.object place ≡ p)) ⊎ ((q ≢ id) × (get now.objects q ≡ Some p))
    either q p found = elim (q == id) as (λ b. (q == id) ≡ b → cond b (Some (with_place placed.object place)) (get now.objects q) ≡ Some p → ((q ≡ id) × (with_place placed.object place ≡ p)) ⊎ ((q ≢ id) × (get now.objects q ≡ Some p))) [
      | true ↦ λ at got. inl (eqb-true q id at, cc)
      | false ↦ λ at got. inr (eqb-false q id at, got)
    ] refl (sym (next_get q) ∙ found)

    -- on one tile either way
    shared : (one other : Placed) → is_creep one.object.kind ≡ true → is_creep_at one.room one.object.x one.object.y other ≡ true → is_creep_at other.room other.object.x other.object.y one ≡ true
    shared one other creep on =
        let first = and_parts ((other.room == one.room) && is_creep other.object.kind && (other.object.x == one.object.x)) (other.object.y == one.object.y) on in
        let second = and_parts ((other.room == one.room) && is_creep other.object.kind) (other.object.x == one.object.x) first.0 in
        let third = and_parts (other.room == one.room) (is_creep other.object.kind) second.0 in
        let room : (one.room == other.room) ≡ true = eq-eqb one.room other.room (sym (eqb-true other.room one.room third.0)) in
        let x : (one.object.x == other.object.x) ≡ true = eq-eqb one.object.x other.object.x (sym (eqb-true other.object.x one.object.x second.1)) in
        let y : (one.object.y == other.object.y) ≡ true = eq-eqb one.object.y other.object.y (sym (eqb-true other.object.y one.object.y first.1)) in
        λ i. room i && creep i && x i && y i

    apart_next : AreAllApart now → AreAllApart next
    apart_next apart a b one other at also differ creep = elim (either a one at) [
      | inl came ↦ elim (either b other also) [
        | inl mate ↦ absurd (differ (came.0 ∙ sym mate.0))
        | inr stood ↦ subst (λ (p : Placed). is_creep_at p.room p.object.x p.object.y other ≡ false) came.1 (free_of now place b other free stood.1)
      ]
      | inr stood ↦ elim (either b other also) [
        | inl came ↦ false_from_ne_true (is_creep_at one.room one.object.x one.object.y other) (λ on.
            let there : is_creep_at place.room place.x place.y one ≡ true = subst (λ (p : Placed). is_creep_at p.room p.object.x p.object.y one ≡ true) (sym came.1) (shared one other creep on) in
            let fails : is_creep_at place.room place.x place.y one ≡ false = free_of now place a one free stood.1 in
            absurd (cc))
        | inr mate ↦ apart a b one other stood.1 mate.1 differ creep
      ]
    ]

    crossing_next : IsCrossing before next
    crossing_next = record { came = came_next; rest = crossing.rest; apart = λ apart. apart_next (crossing.apart apart) }

  crossing_to : (now : World) → IsCrossing before now → (id : ℕ) → IsCrosserAt before id → (placed : Placed) → get now.objects id ≡ Some placed → (place : Option Place) → IsCrossing before (crossed_to now id placed.object place)
  crossing_to now crossing id crosser placed is None = crossing
  crossing_to now crossing id crosser placed is (Some place) = elim (may_enter now place) as (λ b. may_enter now place ≡ b → IsCrossing before (if b then with_object_on now id placed.object place else now)) [
    | true ↦ λ enters.
        let parts = and_parts (is_open_in place (get now.rooms place.room)) (not (is_taken now place)) enters in
        let free : is_taken now place ≡ false = false_from_ne_true (is_taken now place) (λ taken. let fails = not_from_true (is_taken now place) taken in absurd (cc (fails, parts.1))) in
        crossing_next now crossing id crosser placed is place free
    | false ↦ λ stays. crossing
  ] refl

  crossing_by : (now : World) → IsCrossing before now → (id : ℕ) → IsCrosserAt before id → (found : Option Placed) → get now.objects id ≡ found → IsCrossing before (crossed_by now id found)
  crossing_by now crossing id crosser None is = crossing
  crossing_by now crossing id crosser (Some placed) is = crossing_to now crossing id crosser placed is (beyond now placed)

  crossing_over : (ids : List ℕ) → ((id : ℕ) → Has ids id → IsCrosserAt before id) → (now : World) → IsCrossing before now → IsCrossing before (crossed_over ids now)
  crossing_over [] cross now crossing = crossing
  crossing_over (id ∷ later) cross now crossing = crossing_over later (λ n has. cross n (inr has)) (crossed_by now id (get now.objects id)) (crossing_by now crossing id (cross id (inl refl)) (get now.objects id) refl)

  -- ---- all of them

  abbrev gone : World
  gone = crossed_over (crossers before) before

  all_crossing : IsCrossing before gone
  all_crossing = crossing_over (crossers before) (crossers_stand before) before (record { came = λ id. inl refl; rest = refl; apart = λ apart. apart })

  after_get : (id : ℕ) → get (crossed before).objects id ≡ option_map rested (get gone.objects id)
  after_get id = all_rested_get gone id

  pub crossed_go : (id : ℕ) (placed : Placed) → get before.objects id ≡ Some placed
      → (get (crossed before).objects id ≡ Some (rested placed)) ⊎ ((place : Place) × (get (crossed before).objects id ≡ Some (rested (with_place placed.object place))))
  crossed_go id placed is = elim (all_crossing.came id) [
    | inl same ↦ inl (after_get id ∙ ap (option_map rested) (same ∙ is))
    | inr went ↦
        let first : went.0 ≡ placed = let got : Some went.0 ≡ Some placed = sym went.2 ∙ is in cc in
        inr (went.1, after_get id ∙ ap (option_map rested) went.4 ∙ ap (λ (p : Placed). Some (rested (with_place p.object went.1))) first)
  ]

  pub crossed_stay : (id : ℕ) (placed : Placed) → get before.objects id ≡ Some placed → is_crosser placed.object ≡ false → get (crossed before).objects id ≡ Some (rested placed)
  crossed_stay id placed is stays = elim (all_crossing.came id) [
    | inl same ↦ after_get id ∙ ap (option_map rested) (same ∙ is)
    | inr went ↦
        let first : went.0 ≡ placed = let got : Some went.0 ≡ Some placed = sym went.2 ∙ is in cc in
        let crosser : is_crosser placed.object ≡ true = ap (λ (p : Placed). is_crosser p.object) (sym first) ∙ went.3 in
        absurd (cc)
  ]

  pub crossed_none : (id : ℕ) → get before.objects id ≡ None → get (crossed before).objects id ≡ None
  crossed_none id is = elim (all_crossing.came id) [
    | inl same ↦ after_get id ∙ ap (option_map rested) (same ∙ is)
    | inr went ↦ let got : None ≡ Some went.0 = sym is ∙ went.2 in absurd (cc)
  ]

  pub crossed_rest : record (crossed before) { objects = before.objects } ≡ before
  crossed_rest = all_crossing.rest

  -- an object that rests stands where it stood
  record StandsAs (placed after : Placed) : Type 0 where
    room : after.room ≡ placed.room
    kind : after.object.kind ≡ placed.object.kind
    x : after.object.x ≡ placed.object.x
    y : after.object.y ≡ placed.object.y

  rests_there : (placed : Placed) → StandsAs placed (rested placed)
  rests_there placed = record { room = refl; kind = still_kind placed.object; x = still_x placed.object; y = still_y placed.object }

  rested_from : (found : Option Placed) (after : Placed) → option_map rested found ≡ Some after → (placed : Placed) × (found ≡ Some placed) × StandsAs placed after
  rested_from None after is = absurd (cc)
  rested_from (Some placed) after is = let same : rested placed ≡ after = cc in (placed, refl, subst (StandsAs placed) same (rests_there placed))

  pub crossed_apart : AreAllApart before → AreAllApart (crossed before)
  crossed_apart apart a b one other at also differ creep =
      let first = rested_from (get gone.objects a) one (sym (after_get a) ∙ at) in
      let second = rested_from (get gone.objects b) other (sym (after_get b) ∙ also) in
      let was : is_creep first.0.object.kind ≡ true = ap is_creep (sym first.2.kind) ∙ creep in
      (λ i. (second.2.room i == first.2.room i) && is_creep (second.2.kind i) && (second.2.x i == first.2.x i) && (second.2.y i == first.2.y i))
      ∙ all_crossing.apart apart a b first.0 second.0 first.1 second.1 differ was
