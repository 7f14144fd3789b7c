-- Creeps that cross after they came to rest go where those go that rest after they crossed.
use Rattle.std.proofs.Common.{◌≡◌, ℕ, ◌==◌, ◌&&◌, ◌||◌, not, if◌then◌else◌, Bool, true, false, cond, T, List, [], ◌∷◌, map, Option, Some, None, option_map, option_and_then, refl, sym, ap, subst, ◌∙◌}
use Rattle.std.specs.Cmp.{nat_cmp_total}
use Rattle.std.specs.Ordering.{nat_cmp, eq_by_cmp, is_lt}
use Rattle.std.specs.List.{list_any}
use Rattle.std.specs.FinMap.{FinMap, get, entries, entries_sorted, get-entries, get-insert, get-from_entries, is_sorted, same_map, nat_cmp-IsAntisymmetric}
use Rattle.std.specs.FinMap.Entries.{below_all}
use Rattle.game_tables.specs.Kinds.{is_creep}
use Rattle.room_table.specs.declared.object.Object.{Object}
use Rattle.world_rules.specs.World.{Placed, World}
use Rattle.world_rules.specs.Crossings.{Place, mirrored, place_of, beyond, is_taken, is_open_in, may_enter, with_place, with_object_on, crossed_to, crossed_by, crossed_over, still, rested, all_rested}
use Rattle.world_rules.proofs.Keys.{find_mapped, entries_of_sorted}

-- ---- what stands at rest

pub all_rested_get : (world : World) (id : ℕ) → get (all_rested world).objects id ≡ option_map rested (get world.objects id)
all_rested_get world id =
    get-from_entries nat_cmp_total (map (λ (e : ℕ × Placed). (e.0, rested e.1)) (entries world.objects)) id
    ∙ find_mapped rested id (entries world.objects)
    ∙ ap (option_map rested) (sym (get-entries world.objects id))

pub still_x : (object : Object) → (still object).x ≡ object.x
still_x object = elim (is_creep object.kind) as (λ b. (if b then record object { other_ticks = 0 } else object).x ≡ object.x) [ true ↦ refl | false ↦ refl ]

pub still_y : (object : Object) → (still object).y ≡ object.y
still_y object = elim (is_creep object.kind) as (λ b. (if b then record object { other_ticks = 0 } else object).y ≡ object.y) [ true ↦ refl | false ↦ refl ]

pub still_kind : (object : Object) → (still object).kind ≡ object.kind
still_kind object = elim (is_creep object.kind) as (λ b. (if b then record object { other_ticks = 0 } else object).kind ≡ object.kind) [ true ↦ refl | false ↦ refl ]

still_placed : (object : Object) (place : Place) → with_place (still object) place ≡ rested (with_place object place)
still_placed object place =
    elim (is_creep object.kind) as (λ b. with_place (if b then record object { other_ticks = 0 } else object) place ≡ record { room = place.room; object = if b then record (with_place object place).object { other_ticks = 0 } else (with_place object place).object }) [ true ↦ refl | false ↦ refl ]

-- ---- who stands where

below_mapped : (f : Placed → Placed) (key : ℕ) (es : List (ℕ × Placed)) → below_all nat_cmp key (map (λ (e : ℕ × Placed). (e.0, f e.1)) es) ≡ below_all nat_cmp key es
below_mapped f key [] = refl
below_mapped f key (e ∷ es) = ap (λ (b : Bool). is_lt (nat_cmp key e.0) && b) (below_mapped f key es)

sorted_mapped : (f : Placed → Placed) (es : List (ℕ × Placed)) → is_sorted nat_cmp (map (λ (e : ℕ × Placed). (e.0, f e.1)) es) ≡ is_sorted nat_cmp es
sorted_mapped f [] = refl
sorted_mapped f (e ∷ es) = λ i. below_mapped f e.0 es i && sorted_mapped f es i

abbrev stands : Place → Placed → Bool
stands place placed = (placed.room == place.room) && is_creep placed.object.kind && (placed.object.x == place.x) && (placed.object.y == place.y)

stands_rested : (place : Place) (placed : Placed) → stands place (rested placed) ≡ stands place placed
stands_rested place placed = λ i. (placed.room == place.room) && is_creep (still_kind placed.object i) && (still_x placed.object i == place.x) && (still_y placed.object i == place.y)

any_rested : (place : Place) (es : List (ℕ × Placed)) → list_any (stands place) (map (λ (e : ℕ × Placed). e.1) (map (λ (e : ℕ × Placed). (e.0, rested e.1)) es)) ≡ list_any (stands place) (map (λ (e : ℕ × Placed). e.1) es)
any_rested place [] = refl
any_rested place (e ∷ es) = λ i. stands_rested place e.1 i || any_rested place es i

taken_rested : (world : World) (place : Place) → is_taken (all_rested world) place ≡ is_taken world place
taken_rested world place =
    let es : List (ℕ × Placed) = entries world.objects in
    let listed = entries_of_sorted (map (λ (e : ℕ × Placed). (e.0, rested e.1)) es) (subst T (sym (sorted_mapped rested es)) (entries_sorted world.objects)) in
    ap (λ (fs : List (ℕ × Placed)). list_any (stands place) (map (λ (e : ℕ × Placed). e.1) fs)) listed ∙ any_rested place es

may_enter_rested : (world : World) (place : Place) → may_enter (all_rested world) place ≡ may_enter world place
may_enter_rested world place = ap (λ (b : Bool). is_open_in place (get world.rooms place.room) && not b) (taken_rested world place)

beyond_rested : (world : World) (placed : Placed) → beyond (all_rested world) (rested placed) ≡ beyond world placed
beyond_rested world placed = λ i. option_and_then (place_of world) (option_and_then (λ frame. mirrored frame.name (still_x placed.object i) (still_y placed.object i)) (get world.rooms placed.room))

-- ---- one crosser after the other

on_rested : (world : World) (id : ℕ) (object : Object) (place : Place) → all_rested (with_object_on world id object place) ≡ with_object_on (all_rested world) id (still object) place
on_rested world id object place =
    let one : FinMap nat_cmp Placed = (all_rested (with_object_on world id object place)).objects in
    let other : FinMap nat_cmp Placed = (with_object_on (all_rested world) id (still object) place).objects in
    let branch : Bool → ℕ → Option Placed = λ b q. cond b (Some (rested (with_place object place))) (option_map rested (get world.objects q)) in
    let mapped : (b : Bool) (q : ℕ) → option_map rested (cond b (Some (with_place object place)) (get world.objects q)) ≡ branch b q = λ b q. elim b as (λ b. option_map rested (cond b (Some (with_place object place)) (get world.objects q)) ≡ branch b q) [ true ↦ refl | false ↦ refl ] in
    ap (λ (objects : FinMap nat_cmp Placed). record world { objects = objects }) (same_map nat_cmp_total nat_cmp-IsAntisymmetric one other (λ q.
    all_rested_get (with_object_on world id object place) q
    ∙ ap (option_map rested) (get-insert nat_cmp_total world.objects id (with_place object place) q)
    ∙ mapped (eq_by_cmp nat_cmp q id) q
    ∙ (λ i. cond (eq_by_cmp nat_cmp q id) (Some (sym (still_placed object place) i)) (sym (all_rested_get world q) i))
    ∙ sym (get-insert nat_cmp_total (all_rested world).objects id (with_place (still object) place) q)))

to_rested : (world : World) (id : ℕ) (object : Object) (place : Option Place) → all_rested (crossed_to world id object place) ≡ crossed_to (all_rested world) id (still object) place
to_rested world id object None = refl
to_rested world id object (Some place) =
    elim (may_enter world place) as (λ b. all_rested (if b then with_object_on world id object place else world) ≡ (if b then with_object_on (all_rested world) id (still object) place else all_rested world)) [
      | true ↦ on_rested world id object place
      | false ↦ refl
    ]
    ∙ ap (λ (b : Bool). if b then with_object_on (all_rested world) id (still object) place else all_rested world) (sym (may_enter_rested world place))

by_rested : (world : World) (id : ℕ) (found : Option Placed) → all_rested (crossed_by world id found) ≡ crossed_by (all_rested world) id (option_map rested found)
by_rested world id None = refl
by_rested world id (Some placed) =
    to_rested world id placed.object (beyond world placed)
    ∙ ap (crossed_to (all_rested world) id (still placed.object)) (sym (beyond_rested world placed))

pub rested_first : (world : World) (ids : List ℕ) → all_rested (crossed_over ids world) ≡ crossed_over ids (all_rested world)
rested_first world [] = refl
rested_first world (id ∷ later) =
    rested_first (crossed_by world id (get world.objects id)) later
    ∙ ap (crossed_over later) (by_rested world id (get world.objects id) ∙ ap (crossed_by (all_rested world) id) (sym (all_rested_get world id)))
