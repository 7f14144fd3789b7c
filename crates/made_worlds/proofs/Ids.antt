-- The ids of a generated world: each has a birth, and none is there twice.
use Rattle.std.proofs.Common.{◌≡◌, ℕ, zero, suc, ◌+◌, ◌*◌, ◌/◌, ◌%◌, ◌^◌, ◌<◌, ◌≤◌, ◌==◌, List, [], ◌∷◌, get_or, map, Some, refl, ap, ◌∙◌, inl, inr, arith}
use Rattle.std.specs.Prelude.{slice_get}
use Rattle.std.specs.List.{AllByRecursion, count_by, range_with_len}
use Rattle.std.specs.List.Sorted.{IsNonDecreasingBy}
use Rattle.std.proofs.lemmas.List.Elements.{All-from_recursion}
use Rattle.room_table.specs.declared.object.Object.{Object}
use Rattle.room_table.specs.Tables.{IsRising}
use Rattle.rule_check.specs.Views.{IsOrdered}
use Rattle.rule_check.specs.inner.Checks.{IsUnborn, ids_in}
use Rattle.world_gen.specs.Generator.{draw, made_table, state_after}
use Rattle.made_worlds.proofs.Objects.{all_on_tiles, each_list, each_object, ids_rise}
use Rattle.made_worlds.proofs.Places.{Rises, all_joined, all_made, at_most_once, placed_at, rises_joined}
use Rattle.made_worlds.proofs.Views.{room_of, view_at, views}

-- ---- births

-- the room and the serial of an id
parts_of : (room serial : ℕ) → serial < 2 ^ 32
    → ((room * 2 ^ 32 + serial) / 2 ^ 32 ≡ room) × ((room * 2 ^ 32 + serial) % 2 ^ 32 ≡ serial)
parts_of room serial small = (omega arith, omega arith)

next_is : (players room u v : ℕ) → (made_table players room u v).next ≡ 5
unfolding made_table
next_is players room u v = refl

born : (seed players count room serial : ℕ) → room < count → 1 ≤ serial → serial < 5
    → IsUnborn (views seed players count) (room * 2 ^ 32 + serial) → ⊥
born seed players count room serial less some given unborn =
    let parts = parts_of room serial (omega arith) in
    elim unborn [
      | inl late ↦ (
          let here : slice_get (views seed players count) ((room * 2 ^ 32 + serial) / 2 ^ 32) ≡ Some (view_at seed players (0 + room)) =
          ap (slice_get (views seed players count)) parts.0 ∙ placed_at (view_at seed players) 0 count room less in
          let next : (view_at seed players (0 + room)).next ≡ 5 =
          next_is players (0 + room) (draw (state_after seed (2306 * (0 + room))) 2304) (draw (state_after seed (2306 * (0 + room))) 2305) in
          let most : (view_at seed players (0 + room)).next ≤ (room * 2 ^ 32 + serial) % 2 ^ 32 =
          late (view_at seed players (0 + room)) here in
          omega (arith, parts.1)
          )
      | inr none ↦ omega (arith, parts.1)
    ]

pub all_born : (seed players count room u v : ℕ) → room < count
    → AllByRecursion (λ o. IsUnborn (views seed players count) o.id → ⊥) (made_table players room u v).objects
all_born seed players count room u v less =
    each_object (λ o. IsUnborn (views seed players count) o.id → ⊥) players room u v
    (λ owned. born seed players count room 1 less (omega arith) (omega arith))
    (born seed players count room 1 less (omega arith) (omega arith))
    (born seed players count room 2 less (omega arith) (omega arith))
    (λ owned. born seed players count room 3 less (omega arith) (omega arith))
    (λ owned. born seed players count room 4 less (omega arith) (omega arith))

-- ---- no id is there twice

room_ids_rise : (players room u v : ℕ) → Rises (map (λ o. o.id) (made_table players room u v).objects)
room_ids_rise players room u v =
    each_list (λ os. Rises (map (λ o. o.id) os)) players room u v
    (λ less. ((omega arith, (omega arith, (omega arith, tt))), ((omega arith, (omega arith, tt)), ((omega arith, tt), (tt, tt)))))
    ((omega arith, tt), (tt, tt))

room_ids_low : (players room u v : ℕ)
    → AllByRecursion (λ id. id < (room + 1) * 2 ^ 32) (map (λ o. o.id) (made_table players room u v).objects)
room_ids_low players room u v =
    each_list (λ os. AllByRecursion (λ id. id < (room + 1) * 2 ^ 32) (map (λ o. o.id) os)) players room u v
    (λ less. (omega arith, (omega arith, (omega arith, (omega arith, tt))))) (omega arith, (omega arith, tt))

room_ids_high : (players room from u v : ℕ) → from ≤ room
    → AllByRecursion (λ id. from * 2 ^ 32 ≤ id) (map (λ o. o.id) (made_table players room u v).objects)
room_ids_high players room from u v low =
    each_list (λ os. AllByRecursion (λ id. from * 2 ^ 32 ≤ id) (map (λ o. o.id) os)) players room u v
    (λ less. (omega arith, (omega arith, (omega arith, (omega arith, tt))))) (omega arith, (omega arith, tt))

ids_high : (seed players from a n : ℕ) → from ≤ a
    → AllByRecursion (λ id. from * 2 ^ 32 ≤ id) (ids_in (map (view_at seed players) (range_with_len a n)))
ids_high seed players from a zero low = tt
ids_high seed players from a (suc n) low =
    let s : ℕ = state_after seed (2306 * a) in
    all_joined (λ id. from * 2 ^ 32 ≤ id) (map (λ (o : Object). o.id) (room_of seed players a).table.objects)
    (ids_in (map (view_at seed players) (range_with_len (a + 1) n)))
    (room_ids_high players a from (draw s 2304) (draw s 2305) low) (ids_high seed players from (a + 1) n (omega arith))

all_rise : (seed players a n : ℕ) → Rises (ids_in (map (view_at seed players) (range_with_len a n)))
all_rise seed players a zero = tt
all_rise seed players a (suc n) =
    let s : ℕ = state_after seed (2306 * a) in
    rises_joined ((a + 1) * 2 ^ 32) (map (λ (o : Object). o.id) (room_of seed players a).table.objects)
    (ids_in (map (view_at seed players) (range_with_len (a + 1) n)))
    (room_ids_rise players a (draw s 2304) (draw s 2305)) (room_ids_low players a (draw s 2304) (draw s 2305))
    (all_rise seed players (a + 1) n) (ids_high seed players (a + 1) (a + 1) n (omega arith))

pub no_id_twice : (seed players count n : ℕ) → 2 ≤ count_by (λ m. m == n) (ids_in (views seed players count)) → ⊥
no_id_twice seed players count n many =
    let once : count_by (λ m. m == n) (ids_in (views seed players count)) ≤ 1 =
    at_most_once n (ids_in (views seed players count)) (all_rise seed players 0 count) in
    omega arith

-- ---- objects in the order of their ids

in_order : (os : List Object) → IsRising os → IsNonDecreasingBy (λ o. o.id) os
in_order [] rise i j d low less = absurd (omega arith)
in_order (o ∷ os) rise zero zero d low less = omega arith
in_order (o ∷ os) rise zero (suc j) d low less =
    let great : o.id < (get_or os j d).id = All-from_recursion (λ (later : Object). o.id < later.id) os rise.0 j d (omega arith) in omega arith
in_order (o ∷ os) rise (suc i) zero d low less = absurd (omega arith)
in_order (o ∷ os) rise (suc i) (suc j) d low less = in_order os rise.1 i j d (omega arith) (omega arith)

ordered : (seed players index : ℕ) → IsOrdered (view_at seed players index)
ordered seed players index =
    let s : ℕ = state_after seed (2306 * index) in
    record {
      order = in_order (room_of seed players index).table.objects
          (ids_rise players index (draw s 2304) (draw s 2305));
      tiles = all_on_tiles players index (draw s 2304) (draw s 2305);
    }

pub all_ordered : (seed players count : ℕ) → AllByRecursion IsOrdered (views seed players count)
all_ordered seed players count =
    all_made IsOrdered (view_at seed players) 0 count (λ index low less. ordered seed players index)
