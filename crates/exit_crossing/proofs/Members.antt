-- The crossers of all rooms, in rising id, are those of the world.
use Rattle.std.proofs.Common.{◌≡◌, ℕ, zero, suc, ◌<◌, ◌==◌, inl, inr, Bool, true, false, cond, List, [], ◌∷◌, map, Some, refl, sym, ap, subst, ◌∙◌, arith, slice_get}
use Rattle.std.specs.List.{AllByRecursion, Contains, filter}
use Rattle.std.proofs.lemmas.Bool.{eq-eqb, ne_eqb}
use Rattle.std.proofs.lemmas.List.Elements.{Contains-append_cases, Contains-append_left, Contains-append_right}
use Rattle.room_table.specs.declared.object.Object.{Object}
use Rattle.object_store.specs.declared.world.Room.{Room}
use Rattle.object_store.specs.Stored.{HaveRisingTables}
use Rattle.room_table.specs.Tables.{Table, IsRising, find_object}
use Rattle.room_table.proofs.Rising.{Rises}
use Rattle.room_table.proofs.Moved.{Contains-head, Contains-later, first_or_later, none_within, Contains-filter, Contains-from_filter}
use Rattle.world_rules.specs.Crossings.{is_crosser}
use Rattle.world_rules.proofs.TableParts.{has_the_id}
use Rattle.exit_crossing.specs.Crossing.{crosser_in, crossers_of}
use Rattle.exit_crossing.specs.declared.leaving.Crosser.{Crosser}
use Rattle.exit_crossing.specs.inner.Leaving.{crossers_among}
use Rattle.exit_crossing.proofs.Rooms.{all_get}

-- ---- numbers that rise

abbrev pub RisesN : List ℕ → Type 0
RisesN ns = Rises (λ (n : ℕ). n) ns

pub within_all : {X : Type 0} (P : X → Type 0) (xs : List X) (x : X) → AllByRecursion P xs → Contains xs x → P x
within_all P [] x all within = absurd (none_within x within)
within_all P (first ∷ xs) x all within = elim (first_or_later first xs x within) [ inl here ↦ subst P here all.0 | inr later ↦ within_all P xs x all.1 later ]

-- rising lists with the same numbers are equal
pub same_numbers : (xs ys : List ℕ) → RisesN xs → RisesN ys → ((q : ℕ) → Contains xs q → Contains ys q) → ((q : ℕ) → Contains ys q → Contains xs q) → xs ≡ ys
same_numbers [] [] rise rise' to from = refl
same_numbers [] (y ∷ ys) rise rise' to from = absurd (none_within y (from y (Contains-head y ys)))
same_numbers (x ∷ xs) [] rise rise' to from = absurd (none_within x (to x (Contains-head x xs)))
same_numbers (x ∷ xs) (y ∷ ys) rise rise' to from =
    let heads : x ≡ y = elim (first_or_later y ys x (to x (Contains-head x xs))) [
      | inl here ↦ sym here
      | inr later ↦ (
          let above = within_all (λ n. y < n) ys x rise'.0 later in
          elim (first_or_later x xs y (from y (Contains-head y ys))) [
            | inl here ↦ here
            | inr more ↦ absurd (omega (arith, above, within_all (λ n. x < n) xs y rise.0 more))
          ]
          )
    ] in
    let tails = same_numbers xs ys rise.1 rise'.1
    (λ q within. elim (first_or_later y ys q (to q (Contains-later x xs q within))) [
      | inl here ↦ absurd (omega (arith, within_all (λ n. x < n) xs q rise.0 within, heads, here))
      | inr later ↦ later
    ])
    (λ q within. elim (first_or_later x xs q (from q (Contains-later y ys q within))) [
      | inl here ↦ absurd (omega (arith, within_all (λ n. y < n) ys q rise'.0 within, heads, here))
      | inr later ↦ later
    ]) in
    λ i. heads i ∷ tails i

-- ---- what mapped lists and lists of lists hold

pub from_mapped : {X Y : Type 0} (f : X → Y) (xs : List X) (y : Y) → Contains (map f xs) y → (x : X) × Contains xs x × (f x ≡ y)
from_mapped f [] y within = absurd (none_within y within)
from_mapped f (x ∷ xs) y within = elim (first_or_later (f x) (map f xs) y within) [
  | inl here ↦ (x, Contains-head x xs, here)
  | inr later ↦ (let rest = from_mapped f xs y later in (rest.0, Contains-later x xs rest.0 rest.1, rest.2))
]

pub to_mapped : {X Y : Type 0} (f : X → Y) (xs : List X) (x : X) → Contains xs x → Contains (map f xs) (f x)
to_mapped f [] x within = absurd (none_within x within)
to_mapped f (first ∷ xs) x within = elim (first_or_later first xs x within) [
  | inl here ↦ subst (λ y. Contains (f first ∷ map f xs) (f y)) here (Contains-head (f first) (map f xs))
  | inr later ↦ Contains-later (f first) (map f xs) (f x) (to_mapped f xs x later)
]

pub record AmongRooms (rooms : List Room) (c : Crosser) : Type 0 where
  pub index : ℕ
  pub room : Room
  pub is : slice_get rooms index ≡ Some room
  pub within : Contains (crossers_of room.table) c

pub from_among : (rooms : List Room) (c : Crosser) → Contains (crossers_among rooms) c → AmongRooms rooms c
from_among [] c within = absurd (none_within c within)
from_among (room ∷ rooms) c within = elim (Contains-append_cases (crossers_of room.table) (crossers_among rooms) c within) [
  | inl here ↦ record { index = 0; room = room; is = refl; within = here }
  | inr later ↦ (let rest = from_among rooms c later in record { index = suc rest.index; room = rest.room; is = rest.is; within = rest.within })
]

pub to_among : (rooms : List Room) (index : ℕ) (room : Room) (c : Crosser) → slice_get rooms index ≡ Some room → Contains (crossers_of room.table) c → Contains (crossers_among rooms) c
to_among [] index room c is within = absurd cc
to_among (first ∷ rooms) zero room c is within = let same : first ≡ room = cc in Contains-append_left (crossers_of first.table) (crossers_among rooms) c (subst (λ (r : Room). Contains (crossers_of r.table) c) (sym same) within)
to_among (first ∷ rooms) (suc index) room c is within = Contains-append_right (crossers_of first.table) (crossers_among rooms) c (to_among rooms index room c is within)

-- ---- tables

found_within : (objects : List Object) (object : Object) → IsRising objects → Contains objects object → find_object object.id objects ≡ Some object
found_within [] object rise within = absurd (none_within object within)
found_within (first ∷ objects) object rise within = elim (first_or_later first objects object within) [
  | inl here ↦ ap (λ (b : Bool). cond b (Some first) (find_object object.id objects)) (eq-eqb first.id object.id (ap (λ (o : Object). o.id) here)) ∙ ap Some here
  | inr later ↦ (
      let less = within_all (λ o. first.id < o.id) objects object rise.0 later in
      ap (λ (b : Bool). cond b (Some first) (find_object object.id objects)) (ne_eqb first.id object.id (λ same. omega (arith, same, less))) ∙ found_within objects object rise.1 later
      )
]

within_found : (objects : List Object) (id : ℕ) (object : Object) → find_object id objects ≡ Some object → Contains objects object
within_found [] id object is = absurd cc
within_found (first ∷ objects) id object is = elim (first.id == id) as (λ b. cond b (Some first) (find_object id objects) ≡ Some object → Contains (first ∷ objects) object) [
  | true ↦ λ here. let same : first ≡ object = cc in subst (Contains (first ∷ objects)) same (Contains-head first objects)
  | false ↦ λ later. Contains-later first objects object (within_found objects id object later)
] is

pub rising_in : (rooms : List Room) (index : ℕ) (room : Room) → HaveRisingTables rooms → slice_get rooms index ≡ Some room → IsRising room.table.objects
rising_in rooms index room rise is = all_get (λ (r : Room). IsRising r.table.objects) rooms index room rise is

pub record InTable (table : Table) (c : Crosser) : Type 0 where
  pub object : Object
  pub found : find_object c.id table.objects ≡ Some object
  pub crosses : is_crosser object ≡ true
  pub place : c.room ≡ table.index

pub in_table : (table : Table) (c : Crosser) → IsRising table.objects → Contains (crossers_of table) c → InTable table c
in_table table c rise within =
    let from = from_mapped (crosser_in table.index) (filter is_crosser table.objects) c within in
    let kept = Contains-from_filter is_crosser table.objects from.0 from.1 in
    record {
      object = from.0;
      found = ap (λ (one : Crosser). find_object one.id table.objects) (sym from.2) ∙ found_within table.objects from.0 rise kept.0;
      crosses = kept.1;
      place = ap (λ (one : Crosser). one.room) (sym from.2);
    }

pub from_table : (table : Table) (c : Crosser) → InTable table c → Contains (crossers_of table) c
from_table table c in_it =
    let id = has_the_id c.id table.objects in_it.object in_it.found in
    let same : crosser_in table.index in_it.object ≡ c = λ i. record { id = id i; room = sym in_it.place i } in
    subst (Contains (crossers_of table)) same
    (to_mapped (crosser_in table.index) (filter is_crosser table.objects) in_it.object (Contains-filter is_crosser table.objects in_it.object (within_found table.objects c.id in_it.object in_it.found) in_it.crosses))
