-- Creeps that are made ones that have not moved, one place after the other.
use Rattle.std.proofs.Common.{◌≡◌, ℕ, zero, suc, ◌<◌, ◌≤◌, if◌then◌else◌, Bool, true, false, List, [], ◌∷◌, map, length, Some, refl, sym, ap, subst, ◌∙◌, arith, slice_get}
use Rattle.std.specs.List.{AllByRecursion}
use Rattle.std.proofs.lemmas.Bool.{eq-eqb, ne_eqb}
use Rattle.game_tables.specs.Kinds.{is_creep}
use Rattle.room_table.specs.declared.object.Object.{Object}
use Rattle.room_table.specs.Tables.{IsRising, IsOnTile, HasId, find_object, with_object}
use Rattle.world_rules.specs.Crossings.{still}
use Rattle.exit_crossing.specs.inner.Resting.{rested_at, rested_to}

pub same_id : (object : Object) → (still object).id ≡ object.id
same_id object = elim (is_creep object.kind) as (λ b. (if b then record object { other_ticks = 0 } else object).id ≡ object.id) [ true ↦ refl | false ↦ refl ]

pub on_tile : (object : Object) → IsOnTile object → IsOnTile (still object)
on_tile object on = elim (is_creep object.kind) as (λ b. IsOnTile (if b then record object { other_ticks = 0 } else object)) [ true ↦ record { column = on.column; row = on.row } | false ↦ on ]

pub already : (objects : List Object) (place : ℕ) (object : Object) → slice_get objects place ≡ Some object → still object ≡ object → rested_at place objects ≡ objects
already [] place object is same = absurd cc
already (first ∷ objects) zero object is same = let here : first ≡ object = cc in ap (λ (o : Object). o ∷ objects) (ap still here ∙ same ∙ sym here)
already (first ∷ objects) (suc place) object is same = ap (λ rest. first ∷ rest) (already objects place object is same)

above : (n : ℕ) (y : Object) (objects : List Object) → y.id ≡ n → AllByRecursion (λ later. n < later.id) objects → with_object y objects ≡ objects
above n y [] is all = refl
above n y (first ∷ objects) is all =
    (λ i. (if ne_eqb first.id y.id (λ same. omega (arith, same, is, all.0)) i then y else first) ∷ above n y objects is all.1 i)

later_id : (n : ℕ) (objects : List Object) (place : ℕ) (object : Object) → AllByRecursion (λ later. n < later.id) objects → slice_get objects place ≡ Some object → n < object.id
later_id n [] place object all is = absurd cc
later_id n (first ∷ objects) zero object all is = let here : first ≡ object = cc in subst (λ (o : Object). n < o.id) here all.0
later_id n (first ∷ objects) (suc place) object all is = later_id n objects place object all.1 is

-- to put the object at a place back, made one that has not moved
pub put_back : (objects : List Object) (place : ℕ) (object after : Object) → IsRising objects → slice_get objects place ≡ Some object → still object ≡ after → with_object after objects ≡ rested_at place objects
put_back [] place object after rise is made = absurd cc
put_back (first ∷ objects) zero object after rise is made =
    let here : first ≡ object = cc in
    let id : after.id ≡ first.id = ap (λ (o : Object). o.id) (sym made) ∙ same_id object ∙ ap (λ (o : Object). o.id) (sym here) in
    (λ i. (if eq-eqb first.id after.id (sym id) i then after else first) ∷ above first.id after objects id rise.0 i)
    ∙ ap (λ (o : Object). o ∷ objects) (sym made ∙ ap still (sym here))
put_back (first ∷ objects) (suc place) object after rise is made =
    let id : after.id ≡ object.id = ap (λ (o : Object). o.id) (sym made) ∙ same_id object in
    let less = later_id first.id objects place object rise.0 is in
    (λ i. (if ne_eqb first.id after.id (λ same. omega (arith, same, id, less)) i then after else first) ∷ put_back objects place object after rise.1 is made i)

pub has_id : (objects : List Object) (place : ℕ) (object : Object) → IsRising objects → slice_get objects place ≡ Some object → HasId object.id objects
has_id objects place object rise is = (object, found objects place object rise is)
  where
    found : (objects : List Object) (place : ℕ) (object : Object) → IsRising objects → slice_get objects place ≡ Some object → find_object object.id objects ≡ Some object
    found [] place object rise is = absurd cc
    found (first ∷ objects) zero object rise is =
        let here : first ≡ object = cc in
        ap (λ (b : Bool). if b then Some first else find_object object.id objects) (eq-eqb first.id object.id (ap (λ (o : Object). o.id) here)) ∙ ap Some here
    found (first ∷ objects) (suc place) object rise is =
        let less = later_id first.id objects place object rise.0 is in
        ap (λ (b : Bool). if b then Some first else find_object object.id objects) (ne_eqb first.id object.id (λ same. omega (arith, same, less))) ∙ found objects place object rise.1 is

pub tile_at : (objects : List Object) (place : ℕ) (object : Object) → AllByRecursion IsOnTile objects → slice_get objects place ≡ Some object → IsOnTile object
tile_at [] place object all is = absurd cc
tile_at (first ∷ objects) zero object all is = let here : first ≡ object = cc in subst IsOnTile here all.0
tile_at (first ∷ objects) (suc place) object all is = tile_at objects place object all.1 is

-- a creep that has moved, made one that has not; any other object is one already
pub resting : (object : Object) → is_creep object.kind ≡ true → still object ≡ record object { other_ticks = 0 }
resting object is = ap (λ (b : Bool). if b then record object { other_ticks = 0 } else object) is

pub no_creep : (object : Object) → is_creep object.kind ≡ false → still object ≡ object
no_creep object is = ap (λ (b : Bool). if b then record object { other_ticks = 0 } else object) is

pub not_moved : (object : Object) → object.other_ticks ≡ 0 → still object ≡ object
not_moved object zero_ticks = elim (is_creep object.kind) as (λ b. (if b then record object { other_ticks = 0 } else object) ≡ object) [ true ↦ (λ i. record object { other_ticks = sym zero_ticks i }) | false ↦ refl ]

-- ---- the first so many

pub none_rested : (objects : List Object) → rested_to 0 objects ≡ objects
none_rested [] = refl
none_rested (object ∷ objects) = refl

pub count_rested : (count : ℕ) (objects : List Object) → length (rested_to count objects) ≡ length objects
count_rested count [] = refl
count_rested zero (object ∷ objects) = refl
count_rested (suc count) (object ∷ objects) = ap suc (count_rested count objects)

pub one_more : (objects : List Object) (count : ℕ) → rested_at count (rested_to count objects) ≡ rested_to (suc count) objects
one_more [] count = refl
one_more (object ∷ objects) zero = ap (λ rest. still object ∷ rest) (sym (none_rested objects))
one_more (object ∷ objects) (suc count) = ap (λ rest. still object ∷ rest) (one_more objects count)

pub all_rested : (objects : List Object) (count : ℕ) → length objects ≤ count → rested_to count objects ≡ map still objects
all_rested [] count past = refl
all_rested (object ∷ objects) zero past = absurd (omega (arith, past))
all_rested (object ∷ objects) (suc count) past = ap (λ rest. still object ∷ rest) (all_rested objects count (omega (arith, past)))

pub tiles_rested : (objects : List Object) (count : ℕ) → AllByRecursion IsOnTile objects → AllByRecursion IsOnTile (rested_to count objects)
tiles_rested [] count all = tt
tiles_rested (object ∷ objects) zero all = all
tiles_rested (object ∷ objects) (suc count) all = (on_tile object all.0, tiles_rested objects count all.1)
