-- Rooms of which one has another table.
use Rattle.std.proofs.Common.{◌≡◌, ℕ, zero, suc, ◌<◌, ◌==◌, nat_lt, not, cond, Bool, true, false, List, [], ◌∷◌, ◌++◌, Some, None, refl, sym, ap, subst, ◌∙◌, arith, slice_get, slice_set}
use Rattle.std.specs.List.{AllByRecursion, filter}
use Rattle.std.specs.Ordering.{nat_cmp, eq_by_cmp}
use Rattle.std.specs.Cmp.{nat_cmp_total}
use Rattle.std.specs.FinMap.{get, get-insert, get-remove}
use Rattle.std.proofs.lemmas.Bool.{ltb-true}
use Rattle.room_table.specs.declared.object.Object.{Object}
use Rattle.room_table.proofs.Rising.{Rises, all_weaker, rises-filter}
use Rattle.room_table.proofs.Keyed.{rises_from_objects, objects_from_rises}
use Rattle.world_rules.specs.RoomParts.{RoomPart, table_part}
use Rattle.world_rules.proofs.TableParts.{get_table_part, part_new, part_without}
use Rattle.object_store.specs.declared.world.Room.{Room}
use Rattle.room_table.specs.Tallies.{no_tallies}
use Rattle.room_table.specs.Tables.{Table, IsRising, find_object, with_new, without}
use Rattle.object_store.specs.Lending.{with_table}

abbrev id_of : Object → ℕ
id_of object = object.id

-- what a loan of a table leaves
pub lent : (rooms : List Room) (index : ℕ) (room : Room) (table : Table) → slice_get rooms index ≡ Some room → with_table index table rooms ≡ slice_set rooms index (record room { table = table })
lent [] index room table is = absurd cc
lent (first ∷ rooms) zero room table is = let same : first ≡ room = cc in ap (λ (r : Room). record r { table = table } ∷ rooms) same
lent (first ∷ rooms) (suc index) room table is = ap (λ rest. first ∷ rest) (lent rooms index room table is)

-- ---- a room in the place of another

pub get_set_same : {X : Type 0} (xs : List X) (i : ℕ) (old x : X) → slice_get xs i ≡ Some old → slice_get (slice_set xs i x) i ≡ Some x
get_set_same [] i old x is = absurd cc
get_set_same (first ∷ xs) zero old x is = refl
get_set_same (first ∷ xs) (suc i) old x is = get_set_same xs i old x is

pub get_set_other : {X : Type 0} (xs : List X) (i k : ℕ) (x : X) → (k ≡ i → ⊥) → slice_get (slice_set xs i x) k ≡ slice_get xs k
get_set_other [] zero k x apart = refl
get_set_other [] (suc i) k x apart = refl
get_set_other (first ∷ xs) zero zero x apart = absurd (apart refl)
get_set_other (first ∷ xs) zero (suc k) x apart = refl
get_set_other (first ∷ xs) (suc i) zero x apart = refl
get_set_other (first ∷ xs) (suc i) (suc k) x apart = get_set_other xs i k x (λ same. apart (ap suc same))

pub all_set : {X : Type 0} (P : X → Type 0) (xs : List X) (i : ℕ) (x : X) → AllByRecursion P xs → P x → AllByRecursion P (slice_set xs i x)
all_set P [] zero x all holds = tt
all_set P [] (suc i) x all holds = tt
all_set P (first ∷ xs) zero x all holds = (holds, all.1)
all_set P (first ∷ xs) (suc i) x all holds = (all.0, all_set P xs i x all.1 holds)

pub all_get : {X : Type 0} (P : X → Type 0) (xs : List X) (i : ℕ) (x : X) → AllByRecursion P xs → slice_get xs i ≡ Some x → P x
all_get P [] i x all is = absurd cc
all_get P (first ∷ xs) zero x all is = let same : first ≡ x = cc in subst P same all.0
all_get P (first ∷ xs) (suc i) x all is = all_get P xs i x all.1 is

-- ---- objects in rising id

around : (xs ys : List Object) (n : ℕ) (z : Object) → Rises id_of xs → Rises id_of ys → AllByRecursion (λ x. x.id < n) xs → AllByRecursion (λ y. n < y.id) ys → z.id ≡ n → Rises id_of (xs ++ z ∷ ys)
around [] ys n z low high below above is = (all_weaker (λ y. n < y.id) (λ y. z.id < y.id) (λ y less. omega (arith, less, is)) ys above, high)
around (x ∷ xs) ys n z low high below above is = (
  all_after xs low.0,
  around xs ys n z low.1 high below.1 above is,
)
  where
    all_after : (xs : List Object) → AllByRecursion (λ y. x.id < y.id) xs → AllByRecursion (λ y. x.id < y.id) (xs ++ z ∷ ys)
    all_after [] all = (omega (arith, below.0, is), all_weaker (λ y. n < y.id) (λ y. x.id < y.id) (λ y less. omega (arith, less, below.0)) ys above)
    all_after (y ∷ more) all = (all.0, all_after more all.1)

passing : (P : Object → Type 0) (test : Object → Bool) (xs : List Object) → ((x : Object) → test x ≡ true → P x) → AllByRecursion P (filter test xs)
passing P test [] from = tt
passing P test (x ∷ xs) from =
    let rest = passing P test xs from in
    elim (test x) as (λ b. test x ≡ b → AllByRecursion P (cond b (x ∷ filter test xs) (filter test xs))) [ true ↦ λ is. (from x is, rest) | false ↦ λ is. rest ] refl

pub rising_without : (id : ℕ) (objects : List Object) → IsRising objects → IsRising (without id objects)
rising_without id objects rise = objects_from_rises _ (rises-filter id_of (λ o. not (o.id == id)) objects (rises_from_objects objects rise))

pub rising_new : (object : Object) (objects : List Object) → IsRising objects → IsRising (with_new object objects)
rising_new object objects rise =
    let rises = rises_from_objects objects rise in
    objects_from_rises _ (around
    (filter (λ o. nat_lt o.id object.id) objects)
    (filter (λ o. nat_lt object.id o.id) objects)
    object.id
    object
    (rises-filter id_of (λ o. nat_lt o.id object.id) objects rises)
    (rises-filter id_of (λ o. nat_lt object.id o.id) objects rises)
    (passing (λ o. o.id < object.id) (λ o. nat_lt o.id object.id) objects (λ o is. ltb-true o.id object.id is))
    (passing (λ o. object.id < o.id) (λ o. nat_lt object.id o.id) objects (λ o is. ltb-true object.id o.id is))
    refl)

-- ---- what is found in a table

bare : List Object → Table
bare objects = record { index = 0; next = 0; objects = objects; spare = 0; tallies = no_tallies }

pub found_new : (object : Object) (objects : List Object) (q : ℕ) → find_object q (with_new object objects) ≡ cond (eq_by_cmp nat_cmp q object.id) (Some object) (find_object q objects)
unfolding bare
found_new object objects q =
    sym (get_table_part [] (bare (with_new object objects)) q)
    ∙ ap (λ (part : RoomPart). get part.objects q) (part_new [] (bare objects) object)
    ∙ get-insert nat_cmp_total (table_part [] (bare objects)).objects object.id object q
    ∙ ap (cond (eq_by_cmp nat_cmp q object.id) (Some object)) (get_table_part [] (bare objects) q)

pub found_without : (id : ℕ) (objects : List Object) (q : ℕ) → find_object q (without id objects) ≡ cond (eq_by_cmp nat_cmp q id) None (find_object q objects)
unfolding bare
found_without id objects q =
    sym (get_table_part [] (bare (without id objects)) q)
    ∙ ap (λ (part : RoomPart). get part.objects q) (part_without [] (bare objects) id)
    ∙ get-remove nat_cmp_total (table_part [] (bare objects)).objects id q
    ∙ ap (cond (eq_by_cmp nat_cmp q id) None) (get_table_part [] (bare objects) q)
