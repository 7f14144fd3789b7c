-- What a table's objects are once one is put in its place, added or taken out, at the place that a search by halving gave.
use Rattle.std.proofs.Common.{◌≡◌, ℕ, ◌<◌, ◌≤◌, leb, List, [], ◌∷◌, ◌++◌, length, get_or, set, Some, None, sym, ap, subst, refl, ◌∙◌, arith}
use Rattle.std.specs.List.{HoldsAt, insert, remove}
use Rattle.std.specs.List.Sorted.{IsPartitionPoint}
use Rattle.std.proofs.lemmas.Bool.{le-leb, lt-leb}
use Rattle.room_table.specs.declared.object.Object.{Object}
use Rattle.room_table.specs.Tables.{HasId, HasNoId, find_object, find_from, with_object, with_new, without}
use Rattle.room_table.specs.inner.Placed.{no_object, object_in, standing, tile_of_object, AreKnown, IsPlaced, StandsIn}
use Rattle.room_table.proofs.Keyed.{id_of, rises_from_objects, objects_from_rises}
use Rattle.room_table.proofs.Rising.{Rises, added_there, parted, place_of, set-at, rises-replaced, rises-filter, is_other, find-at, remove-at}
use Rattle.room_table.proofs.Searched.{find_at, find_nowhere}
use Rattle.room_table.proofs.Placed.{object_at, count_standing, standing_set, placed_set, standing_insert, placed_insert, standing_remove, placed_remove}

pub standing_equal : {slots new_slots : List Object} {order new_order : List ℕ} → new_slots ≡ slots → new_order ≡ order → standing new_slots new_order ≡ standing slots order
standing_equal {slots = slots} {new_order = new_order} same_slots same_order = ap (λ s. standing s new_order) same_slots ∙ ap (standing slots) same_order

pub placed_equal : {slots new_slots : List Object} {order new_order tiles new_tiles : List ℕ} → new_slots ≡ slots → new_order ≡ order → new_tiles ≡ tiles → IsPlaced slots order tiles → IsPlaced new_slots new_order new_tiles
placed_equal {slots = slots} {new_slots = new_slots} {order = order} {new_order = new_order} {tiles = tiles} {new_tiles = new_tiles} same_slots same_order same_tiles placed =
    subst (λ s. IsPlaced s new_order new_tiles) (sym same_slots) (subst (λ o. IsPlaced slots o new_tiles) (sym same_order) (subst (λ t. IsPlaced slots order t) (sym same_tiles) placed))

-- an object is added
pub record Inserted (slots : List Object) (order tiles : List ℕ) (place : ℕ) (object : Object) : Type 0 where
  pub within : place ≤ length order
  pub placed : IsPlaced (slots ++ object ∷ []) (insert order place (length slots)) (tiles ++ tile_of_object object ∷ [])
  pub stands : standing (slots ++ object ∷ []) (insert order place (length slots)) ≡ insert (standing slots order) place object
  pub objects : insert (standing slots order) place object ≡ with_new object (standing slots order)

pub inserted : (slots : List Object) (order tiles : List ℕ) (place : ℕ) (object : Object) (seen : List Object) → seen ≡ standing slots order → IsPlaced slots order tiles → place ≤ length seen → IsPartitionPoint (λ x. id_of x < id_of object) (λ x. id_of object ≤ id_of x) seen place → HasNoId object.id (standing slots order) → Inserted slots order tiles place object
inserted slots order tiles place object seen same placed seen_within point absent =
    let added = added_there id_of object seen (standing slots order) place same (rises_from_objects _ placed.rising) seen_within point absent in
    let within : place ≤ length order = omega (arith, added.0, count_standing slots order) in record {
      within = within;
      placed = placed_insert slots order tiles place object placed within (objects_from_rises _ added.1);
      stands = standing_insert slots order tiles place object placed within;
      objects = added.2;
    }

-- an object is put in the place of that of its id
pub record Replaced (slots : List Object) (order tiles : List ℕ) (slot : ℕ) (object : Object) : Type 0 where
  pub place : ℕ
  pub placed : IsPlaced (set slots slot object) order (set tiles slot (tile_of_object object))
  pub stands : standing (set slots slot object) order ≡ set (standing slots order) place object
  pub objects : set (standing slots order) place object ≡ with_object object (standing slots order)

pub replaced : (slots : List Object) (order tiles : List ℕ) (slot : ℕ) (object : Object) → IsPlaced slots order tiles → StandsIn object.id slots order slot → Replaced slots order tiles slot object
replaced slots order tiles slot object placed stands =
    let objects = standing slots order in
    let rises = rises_from_objects _ placed.rising in
    let place = stands.place in
    let within : place < length objects = omega (arith, stands.within, count_standing slots order) in
    let same : id_of (get_or objects place no_object) ≡ id_of object = ap id_of (object_at slots order place no_object stands.within) ∙ ap (λ n. id_of (object_in slots n)) stands.here ∙ stands.its in
    let done = set-at id_of object objects place no_object rises within same in record {
      place = place;
      placed = placed_set slots order tiles place slot object placed stands.within stands.here (objects_from_rises _ (subst (Rises id_of) (sym done) (rises-replaced id_of object objects rises)));
      stands = standing_set slots order tiles place slot object placed stands.within stands.here;
      objects = done;
    }

pub stands_within : (slots : List Object) (order : List ℕ) (place id : ℕ) → Rises id_of (standing slots order) → place ≤ length (standing slots order) → IsPartitionPoint (λ x. id_of x < id) (λ x. id ≤ id_of x) (standing slots order) place → HasId id (standing slots order) → place < length order
stands_within slots order place id rises within point there =
    let at = place_of id_of id (standing slots order) place there.0 rises (parted id_of id (standing slots order) place within point) there.1 in
    omega (arith, at.0, count_standing slots order)

pub stands_in : (slots : List Object) (order : List ℕ) (place id : ℕ) → AreKnown slots order → Rises id_of (standing slots order) → place ≤ length (standing slots order) → IsPartitionPoint (λ x. id_of x < id) (λ x. id ≤ id_of x) (standing slots order) place → HasId id (standing slots order) → StandsIn id slots order (get_or order place 0)
stands_in slots order place id known rises within point there =
    let at = place_of id_of id (standing slots order) place there.0 rises (parted id_of id (standing slots order) place within point) there.1 in
    let lower : place < length order = stands_within slots order place id rises within point there in record {
      place = place;
      within = lower;
      here = refl;
      its = ap id_of (sym (object_at slots order place no_object lower)) ∙ at.1 no_object;
    }

-- the object of an id is found, and taken out
pub record Taken (slots : List Object) (order tiles : List ℕ) (place id : ℕ) : Type 0 where
  pub within : place < length order
  pub placed : IsPlaced slots (remove order place) (set tiles (get_or order place 0) 2500)
  pub objects : standing slots (remove order place) ≡ without id (standing slots order)
  pub found : find_object id (standing slots order) ≡ Some (object_in slots (get_or order place 0))

pub taken : (slots : List Object) (order tiles : List ℕ) (place id : ℕ) (seen : List Object) → seen ≡ standing slots order → IsPlaced slots order tiles → place < length order → HoldsAt (λ o. o.id ≡ id) seen place → Taken slots order tiles place id
taken slots order tiles place id seen same placed within there =
    let objects = standing slots order in
    let rises = rises_from_objects _ placed.rising in
    let here : id_of (get_or objects place no_object) ≡ id = subst (λ (os : List Object). id_of (get_or os place no_object) ≡ id) same (there no_object) in
    let lower : place < length objects = omega (arith, count_standing slots order) in
    let removed = remove-at id_of id objects place no_object rises lower here in record {
      within = within;
      placed = placed_remove slots order tiles place (get_or order place 0) no_object placed within refl (objects_from_rises _ (subst (Rises id_of) (sym removed) (rises-filter id_of (is_other id_of id) objects rises)));
      objects = standing_remove slots order tiles place (get_or order place 0) no_object placed within refl ∙ removed;
      found = find-at id_of id objects place no_object rises lower here ∙ ap Some (object_at slots order place no_object within);
    }

-- the object of the least id from one on
pub from_there : (objects : List Object) (place id : ℕ) → IsPartitionPoint (λ x. id_of x < id) (λ x. id ≤ id_of x) objects place → place < length objects → find_from id objects ≡ Some (get_or objects place no_object)
from_there objects place id point within =
    find_at (λ (o : Object). leb id o.id) objects place no_object within (le-leb id _ (point.1 place no_object (omega arith) within)) (λ k lt. lt-leb id _ (point.0 k no_object (omega arith) (omega arith)))

pub from_nowhere : (objects : List Object) (place id : ℕ) → IsPartitionPoint (λ x. id_of x < id) (λ x. id ≤ id_of x) objects place → length objects ≤ place → find_from id objects ≡ None
from_nowhere objects place id point past =
    find_nowhere (λ (o : Object). leb id o.id) objects no_object (λ k lt. lt-leb id _ (point.0 k no_object (omega arith) (omega arith)))
