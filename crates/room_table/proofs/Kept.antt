-- The slot of a room's controller, once an object is put in its place, added or taken out.
use Rattle.std.proofs.Common.{◌≡◌, ◌≢◌, ℕ, zero, suc, ◌<◌, ◌≤◌, Bool, true, false, cond, List, [], ◌∷◌, ◌++◌, length, get_or, set, Option, Some, None, IfSome, option_map, refl, sym, ap, subst, ◌∙◌, inl, inr, arith, length-set, get_or-set_other, get_or-set_same}
use Rattle.std.specs.List.{find, insert, remove}
use Rattle.std.proofs.lemmas.Bool.{both_ways}
use Rattle.std.proofs.lemmas.List.{get_or_append_left, length_push}
use Rattle.std.proofs.lemmas.List.Folds.{find_past}
use Rattle.game_tables.specs.Kinds.{is_controller}
use Rattle.room_table.specs.declared.object.Object.{Object}
use Rattle.room_table.specs.Controllers.{controller_among}
use Rattle.room_table.specs.inner.Kept.{IsController, Stays}
use Rattle.room_table.specs.inner.Placed.{no_object, object_in, standing, AreKnown, IsPlaced, StandsIn}
use Rattle.room_table.proofs.Keyed.{id_of, rises_from_objects}
use Rattle.room_table.proofs.Moved.{found_within}
use Rattle.room_table.proofs.Placed.{object_at, count_standing, standing_set, standing_insert, standing_remove}
use Rattle.room_table.proofs.Rising.{Rises, increasing}

-- ---- what is found first

-- one that fails is added or taken out
find_insert : {X : Type 0} (p : X → Bool) (xs : List X) (i : ℕ) (y : X) → p y ≡ false → find p (insert xs i y) ≡ find p xs
find_insert p [] zero y fails = rw fails refl
find_insert p [] (suc i) y fails = rw fails refl
find_insert p (x ∷ xs) zero y fails = rw fails refl
find_insert p (x ∷ xs) (suc i) y fails =
    let rest = find_insert p xs i y fails in
    elim (p x) as (λ b. cond b (Some x) (find p (insert xs i y)) ≡ cond b (Some x) (find p xs)) [ true ↦ refl | false ↦ rest ]

find_remove : {X : Type 0} (p : X → Bool) (xs : List X) (i : ℕ) (d : X) → p (get_or xs i d) ≡ false → find p (remove xs i) ≡ find p xs
find_remove p [] zero d fails = refl
find_remove p [] (suc i) d fails = refl
find_remove p (x ∷ xs) zero d fails = rw fails refl
find_remove p (x ∷ xs) (suc i) d fails =
    let rest = find_remove p xs i d fails in
    elim (p x) as (λ b. cond b (Some x) (find p (remove xs i)) ≡ cond b (Some x) (find p xs)) [ true ↦ refl | false ↦ rest ]

-- one that passes is put in the place of that which was found
find_same : {X : Type 0} (key : X → ℕ) (p : X → Bool) (xs : List X) (i : ℕ) (y d found : X) → Rises key xs → i < length xs → find p xs ≡ Some found → key found ≡ key (get_or xs i d) → p y ≡ true → find p (set xs i y) ≡ Some y
find_same key p [] i y d found rises within is same passes = absurd (omega arith)
find_same key p (x ∷ xs) zero y d found rises within is same passes = rw passes refl
find_same key p (x ∷ xs) (suc i) y d found rises within is same passes =
    let below : key x < key (get_or xs i d) = increasing key (x ∷ xs) rises 0 (suc i) d (omega arith) within in
    elim (p x) as (λ b. cond b (Some x) (find p xs) ≡ Some found → cond b (Some x) (find p (set xs i y)) ≡ Some y) [
      | true ↦ λ here. (let first : x ≡ found = cc in absurd (omega (arith, below, same, ap key first)))
      | false ↦ λ later. find_same key p xs i y d found rises.1 (omega arith) later same passes
    ] is

-- ---- the kept slot

abbrev pub is_it : Object → Bool
is_it object = is_controller object.kind

known_in : (slots more : List Object) (kept : Option ℕ) → length slots ≤ length more → IfSome kept (λ s. s < length slots) → IfSome kept (λ s. s < length more)
known_in slots more None least known = tt
known_in slots more (Some s) least known = omega arith

-- it is none in which no controller is
kept_apart : (slots : List Object) (order : List ℕ) (s slot : ℕ) → IsController slots order (Some s) → is_controller (object_in slots slot).kind ≡ false → s ≢ slot
kept_apart slots order s slot at was same =
    let found = found_within is_it (standing slots order) (object_in slots s) (sym at.its) in
    both_ways (is_it (object_in slots s)) (ap (λ n. is_it (object_in slots n)) same ∙ was) found.1

read_set : (slots : List Object) (order : List ℕ) (slot : ℕ) (object : Object) (kept : Option ℕ) → IsController slots order kept → is_controller (object_in slots slot).kind ≡ false → option_map (object_in (set slots slot object)) kept ≡ option_map (object_in slots) kept
read_set slots order slot object None at was = refl
read_set slots order slot object (Some s) at was = ap Some (get_or-set_other slots slot s object no_object (kept_apart slots order s slot at was))

read_more : (slots : List Object) (object : Object) (kept : Option ℕ) → IfSome kept (λ s. s < length slots) → option_map (object_in (slots ++ object ∷ [])) kept ≡ option_map (object_in slots) kept
read_more slots object None known = refl
read_more slots object (Some s) known = ap Some (get_or_append_left slots (object ∷ []) no_object s known)

-- an object is put into a slot
module _ (slots : List Object) (order tiles : List ℕ) (slot : ℕ) (object : Object) (placed : IsPlaced slots order tiles) (stands : StandsIn object.id slots order slot) where
  was_there : get_or (standing slots order) stands.place no_object ≡ object_in slots slot
  was_there = object_at slots order stands.place no_object stands.within ∙ ap (object_in slots) stands.here

  now_stands : standing (set slots slot object) order ≡ set (standing slots order) stands.place object
  now_stands = standing_set slots order tiles stands.place slot object placed stands.within stands.here

  set_others : (kept : Option ℕ) → IsController slots order kept → is_controller object.kind ≡ false → is_controller (object_in slots slot).kind ≡ false → IsController (set slots slot object) order kept
  set_others kept at other was = record {
    known = known_in slots (set slots slot object) kept (omega (arith, length-set slots slot object)) at.known;
    its = read_set slots order slot object kept at was ∙ at.its ∙ sym (ap controller_among now_stands ∙ find_past is_it (standing slots order) stands.place object no_object (ap is_it was_there ∙ was) other);
  }

  set_controller : IsController slots order (Some slot) → is_controller object.kind ≡ true → IsController (set slots slot object) order (Some slot)
  set_controller at is =
      let known : slot < length slots = at.known in
      let within : stands.place < length (standing slots order) = omega (arith, stands.within, count_standing slots order) in record {
        known = omega (arith, known, length-set slots slot object);
        its = ap Some (get_or-set_same slots slot object no_object known) ∙ sym (ap controller_among now_stands ∙ find_same id_of is_it (standing slots order) stands.place object no_object (object_in slots slot) (rises_from_objects _ placed.rising) within (sym at.its) (ap id_of (sym was_there)) is);
      }

  pub kept_set : (kept : Option ℕ) → IsController slots order kept → Stays kept slot (object_in slots slot).kind object.kind → IsController (set slots slot object) order kept
  kept_set kept at (inl here) = subst (IsController (set slots slot object) order) (sym here.1) (set_controller (subst (IsController slots order) here.1 at) here.0)
  kept_set kept at (inr others) = set_others kept at others.0 others.1

-- an object that is no controller is added
pub kept_insert : (slots : List Object) (order tiles : List ℕ) (place : ℕ) (object : Object) (kept : Option ℕ) → IsPlaced slots order tiles → place ≤ length order → IsController slots order kept → is_controller object.kind ≡ false → IsController (slots ++ object ∷ []) (insert order place (length slots)) kept
kept_insert slots order tiles place object kept placed within at other = record {
  known = known_in slots (slots ++ object ∷ []) kept (omega (arith, length_push slots object)) at.known;
  its = read_more slots object kept at.known ∙ at.its ∙ sym (ap controller_among (standing_insert slots order tiles place object placed within) ∙ find_insert is_it (standing slots order) place object other);
}

-- or one is taken out
pub kept_remove : (slots : List Object) (order tiles : List ℕ) (place : ℕ) (kept : Option ℕ) → IsPlaced slots order tiles → place < length order → IsController slots order kept → is_controller (object_in slots (get_or order place 0)).kind ≡ false → IsController slots (remove order place) kept
kept_remove slots order tiles place kept placed within at other =
    let here : is_it (get_or (standing slots order) place no_object) ≡ false = ap is_it (object_at slots order place no_object within) ∙ other in record {
      known = at.known;
      its = at.its ∙ sym (ap controller_among (standing_remove slots order tiles place (get_or order place 0) no_object placed within refl) ∙ find_remove is_it (standing slots order) place no_object here);
    }

pub kept_equal : {slots new_slots : List Object} {order new_order : List ℕ} {kept : Option ℕ} → new_slots ≡ slots → new_order ≡ order → IsController slots order kept → IsController new_slots new_order kept
kept_equal {slots = slots} {new_order = new_order} {kept = kept} same_slots same_order at =
    subst (λ s. IsController s new_order kept) (sym same_slots) (subst (λ o. IsController slots o kept) (sym same_order) at)

pub known_equal : {slots new_slots : List Object} {order new_order : List ℕ} → new_slots ≡ slots → new_order ≡ order → AreKnown slots order → AreKnown new_slots new_order
known_equal {slots = slots} {new_order = new_order} same_slots same_order known =
    subst (λ s. AreKnown s new_order) (sym same_slots) (subst (λ o. AreKnown slots o) (sym same_order) known)
