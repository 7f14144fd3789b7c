-- The objects of a table, by the slots in which they stand.
use Rattle.std.proofs.Common.{◌≡◌, ◌≢◌, ℕ, zero, suc, ◌+◌, ◌<◌, ◌≤◌, List, [], ◌∷◌, ◌++◌, length, get_or, set, take, drop, map, sym, ap, subst, ◌∙◌, refl, inl, inr, arith, length-set, get_or-set_other, get_or-set_same}
use Rattle.std.specs.List.{AllByRecursion, insert, remove, range_with_len}
use Rattle.std.proofs.lemmas.Bool.{cases_eq, cases_lt, cases_order}
use Rattle.std.proofs.lemmas.List.{length-map, map-append, get_or-map, get_or_read, get_or_default, get_or_past, get_or_append_left, get_or_at, length_push, same_lists, take-map, drop-map}
use Rattle.std.proofs.lemmas.List.Edits.{length-insert, length-remove, get_or-remove_below, get_or-remove_above}
use Rattle.std.proofs.lemmas.List.Elements.{All-from_recursion, recursion_from_All}
use Rattle.std.proofs.lemmas.List.FromFn.{length-range_with_len, get_or-range_with_len}
use Rattle.room_table.specs.declared.object.Object.{Object}
use Rattle.room_table.specs.Tables.{IsRising}
use Rattle.room_table.specs.inner.Chains.{tile_at}
use Rattle.room_table.specs.inner.Placed.{no_object, object_in, standing, tile_of_object, Among, AreKnown, IsPlaced}
use Rattle.room_table.proofs.Keyed.{id_of, rises_from_objects}
use Rattle.room_table.proofs.Rising.{non_decreasing, increasing, all_weaker, all_insert, all_remove, all_both}

pub object_at : (slots : List Object) (order : List ℕ) (i : ℕ) (d : Object) → i < length order → get_or (standing slots order) i d ≡ object_in slots (get_or order i 0)
object_at slots order i d within = get_or-map (object_in slots) order i 0 d within

pub count_standing : (slots : List Object) (order : List ℕ) → length (standing slots order) ≡ length order
count_standing slots order = length-map order (object_in slots)

pub known_at : (slots : List Object) (order : List ℕ) (i : ℕ) → AreKnown slots order → i < length order → get_or order i 0 < length slots
known_at slots order i known within = All-from_recursion (λ slot. slot < length slots) order known i 0 within

-- what is read in a slot of the order
pub object_read : (slots : List Object) (order : List ℕ) (i : ℕ) (o : Object) → AreKnown slots order → i < length order → o ≡ get_or slots (get_or order i 0) o → o ≡ object_in slots (get_or order i 0)
object_read slots order i o known within read = get_or_read slots (get_or order i 0) o (known_at slots order i known within) read no_object

pub ids_rise : (slots : List Object) (order : List ℕ) → IsRising (standing slots order) → (i j : ℕ) → i ≤ j → j < length order → id_of (object_in slots (get_or order i 0)) ≤ id_of (object_in slots (get_or order j 0))
ids_rise slots order rising i j order_of within =
    let count = count_standing slots order in
    let least = non_decreasing id_of (standing slots order) (rises_from_objects _ rising) i j no_object order_of (omega arith) in
    let first = object_at slots order i no_object (omega arith) in
    let second = object_at slots order j no_object within in
    subst (λ o. id_of o ≤ id_of (object_in slots (get_or order j 0))) first (subst (λ o. id_of (get_or (standing slots order) i no_object) ≤ id_of o) second least)

-- no slot stands twice in the order
below_apart : (slots : List Object) (order : List ℕ) → IsRising (standing slots order) → (i j : ℕ) → i < j → j < length order → get_or order i 0 ≢ get_or order j 0
below_apart slots order rising i j less within same =
    let count = count_standing slots order in
    let lower = increasing id_of (standing slots order) (rises_from_objects _ rising) i j no_object less (omega arith) in
    let one = ap id_of (object_at slots order i no_object (omega arith)) in
    let two = ap id_of (object_at slots order j no_object within) in
    let equal : id_of (object_in slots (get_or order i 0)) ≡ id_of (object_in slots (get_or order j 0)) = ap (λ n. id_of (object_in slots n)) same in
    omega (arith, lower, one, two, equal)

pub slots_apart : (slots : List Object) (order : List ℕ) → IsRising (standing slots order) → (i j : ℕ) → i ≢ j → i < length order → j < length order → get_or order i 0 ≢ get_or order j 0
slots_apart slots order rising i j apart i_within j_within = elim (cases_order i j) [
  | inl same ↦ absurd (apart same)
  | inr (inl below) ↦ below_apart slots order rising i j below j_within
  | inr (inr above) ↦ λ same. below_apart slots order rising j i above i_within (sym same)
]

-- which slots stand in an order
pub among_at : (order : List ℕ) (i : ℕ) → i < length order → Among (get_or order i 0) order
among_at [] i within = absurd (omega arith)
among_at (slot ∷ order) zero within = inl refl
among_at (slot ∷ order) (suc i) within = inr (among_at order i (omega arith))

pub among_place : (slot : ℕ) (order : List ℕ) → Among slot order → (i : ℕ) × (i < length order) × (get_or order i 0 ≡ slot)
among_place slot [] among = absurd among
among_place slot (first ∷ order) (inl here) = (0, omega arith, here)
among_place slot (first ∷ order) (inr later) = let rest = among_place slot order later in (suc rest.0, (let within = rest.1 in omega arith), rest.2)

pub among_insert : (slot other : ℕ) (order : List ℕ) (i : ℕ) → Among slot order → Among slot (insert order i other)
among_insert slot other [] i among = absurd among
among_insert slot other (first ∷ order) zero among = inr among
among_insert slot other (first ∷ order) (suc i) (inl here) = inl here
among_insert slot other (first ∷ order) (suc i) (inr later) = inr (among_insert slot other order i later)

pub among_inserted : (slot : ℕ) (order : List ℕ) (i : ℕ) → Among slot (insert order i slot)
among_inserted slot [] zero = inl refl
among_inserted slot [] (suc i) = inl refl
among_inserted slot (first ∷ order) zero = inl refl
among_inserted slot (first ∷ order) (suc i) = inr (among_inserted slot order i)

among_remove : (slot : ℕ) (order : List ℕ) (i : ℕ) → get_or order i 0 ≢ slot → Among slot order → Among slot (remove order i)
among_remove slot [] i apart among = absurd among
among_remove slot (first ∷ order) zero apart (inl here) = absurd (apart here)
among_remove slot (first ∷ order) zero apart (inr later) = later
among_remove slot (first ∷ order) (suc i) apart (inl here) = inl here
among_remove slot (first ∷ order) (suc i) apart (inr later) = inr (among_remove slot order i apart later)

on_tile_known : (tiles : List ℕ) (slot : ℕ) → tile_at tiles slot < 2500 → slot < length tiles
on_tile_known tiles slot low = elim (cases_lt slot (length tiles)) [
  | inl within ↦ within
  | inr past ↦ let off : tile_at tiles slot ≡ 2500 = get_or_past tiles slot 2500 past in absurd (omega arith)
]

-- the same objects stand in the same order
pub standing_same : (old new : List Object) (order : List ℕ) → AllByRecursion (λ slot. object_in new slot ≡ object_in old slot) order → standing new order ≡ standing old order
standing_same old new [] same = refl
standing_same old new (slot ∷ order) same = ap (λ o. o ∷ standing new order) same.0 ∙ ap (λ os. object_in old slot ∷ os) (standing_same old new order same.1)

-- one object is replaced
module _ (slots : List Object) (order tiles : List ℕ) (place slot : ℕ) (object : Object) (placed : IsPlaced slots order tiles) (within : place < length order) (here : get_or order place 0 ≡ slot) where
  slot_known : slot < length slots
  slot_known = subst (λ n. n < length slots) here (known_at slots order place placed.known within)

  pub standing_set : standing (set slots slot object) order ≡ set (standing slots order) place object
  standing_set =
      let count = count_standing slots order in
      let new_count = count_standing (set slots slot object) order in
      let set_count = length-set (standing slots order) place object in
      same_lists (standing (set slots slot object) order) (set (standing slots order) place object) (omega arith) (λ k d lt.
      let k_within : k < length order = omega arith in
      object_at (set slots slot object) order k d k_within ∙ (elim (cases_eq k place) [
        | inl same ↦
            ap (λ n. object_in (set slots slot object) (get_or order n 0)) same ∙ ap (object_in (set slots slot object)) here ∙ get_or-set_same slots slot object no_object slot_known ∙ sym (ap (λ n. get_or (set (standing slots order) place object) n d) same ∙ get_or-set_same (standing slots order) place object d (omega arith))
        | inr apart ↦
            let other : get_or order k 0 ≢ slot = λ same. slots_apart slots order placed.rising k place apart k_within within (same ∙ sym here) in
            get_or-set_other slots slot (get_or order k 0) object no_object other ∙ sym (get_or-set_other (standing slots order) place k object d apart ∙ object_at slots order k d k_within)
      ]))

  tile_set : (k : ℕ) → tile_at tiles k ≡ tile_of_object (object_in slots k) → tile_at (set tiles slot (tile_of_object object)) k ≡ tile_of_object (object_in (set slots slot object) k)
  tile_set k was = let tiled = placed.tiled in let known = slot_known in elim (cases_eq k slot) [
    | inl same ↦
        ap (tile_at (set tiles slot (tile_of_object object))) same ∙ get_or-set_same tiles slot (tile_of_object object) 2500 (omega arith) ∙ sym (ap (λ n. tile_of_object (object_in (set slots slot object) n)) same ∙ ap tile_of_object (get_or-set_same slots slot object no_object known))
    | inr apart ↦
        get_or-set_other tiles slot k (tile_of_object object) 2500 apart ∙ was ∙ sym (ap tile_of_object (get_or-set_other slots slot k object no_object apart))
  ]

  pub placed_set : IsRising (set (standing slots order) place object) → IsPlaced (set slots slot object) order (set tiles slot (tile_of_object object))
  placed_set rising =
      let count = length-set slots slot object in
      let tiles_count = length-set tiles slot (tile_of_object object) in record {
        rising = subst IsRising (sym standing_set) rising;
        known = all_weaker (λ k. k < length slots) (λ k. k < length (set slots slot object)) (λ k lt. omega arith) order placed.known;
        count = let least = placed.count in omega arith;
        tiled = tiles_count ∙ placed.tiled ∙ sym count;
        here = all_weaker (λ k. tile_at tiles k ≡ tile_of_object (object_in slots k)) (λ k. tile_at (set tiles slot (tile_of_object object)) k ≡ tile_of_object (object_in (set slots slot object) k)) tile_set order placed.here;
        listed = λ k low. elim (cases_eq k slot) [
          | inl same ↦ subst (λ n. Among n order) (here ∙ sym same) (among_at order place within)
          | inr apart ↦ placed.listed k (subst (λ n. n < 2500) (get_or-set_other tiles slot k (tile_of_object object) 2500 apart) low)
        ];
      }

  -- or it is taken out
  others : AllByRecursion (λ k. k ≢ slot) (remove order place)
  others = recursion_from_All (λ k. k ≢ slot) (remove order place) (λ k d lt same.
      let count = length-remove order place within in
      elim (cases_lt k place) [
        | inl below ↦ slots_apart slots order placed.rising k place (λ e. omega arith) (omega arith) within (get_or_default order k 0 d (omega arith) ∙ sym (get_or-remove_below order place d k below within) ∙ same ∙ sym here)
        | inr above ↦ slots_apart slots order placed.rising (k + 1) place (λ e. omega arith) (omega arith) within (get_or_default order (k + 1) 0 d (omega arith) ∙ sym (get_or-remove_above order place d k above within) ∙ same ∙ sym here)
      ])

  pub standing_remove : standing slots (remove order place) ≡ remove (standing slots order) place
  standing_remove =
      map-append (object_in slots) (take place order) (drop (suc place) order) ∙ ap (λ os. os ++ standing slots (drop (suc place) order)) (sym (take-map (object_in slots) place order)) ∙ ap (λ os. take place (standing slots order) ++ os) (sym (drop-map (object_in slots) (suc place) order))

  pub placed_remove : IsRising (remove (standing slots order) place) → IsPlaced slots (remove order place) (set tiles slot 2500)
  placed_remove rising = record {
    rising = subst IsRising (sym standing_remove) rising;
    known = all_remove (λ k. k < length slots) order place placed.known;
    count = let least = placed.count in let less = length-remove order place within in omega arith;
    tiled = length-set tiles slot 2500 ∙ placed.tiled;
    here = all_both (λ k. k ≢ slot) (λ k. tile_at tiles k ≡ tile_of_object (object_in slots k)) (λ k. tile_at (set tiles slot 2500) k ≡ tile_of_object (object_in slots k)) (λ k apart was. get_or-set_other tiles slot k 2500 2500 apart ∙ was) (remove order place) others (all_remove (λ k. tile_at tiles k ≡ tile_of_object (object_in slots k)) order place placed.here);
    listed = λ k low. elim (cases_eq k slot) [
      | inl same ↦
          let tiled = placed.tiled in
          let known = slot_known in
          let off : tile_at (set tiles slot 2500) k ≡ 2500 = ap (tile_at (set tiles slot 2500)) same ∙ get_or-set_same tiles slot 2500 2500 (omega arith) in
          absurd (omega arith)
      | inr apart ↦ among_remove k order place (λ same. apart (sym same ∙ here)) (placed.listed k (subst (λ n. n < 2500) (get_or-set_other tiles slot k 2500 2500 apart) low))
    ];
  }

-- one object more stands in a new slot
module _ (slots : List Object) (order tiles : List ℕ) (place : ℕ) (object : Object) (placed : IsPlaced slots order tiles) (within : place ≤ length order) where
  abbrev more : List Object
  more = slots ++ object ∷ []

  abbrev more_tiles : List ℕ
  more_tiles = tiles ++ tile_of_object object ∷ []

  abbrev more_order : List ℕ
  more_order = insert order place (length slots)

  old_object : (k : ℕ) → k < length slots → object_in more k ≡ object_in slots k
  old_object k lt = get_or_append_left slots (object ∷ []) no_object k lt

  new_object : object_in more (length slots) ≡ object
  new_object = get_or_at slots object [] no_object (length slots) refl

  pub standing_insert : standing more more_order ≡ insert (standing slots order) place object
  standing_insert =
      let same : standing more order ≡ standing slots order = standing_same slots more order (all_weaker (λ k. k < length slots) (λ k. object_in more k ≡ object_in slots k) old_object order placed.known) in
      map-append (object_in more) (take place order) (length slots ∷ drop place order)
      ∙ ap (λ os. os ++ object_in more (length slots) ∷ standing more (drop place order)) (sym (take-map (object_in more) place order))
      ∙ ap (λ os. take place (standing more order) ++ object_in more (length slots) ∷ os) (sym (drop-map (object_in more) place order))
      ∙ ap (λ o. take place (standing more order) ++ o ∷ drop place (standing more order)) new_object
      ∙ ap (λ os. take place os ++ object ∷ drop place os) same

  tile_more : (k : ℕ) → k < length slots → tile_at tiles k ≡ tile_of_object (object_in slots k) → tile_at more_tiles k ≡ tile_of_object (object_in more k)
  tile_more k lt was =
      let tiled = placed.tiled in
      get_or_append_left tiles (tile_of_object object ∷ []) 2500 k (omega arith) ∙ was ∙ ap tile_of_object (sym (old_object k lt))

  tile_new : tile_at more_tiles (length slots) ≡ tile_of_object (object_in more (length slots))
  tile_new = get_or_at tiles (tile_of_object object) [] 2500 (length slots) placed.tiled ∙ ap tile_of_object (sym new_object)

  pub placed_insert : IsRising (insert (standing slots order) place object) → IsPlaced more more_order more_tiles
  placed_insert rising =
      let count = length_push slots object in
      let tiles_count = length_push tiles (tile_of_object object) in
      let order_count = length-insert order place (length slots) within in record {
        rising = subst IsRising (sym standing_insert) rising;
        known = all_insert (λ k. k < length more) (length slots) order place (all_weaker (λ k. k < length slots) (λ k. k < length more) (λ k lt. omega arith) order placed.known) (omega arith);
        count = let least = placed.count in omega arith;
        tiled = let tiled = placed.tiled in omega arith;
        here = all_insert (λ k. tile_at more_tiles k ≡ tile_of_object (object_in more k)) (length slots) order place (all_both (λ k. k < length slots) (λ k. tile_at tiles k ≡ tile_of_object (object_in slots k)) (λ k. tile_at more_tiles k ≡ tile_of_object (object_in more k)) tile_more order placed.known placed.here) tile_new;
        listed = λ k low. elim (cases_lt k (length tiles)) [
          | inl below ↦ among_insert k (length slots) order place (placed.listed k (subst (λ n. n < 2500) (get_or_append_left tiles (tile_of_object object ∷ []) 2500 k below) low))
          | inr last ↦
              let known : k < length more_tiles = on_tile_known more_tiles k low in
              let tiled = placed.tiled in
              let same : length slots ≡ k = omega arith in
              subst (λ n. Among n more_order) same (among_inserted (length slots) order place)
        ];
      }

-- objects that stand in the first slots, one by one
module _ (slots : List Object) where
  abbrev pub all_slots : List ℕ
  all_slots = range_with_len 0 (length slots)

  pub standing_all : standing slots all_slots ≡ slots
  standing_all =
      let count = count_standing slots all_slots in
      let range = length-range_with_len 0 (length slots) in
      same_lists (standing slots all_slots) slots (omega arith) (λ k d lt. object_at slots all_slots k d (omega arith) ∙ ap (object_in slots) (get_or-range_with_len 0 (length slots) k 0 (omega arith)) ∙ (let same : 0 + k ≡ k = omega arith in ap (object_in slots) same) ∙ get_or_default slots k no_object d (omega arith))

  pub placed_all : IsRising slots → IsPlaced slots all_slots (map tile_of_object slots)
  placed_all rising =
      let range = length-range_with_len 0 (length slots) in record {
        rising = subst IsRising (sym standing_all) rising;
        known = recursion_from_All (λ k. k < length slots) all_slots (λ k d lt. let at = get_or-range_with_len 0 (length slots) k d (omega arith) in omega arith);
        count = omega arith;
        tiled = length-map slots tile_of_object;
        here = recursion_from_All (λ k. tile_at (map tile_of_object slots) k ≡ tile_of_object (object_in slots k)) all_slots (λ k d lt. let at = get_or-range_with_len 0 (length slots) k d (omega arith) in get_or-map tile_of_object slots (get_or all_slots k d) no_object 2500 (omega arith));
        listed = λ k low.
            let count = length-map slots tile_of_object in
            let known : k < length (map tile_of_object slots) = on_tile_known (map tile_of_object slots) k low in
            let at : get_or all_slots k 0 ≡ k = get_or-range_with_len 0 (length slots) k 0 (omega arith) ∙ (let same : 0 + k ≡ k = omega arith in same) in
            subst (λ n. Among n all_slots) at (among_at all_slots k (omega arith));
      }
