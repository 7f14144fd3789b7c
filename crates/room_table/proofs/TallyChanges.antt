-- What was done to the objects of a table, once one of its tallies or objects is another.
use Rattle.std.proofs.Common.{◌≡◌, ℕ, zero, suc, ◌+◌, min, ◌<◌, true, false, cond, List, [], ◌∷◌, ◌++◌, length, get_or, set, replicate, take, drop, Some, refl, sym, ap, subst, ◌∙◌, inl, inr, arith, get_or-set_other, get_or-set_same}
use Rattle.std.specs.FinMap as map
use Rattle.std.specs.FinMap.{from_entries, get-insert, get-remove, same_map, nat_cmp-IsAntisymmetric}
use Rattle.std.specs.List.{AllByRecursion, insert, remove, range_with_len}
use Rattle.std.specs.Option.{unwrap_or}
use Rattle.std.specs.Ordering.{eq_by_cmp, nat_cmp}
use Rattle.std.specs.Cmp.{nat_cmp_total}
use Rattle.std.proofs.lemmas.Bool.{cases_eq, cases_Bool}
use Rattle.std.proofs.lemmas.List.{length-map, map-append, get_or-map, get_or_default, get_or_append_left, get_or_at, same_lists, take-map, drop-map}
use Rattle.std.proofs.lemmas.List.FromFn.{length-range_with_len, get_or-range_with_len}
use Rattle.room_table.specs.declared.object.Object.{Object}
use Rattle.room_table.specs.declared.tally.Tally.{Tally}
use Rattle.room_table.specs.Tables.{HasNoId, IsRising, with_object, without}
use Rattle.room_table.specs.Tallies.{is_no_tally, most_sum, no_tally, tally_of, with_tally, sum_with, damaged, healed}
use Rattle.room_table.specs.inner.Placed.{no_object, object_in, standing, AreKnown, StandsIn}
use Rattle.room_table.specs.inner.Tallied.{done_to, tallied, tallies_in, tally_in, IsCapped}
use Rattle.room_table.proofs.Keyed.{id_of, rises_from_objects}
use Rattle.room_table.proofs.Placed.{count_standing, object_at, all_slots, standing_all}
use Rattle.room_table.proofs.Tallied.{same_key, other_key, kept_of, unwrap_kept, is_none, look, look_absent, look_at, look_alike, look_less, none_capped, none_without, done_with, done_insert, done_none, get_tallied}

pub tally_at : (tallies : List Tally) (order : List ℕ) (i : ℕ) (d : Tally) → i < length order → get_or (tallies_in tallies order) i d ≡ tally_in tallies (get_or order i 0)
tally_at tallies order i d within = get_or-map (tally_in tallies) order i 0 d within

pub tallied_equal : {slots new_slots : List Object} {tallies new_tallies : List Tally} {order new_order : List ℕ} → new_slots ≡ slots → new_tallies ≡ tallies → new_order ≡ order → tallied new_slots new_tallies new_order ≡ tallied slots tallies order
tallied_equal same_slots same_tallies same_order = λ i. tallied (same_slots i) (same_tallies i) (same_order i)

module _ (slots : List Object) (tallies : List Tally) (order : List ℕ) (rising : IsRising (standing slots order)) where
  -- what is found of the object at a place
  look_placed : (place id : ℕ) → place < length order → id_of (object_in slots (get_or order place 0)) ≡ id → look id (standing slots order) (tallies_in tallies order) ≡ kept_of (tally_in tallies (get_or order place 0))
  look_placed place id within its =
      let count = count_standing slots order in
      let long = length-map order (tally_in tallies) in
      look_at id (standing slots order) (tallies_in tallies order) place no_object no_tally (rises_from_objects _ rising) (omega arith) (omega arith) (ap id_of (object_at slots order place no_object within) ∙ its)
      ∙ ap kept_of (tally_at tallies order place no_tally within)

  pub tally_placed : (place id : ℕ) → place < length order → id_of (object_in slots (get_or order place 0)) ≡ id → tally_of id (tallied slots tallies order) ≡ tally_in tallies (get_or order place 0)
  tally_placed place id within its =
      ap (λ r. unwrap_or r no_tally) (get_tallied id slots tallies order ∙ look_placed place id within its) ∙ unwrap_kept (tally_in tallies (get_or order place 0))

  look_stands : (id slot : ℕ) → StandsIn id slots order slot → look id (standing slots order) (tallies_in tallies order) ≡ kept_of (tally_in tallies slot)
  look_stands id slot stands =
      look_placed stands.place id stands.within (ap (λ n. id_of (object_in slots n)) stands.here ∙ stands.its) ∙ ap (λ n. kept_of (tally_in tallies n)) stands.here

  pub tally_stands : (id slot : ℕ) → StandsIn id slots order slot → tally_of id (tallied slots tallies order) ≡ tally_in tallies slot
  tally_stands id slot stands =
      ap (λ r. unwrap_or r no_tally) (get_tallied id slots tallies order ∙ look_stands id slot stands) ∙ unwrap_kept (tally_in tallies slot)

pub tally_absent : (slots : List Object) (tallies : List Tally) (order : List ℕ) (id : ℕ) → HasNoId id (standing slots order) → tally_of id (tallied slots tallies order) ≡ no_tally
tally_absent slots tallies order id none =
    ap (λ r. unwrap_or r no_tally) (get_tallied id slots tallies order ∙ look_absent id (standing slots order) (tallies_in tallies order) none)

least_swapped : (a b : ℕ) → min a b ≡ min b a
least_swapped a b = omega arith

least_none : (a n : ℕ) → min (a + n) most_sum ≡ 0 → a ≡ 0
least_none a n none = omega arith

-- a map with the tally of an id
get_with : (m : map.FinMap nat_cmp Tally) (id : ℕ) (tally : Tally) (q : ℕ) → map.get (with_tally id tally m) q ≡ cond (is_no_tally tally) (map.get m q) (cond (eq_by_cmp nat_cmp q id) (Some tally) (map.get m q))
get_with m id tally q =
    let inserted = get-insert nat_cmp_total m id tally q in
    elim (is_no_tally tally) as (λ b. map.get (cond b m (map.insert m id tally)) q ≡ cond b (map.get m q) (cond (eq_by_cmp nat_cmp q id) (Some tally) (map.get m q))) [
      | true ↦ refl
      | false ↦ inserted
    ]

-- an object's tally is another, and none only where it was none
pub tallied_set : (slots : List Object) (tallies : List Tally) (order : List ℕ) (id slot : ℕ) (tally : Tally) → IsRising (standing slots order) → StandsIn id slots order slot → slot < length tallies → (is_no_tally tally ≡ true → tally_in tallies slot ≡ no_tally) → tallied slots (set tallies slot tally) order ≡ with_tally id tally (tallied slots tallies order)
tallied_set slots tallies order id slot tally rising stands known less =
    let new = set tallies slot tally in
    let m = tallied slots tallies order in
    same_map nat_cmp_total nat_cmp-IsAntisymmetric (tallied slots new order) (with_tally id tally m) (λ q.
    let before : map.get m q ≡ look q (standing slots order) (tallies_in tallies order) = get_tallied q slots tallies order in
    get_tallied q slots new order ∙ (elim (cases_eq q id) [
      | inl same ↦
          let old_kept : map.get m q ≡ kept_of (tally_in tallies slot) = before ∙ ap (λ n. look n (standing slots order) (tallies_in tallies order)) same ∙ look_stands slots tallies order rising id slot stands in
          ap (λ n. look n (standing slots order) (tallies_in new order)) same ∙ look_stands slots new order rising id slot stands ∙ ap kept_of (get_or-set_same tallies slot tally no_tally known)
          ∙ (elim (cases_Bool (is_no_tally tally)) [
            | inl none ↦ rw none (sym (old_kept ∙ ap kept_of (less none)))
            | inr some ↦ rw (some, same_key q id same) refl
          ])
      | inr other ↦
          look_alike q slots tallies new order (λ k here. get_or-set_other tallies slot k tally no_tally (λ e. other (sym here ∙ ap (λ n. id_of (object_in slots n)) e ∙ stands.its)))
          ∙ sym before
          ∙ rw (other_key q id other) (elim (is_no_tally tally) as (λ b. map.get m q ≡ cond b (map.get m q) (map.get m q)) [ true ↦ refl | false ↦ refl ])
    ]) ∙ sym (get_with m id tally q))

-- damage or healing is added
pub damaged_there : (slots : List Object) (tallies : List Tally) (order : List ℕ) (id slot n sum : ℕ) (read : Tally) → IsRising (standing slots order) → StandsIn id slots order slot → slot < length tallies → read ≡ tally_in tallies slot → sum ≡ min (read.damage + n) most_sum → tallied slots (set tallies slot (record { damage = sum; healing = read.healing })) order ≡ damaged id n (tallied slots tallies order)
damaged_there slots tallies order id slot n sum read rising stands known read_is sum_is =
    let m = tallied slots tallies order in
    let tally : Tally = record { damage = sum; healing = read.healing } in
    let is : read ≡ tally_of id m = read_is ∙ sym (tally_stands slots tallies order rising id slot stands) in
    let damage : read.damage ≡ (tally_of id m).damage = ap (λ (t : Tally). t.damage) is in
    let healing : read.healing ≡ (tally_of id m).healing = ap (λ (t : Tally). t.healing) is in
    let new_damage : sum ≡ sum_with n (tally_of id m).damage = sum_is ∙ least_swapped (read.damage + n) most_sum ∙ ap (sum_with n) damage in
    let same : tally ≡ record (tally_of id m) { damage = sum_with n (tally_of id m).damage } = λ i. record { damage = new_damage i; healing = healing i } in
    let less : is_no_tally tally ≡ true → tally_in tallies slot ≡ no_tally = λ none.
    let zero_is = is_none tally none in
    let no_sum : sum ≡ 0 = ap (λ (t : Tally). t.damage) zero_is in
    let no_damage : read.damage ≡ 0 = least_none read.damage n (sym sum_is ∙ no_sum) in
    let no_healing : read.healing ≡ 0 = ap (λ (t : Tally). t.healing) zero_is in
    let none_read : read ≡ no_tally = λ i. record { damage = no_damage i; healing = no_healing i } in
    sym read_is ∙ none_read in
    tallied_set slots tallies order id slot tally rising stands known less ∙ ap (λ (t : Tally). with_tally id t m) same

pub healed_there : (slots : List Object) (tallies : List Tally) (order : List ℕ) (id slot n sum : ℕ) (read : Tally) → IsRising (standing slots order) → StandsIn id slots order slot → slot < length tallies → read ≡ tally_in tallies slot → sum ≡ min (read.healing + n) most_sum → tallied slots (set tallies slot (record { damage = read.damage; healing = sum })) order ≡ healed id n (tallied slots tallies order)
healed_there slots tallies order id slot n sum read rising stands known read_is sum_is =
    let m = tallied slots tallies order in
    let tally : Tally = record { damage = read.damage; healing = sum } in
    let is : read ≡ tally_of id m = read_is ∙ sym (tally_stands slots tallies order rising id slot stands) in
    let damage : read.damage ≡ (tally_of id m).damage = ap (λ (t : Tally). t.damage) is in
    let healing : read.healing ≡ (tally_of id m).healing = ap (λ (t : Tally). t.healing) is in
    let new_healing : sum ≡ sum_with n (tally_of id m).healing = sum_is ∙ least_swapped (read.healing + n) most_sum ∙ ap (sum_with n) healing in
    let same : tally ≡ record (tally_of id m) { healing = sum_with n (tally_of id m).healing } = λ i. record { damage = damage i; healing = new_healing i } in
    let less : is_no_tally tally ≡ true → tally_in tallies slot ≡ no_tally = λ none.
    let zero_is = is_none tally none in
    let no_sum : sum ≡ 0 = ap (λ (t : Tally). t.healing) zero_is in
    let no_healing : read.healing ≡ 0 = least_none read.healing n (sym sum_is ∙ no_sum) in
    let no_damage : read.damage ≡ 0 = ap (λ (t : Tally). t.damage) zero_is in
    let none_read : read ≡ no_tally = λ i. record { damage = no_damage i; healing = no_healing i } in
    sym read_is ∙ none_read in
    tallied_set slots tallies order id slot tally rising stands known less ∙ ap (λ (t : Tally). with_tally id t m) same

-- an object is taken out
pub tallied_remove : (slots : List Object) (tallies : List Tally) (order : List ℕ) (place id : ℕ) → standing slots (remove order place) ≡ without id (standing slots order) → id_of (object_in slots (get_or order place 0)) ≡ id → tallied slots tallies (remove order place) ≡ map.remove (tallied slots tallies order) id
tallied_remove slots tallies order place id gone its =
    let m = tallied slots tallies order in
    let less = remove order place in
    same_map nat_cmp_total nat_cmp-IsAntisymmetric (tallied slots tallies less) (map.remove m id) (λ q.
    get_tallied q slots tallies less ∙ (elim (cases_eq q id) [
      | inl same ↦
          look_absent q (standing slots less) (tallies_in tallies less) (subst (HasNoId q) (sym gone) (subst (λ n. HasNoId q (without n (standing slots order))) same (none_without q (standing slots order))))
          ∙ rw (same_key q id same) refl
      | inr other ↦
          look_less q slots tallies order place (λ _ e. other (e ∙ its)) ∙ sym (get_tallied q slots tallies order) ∙ rw (other_key q id other) refl
    ]) ∙ sym (get-remove nat_cmp_total m id q))

-- or it wasn't there
pub tallied_absent : (slots : List Object) (tallies : List Tally) (order : List ℕ) (id : ℕ) → HasNoId id (standing slots order) → map.remove (tallied slots tallies order) id ≡ tallied slots tallies order
tallied_absent slots tallies order id none =
    let m = tallied slots tallies order in
    same_map nat_cmp_total nat_cmp-IsAntisymmetric (map.remove m id) m (λ q.
    get-remove nat_cmp_total m id q ∙ (elim (cases_eq q id) [
      | inl same ↦
          rw (same_key q id same) (sym (get_tallied q slots tallies order ∙ look_absent q (standing slots order) (tallies_in tallies order) (subst (λ n. HasNoId n (standing slots order)) (sym same) none)))
      | inr other ↦ rw (other_key q id other) refl
    ]))

-- an object is put in the place of that of its id
pub tallied_replace : (slots new_slots : List Object) (tallies : List Tally) (order : List ℕ) (object : Object) → standing new_slots order ≡ with_object object (standing slots order) → tallied new_slots tallies order ≡ tallied slots tallies order
tallied_replace slots new_slots tallies order object stands =
    ap (λ (os : List Object). from_entries (done_to os (tallies_in tallies order))) stands
    ∙ ap (λ es. from_entries es) (done_with object (standing slots order) (tallies_in tallies order))

-- an object is added
tallies_same : (old new : List Tally) (order : List ℕ) → AllByRecursion (λ slot. tally_in new slot ≡ tally_in old slot) order → tallies_in new order ≡ tallies_in old order
tallies_same old new [] same = refl
tallies_same old new (slot ∷ order) same = λ i. same.0 i ∷ tallies_same old new order same.1 i

tallies_old : (tallies : List Tally) (order : List ℕ) → AllByRecursion (λ slot. slot < length tallies) order → AllByRecursion (λ slot. tally_in (tallies ++ no_tally ∷ []) slot ≡ tally_in tallies slot) order
tallies_old tallies [] known = tt
tallies_old tallies (slot ∷ order) known = (get_or_append_left tallies (no_tally ∷ []) no_tally slot known.0, tallies_old tallies order known.1)

tallies_insert : (tallies : List Tally) (order : List ℕ) (place : ℕ) → AllByRecursion (λ slot. slot < length tallies) order → tallies_in (tallies ++ no_tally ∷ []) (insert order place (length tallies)) ≡ insert (tallies_in tallies order) place no_tally
tallies_insert tallies order place known =
    let more = tallies ++ no_tally ∷ [] in
    let same = tallies_same tallies more order (tallies_old tallies order known) in
    let new : tally_in more (length tallies) ≡ no_tally = get_or_at tallies no_tally [] no_tally (length tallies) refl in
    map-append (tally_in more) (take place order) (length tallies ∷ drop place order)
    ∙ ap (λ ts. ts ++ tally_in more (length tallies) ∷ tallies_in more (drop place order)) (sym (take-map (tally_in more) place order))
    ∙ ap (λ ts. take place (tallies_in more order) ++ tally_in more (length tallies) ∷ ts) (sym (drop-map (tally_in more) place order))
    ∙ ap (λ t. take place (tallies_in more order) ++ t ∷ drop place (tallies_in more order)) new
    ∙ ap (λ ts. take place ts ++ no_tally ∷ drop place ts) same

pub tallied_insert : (slots : List Object) (tallies : List Tally) (order : List ℕ) (place : ℕ) (object : Object) → AreKnown slots order → length tallies ≡ length slots → standing (slots ++ object ∷ []) (insert order place (length slots)) ≡ insert (standing slots order) place object → tallied (slots ++ object ∷ []) (tallies ++ no_tally ∷ []) (insert order place (length slots)) ≡ tallied slots tallies order
tallied_insert slots tallies order place object known long stands =
    let count = count_standing slots order in
    let beside = length-map order (tally_in tallies) in
    let inserted : tallies_in (tallies ++ no_tally ∷ []) (insert order place (length slots)) ≡ insert (tallies_in tallies order) place no_tally = ap (λ n. tallies_in (tallies ++ no_tally ∷ []) (insert order place n)) (sym long) ∙ tallies_insert tallies order place (subst (λ n. AllByRecursion (λ slot. slot < n) order) (sym long) known) in
    ap (λ (os : List Object). from_entries (done_to os (tallies_in (tallies ++ no_tally ∷ []) (insert order place (length slots))))) stands
    ∙ ap (λ (ts : List Tally). from_entries (done_to (insert (standing slots order) place object) ts)) inserted
    ∙ ap (λ es. from_entries es) (done_insert (standing slots order) (tallies_in tallies order) place object (omega arith))

-- nothing was done to any
pub tallied_none : (slots : List Object) (tallies : List Tally) (order : List ℕ) → ((slot : ℕ) → tally_in tallies slot ≡ no_tally) → tallied slots tallies order ≡ map.empty
tallied_none slots tallies order none = ap (λ es. from_entries es) (done_none (standing slots order) tallies order none)

-- tallies that stand beside the first slots, one by one
pub tallies_all : (tallies : List Tally) (count : ℕ) → length tallies ≡ count → tallies_in tallies (range_with_len 0 count) ≡ tallies
tallies_all tallies count long =
    let all = range_with_len 0 count in
    let range = length-range_with_len 0 count in
    let beside = length-map all (tally_in tallies) in
    same_lists (tallies_in tallies all) tallies (omega arith) (λ k d lt. tally_at tallies all k d (omega arith) ∙ ap (tally_in tallies) (get_or-range_with_len 0 count k 0 (omega arith)) ∙ (let same : 0 + k ≡ k = omega arith in ap (tally_in tallies) same) ∙ get_or_default tallies k no_tally d (omega arith))

pub tallied_all : (slots : List Object) (tallies : List Tally) → length tallies ≡ length slots → tallied slots tallies (all_slots slots) ≡ from_entries (done_to slots tallies)
tallied_all slots tallies long =
    ap (λ (os : List Object). from_entries (done_to os (tallies_in tallies (all_slots slots)))) (standing_all slots)
    ∙ ap (λ (ts : List Tally). from_entries (done_to slots ts)) (tallies_all tallies (length slots) long)

pub done_replicate : (objects : List Object) (count : ℕ) → done_to objects (replicate count no_tally) ≡ []
done_replicate [] zero = refl
done_replicate [] (suc count) = refl
done_replicate (o ∷ objects) zero = refl
done_replicate (o ∷ objects) (suc count) = done_replicate objects count

-- no sum passes its most
pub capped_replicate : (count : ℕ) → AllByRecursion IsCapped (replicate count no_tally)
capped_replicate zero = tt
capped_replicate (suc count) = (none_capped, capped_replicate count)

pub capped_push : (tallies : List Tally) (tally : Tally) → AllByRecursion IsCapped tallies → IsCapped tally → AllByRecursion IsCapped (tallies ++ tally ∷ [])
capped_push [] tally all here = (here, tt)
capped_push (first ∷ tallies) tally all here = (all.0, capped_push tallies tally all.1 here)

pub capped_set : (tallies : List Tally) (slot : ℕ) (tally : Tally) → AllByRecursion IsCapped tallies → IsCapped tally → AllByRecursion IsCapped (set tallies slot tally)
capped_set [] slot tally all here = tt
capped_set (first ∷ tallies) zero tally all here = (here, all.1)
capped_set (first ∷ tallies) (suc slot) tally all here = (all.0, capped_set tallies slot tally all.1 here)
