-- The places of a view's objects among all of the world.
use Rattle.std.proofs.Common.{◌≡◌, ◌≢◌, ℕ, zero, suc, ◌+◌, ◌<◌, ◌≤◌, ◌==◌, Bool, true, false, cond, if◌then◌else◌, List, [], ◌∷◌, ◌++◌, map, length, get_or, Option, Some, None, option_map, option_and_then, refl, sym, ap, subst, ◌∙◌, arith}
use Rattle.std.specs.Prelude.{slice_get}
use Rattle.std.specs.List.{AllByRecursion, cons_option, filter, filter_map}
use Rattle.std.specs.Option.{unwrap_or}
use Rattle.std.specs.List.Sorted.{IsPartitionPoint}
use Rattle.std.proofs.lemmas.Option.{slice_get-map, slice_get_within}
use Rattle.room_table.specs.declared.standing.Standing.{Standing}
use Rattle.room_table.proofs.Rising.{Rises, absent_there}
use Rattle.world_rules.specs.World.{Placed, shown}
use Rattle.world_roster.specs.Rosters.{id_in}
use Rattle.visible_view.specs.Fields.{place_by, place_of}
use Rattle.visible_view.specs.inner.Gathered.{is_flagged}
use Rattle.visible_view.specs.inner.Places.{at_places, flagged_from, id_at}
use Rattle.visible_view.proofs.Told.{place_absent, place_at}

-- ---- the places that are listed

module _ (flags : List Bool) where
  pub flagged_push : (place : ℕ) (all : List Standing) (last : Standing) → flagged_from flags place (all ++ last ∷ []) ≡ flagged_from flags place all ++ (if is_flagged flags last then (place + length all) ∷ [] else [])
  flagged_push place [] last = ap (λ (n : ℕ). if is_flagged flags last then n ∷ [] else []) (omega arith)
  flagged_push place (first ∷ all) last =
      let at : suc place + length all ≡ place + suc (length all) = omega arith in
      let rest = flagged_push (suc place) all last ∙ ap (λ (n : ℕ). flagged_from flags (suc place) all ++ (if is_flagged flags last then n ∷ [] else [])) at in
      elim (is_flagged flags first) as (λ b. (if b then place ∷ flagged_from flags (suc place) (all ++ last ∷ []) else flagged_from flags (suc place) (all ++ last ∷ []))
      ≡ (if b then place ∷ flagged_from flags (suc place) all else flagged_from flags (suc place) all) ++ (if is_flagged flags last then (place + length (first ∷ all)) ∷ [] else [])) [ true ↦ ap (λ (ps : List ℕ). place ∷ ps) rest | false ↦ rest ]

  pub flagged_few : (place : ℕ) (all : List Standing) → length (flagged_from flags place all) ≤ length all
  flagged_few place [] = omega arith
  flagged_few place (first ∷ all) =
      let rest = flagged_few (suc place) all in
      elim (is_flagged flags first) as (λ b. length (if b then place ∷ flagged_from flags (suc place) all else flagged_from flags (suc place) all) ≤ suc (length all)) [ true ↦ omega arith | false ↦ omega arith ]

  pub flagged_below : (most place : ℕ) (all : List Standing) → place + length all ≤ most → AllByRecursion (λ p. p < most) (flagged_from flags place all)
  flagged_below most place [] within = tt
  flagged_below most place (first ∷ all) within =
      let rest = flagged_below most (suc place) all (omega arith) in
      elim (is_flagged flags first) as (λ b. AllByRecursion (λ p. p < most) (if b then place ∷ flagged_from flags (suc place) all else flagged_from flags (suc place) all)) [ true ↦ (omega arith, rest) | false ↦ rest ]

  -- what stands at the places from one on is told
  module _ (tell : ℕ → Option Placed) where
    abbrev Tells : ℕ → List Standing → Type 0
    Tells place all = (k : ℕ) → tell (place + k) ≡ option_map shown (slice_get all k)

    abbrev key : ℕ → ℕ
    key place = unwrap_or (option_map (λ (p : Placed). p.object.id) (tell place)) 0

    first_told : (place : ℕ) (first : Standing) (all : List Standing) → Tells place (first ∷ all) → tell place ≡ Some (shown first)
    first_told place first all tells = ap tell (let at : place ≡ place + 0 = omega arith in at) ∙ tells 0

    later_told : (place : ℕ) (first : Standing) (all : List Standing) → Tells place (first ∷ all) → Tells (suc place) all
    later_told place first all tells k = ap tell (let at : suc place + k ≡ place + suc k = omega arith in at) ∙ tells (suc k)

    places_shown : (place : ℕ) (all : List Standing) → Tells place all → filter_map tell (flagged_from flags place all) ≡ map shown (filter (is_flagged flags) all)
    places_shown place [] tells = refl
    places_shown place (first ∷ all) tells =
        let rest = places_shown (suc place) all (later_told place first all tells) in
        let here = first_told place first all tells in
        elim (is_flagged flags first) as (λ b. filter_map tell (if b then place ∷ flagged_from flags (suc place) all else flagged_from flags (suc place) all) ≡ map shown (cond b (first ∷ filter (is_flagged flags) all) (filter (is_flagged flags) all))) [
          | true ↦ (λ i. cons_option (here i) (rest i))
          | false ↦ rest
        ]

    places_above : (n place : ℕ) (all : List Standing) → Tells place all → AllByRecursion (λ s. n < id_in s) all → AllByRecursion (λ p. n < key p) (flagged_from flags place all)
    places_above n place [] tells above = tt
    places_above n place (first ∷ all) tells above =
        let rest = places_above n (suc place) all (later_told place first all tells) above.1 in
        let here = subst (λ (found : Option Placed). n < unwrap_or (option_map (λ (p : Placed). p.object.id) found) 0) (sym (first_told place first all tells)) above.0 in
        elim (is_flagged flags first) as (λ b. AllByRecursion (λ p. n < key p) (if b then place ∷ flagged_from flags (suc place) all else flagged_from flags (suc place) all)) [ true ↦ (here, rest) | false ↦ rest ]

    places_rise : (place : ℕ) (all : List Standing) → Tells place all → Rises id_in all → Rises key (flagged_from flags place all)
    places_rise place [] tells rises = tt
    places_rise place (first ∷ all) tells rises =
        let later = later_told place first all tells in
        let rest = places_rise (suc place) all later rises.1 in
        let here = ap (λ (found : Option Placed). unwrap_or (option_map (λ (p : Placed). p.object.id) found) 0) (first_told place first all tells) in
        let above = subst (λ (n : ℕ). AllByRecursion (λ p. n < key p) (flagged_from flags (suc place) all)) (sym here) (places_above (id_in first) (suc place) all later rises.0) in
        elim (is_flagged flags first) as (λ b. Rises key (if b then place ∷ flagged_from flags (suc place) all else flagged_from flags (suc place) all)) [ true ↦ (above, rest) | false ↦ rest ]

  from_first : (all : List Standing) (k : ℕ) → slice_get (map shown all) (0 + k) ≡ slice_get (map shown all) k
  from_first all k = ap (slice_get (map shown all)) (let same : 0 + k ≡ k = omega arith in same)

  -- The objects at the places that are listed are those whose rooms are flagged.
  pub flagged_shown : (all : List Standing) → at_places (map shown all) (flagged_from flags 0 all) ≡ map shown (filter (is_flagged flags) all)
  flagged_shown all = places_shown (slice_get (map shown all)) 0 all (λ k. from_first all k ∙ slice_get-map shown all k)

  pub flagged_rise : (all : List Standing) → Rises id_in all → Rises (id_at (map shown all)) (flagged_from flags 0 all)
  flagged_rise all rises = places_rise (slice_get (map shown all)) 0 all (λ k. from_first all k ∙ slice_get-map shown all k) rises

-- ---- what stands at places

found_below : (all : List Placed) (place : ℕ) → place < length all → (placed : Placed) × (slice_get all place ≡ Some placed)
found_below [] place below = absurd (omega arith)
found_below (first ∷ all) zero below = (first, refl)
found_below (first ∷ all) (suc place) below = found_below all place (omega arith)

-- the id of what is found
abbrev pub id_if : Option Placed → ℕ
id_if found = unwrap_or (option_map (λ (p : Placed). p.object.id) found) 0

place_if : (id : ℕ) (objects : List Placed) → place_by id_if id (map Some objects) ≡ place_of id objects
place_if id [] = refl
place_if id (first ∷ objects) = ap (λ (found : Option ℕ). if first.object.id == id then Some 0 else option_map suc found) (place_if id objects)

module _ (all : List Placed) where
  abbrev AreBelow : List ℕ → Type 0
  AreBelow places = AllByRecursion (λ place. place < length all) places

  -- at each place an object stands
  at_each : (places : List ℕ) → AreBelow places → map (slice_get all) places ≡ map Some (at_places all places)
  at_each [] below = refl
  at_each (place ∷ places) below =
      let found = found_below all place below.0 in
      (λ i. found.1 i ∷ at_each places below.1 i) ∙ ap (λ (f : Option Placed). map Some (cons_option f (at_places all places))) (sym found.1)

  pub at_length : (places : List ℕ) → AreBelow places → length (at_places all places) ≡ length places
  at_length [] below = refl
  at_length (place ∷ places) below =
      let found = found_below all place below.0 in
      ap (λ (f : Option Placed). length (cons_option f (at_places all places))) found.1 ∙ ap suc (at_length places below.1)

  pub at_index : (places : List ℕ) → AreBelow places → (index : ℕ) → slice_get (at_places all places) index ≡ option_and_then (slice_get all) (slice_get places index)
  at_index [] below index = refl
  at_index (place ∷ places) below zero =
      let found = found_below all place below.0 in
      ap (λ (f : Option Placed). slice_get (cons_option f (at_places all places)) 0) found.1 ∙ sym found.1
  at_index (place ∷ places) below (suc index) =
      let found = found_below all place below.0 in
      ap (λ (f : Option Placed). slice_get (cons_option f (at_places all places)) (suc index)) found.1 ∙ at_index places below.1 index

  id_read : (places : List ℕ) → AreBelow places → (index : ℕ) (placed : Placed) → slice_get (at_places all places) index ≡ Some placed → (d : ℕ) → id_at all (get_or places index d) ≡ placed.object.id
  id_read [] below index placed is d = absurd (cc)
  id_read (place ∷ places) below zero placed is d =
      let found = found_below all place below.0 in
      let first : Some found.0 ≡ Some placed = ap (λ (f : Option Placed). slice_get (cons_option f (at_places all places)) 0) (sym found.1) ∙ is in
      ap id_if (found.1 ∙ first)
  id_read (place ∷ places) below (suc index) placed is d =
      let found = found_below all place below.0 in
      id_read places below.1 index placed (ap (λ (f : Option Placed). slice_get (cons_option f (at_places all places)) (suc index)) (sym found.1) ∙ is) d

  -- The id is that of the object at this index.
  pub find_read : (places : List ℕ) → AreBelow places → Rises (id_at all) places → (id index : ℕ) (placed : Placed) → slice_get (at_places all places) index ≡ Some placed → placed.object.id ≡ id
      → Some index ≡ place_of id (at_places all places)
  find_read places below rises id index placed is same =
      let within : index < length places = subst (λ (n : ℕ). index < n) (at_length places below) (slice_get_within (at_places all places) index placed is) in
      sym (place_at id_if (slice_get all) id places index 0 rises within (id_read places below index placed is 0 ∙ same))
      ∙ ap (place_by id_if id) (at_each places below)
      ∙ place_if id (at_places all places)

  -- No object has the id, as the one at the index where it would be has another.
  pub find_missed : (places : List ℕ) → AreBelow places → Rises (id_at all) places → (id : ℕ) (seen : List ℕ) → seen ≡ places → (index : ℕ) → index ≤ length seen
      → IsPartitionPoint (λ place. id_at all place < id) (λ place. id ≤ id_at all place) seen index
      → ((placed : Placed) → slice_get (at_places all places) index ≡ Some placed → placed.object.id ≢ id) → None ≡ place_of id (at_places all places)
  find_missed places below rises id seen same index within point other =
      let apart : (d : ℕ) → index < length places → id_at all (get_or places index d) ≢ id = λ d less here.
      let found = found_below (at_places all places) index (subst (λ (n : ℕ). index < n) (sym (at_length places below)) less) in
      other found.0 found.1 (sym (id_read places below index found.0 found.1 d) ∙ here) in
      sym (place_absent id_if (slice_get all) id places (absent_there (id_at all) id seen places index same rises within point apart))
      ∙ ap (place_by id_if id) (at_each places below)
      ∙ place_if id (at_places all places)
