-- The object of the least id on a tile that is at least one is the first of these.
use Rattle.std.proofs.Common.{◌≡◌, ℕ, zero, suc, ◌<◌, ◌≤◌, ◌==◌, ◌&&◌, leb, Bool, true, false, List, [], ◌∷◌, length, get_or, Option, Some, None, IfSome, sym, ap, subst, ◌∙◌, refl, inl, inr, arith, eq-eqb, eqb-true, le-leb, leb-true}
use Rattle.std.specs.List.{find}
use Rattle.std.proofs.lemmas.Bool.{cases_Bool, and_parts, and_from, both_ways}
use Rattle.std.proofs.lemmas.List.Elements.{All-from_recursion}
use Rattle.room_table.specs.declared.object.Object.{Object}
use Rattle.room_table.specs.Tables.{first_on_from, is_on}
use Rattle.room_table.specs.inner.Chains.{tile_at}
use Rattle.room_table.specs.inner.Placed.{no_object, object_in, standing, tile_number, tile_of_object, id_found, AtMost, IsOfTile, IsNextOfTile, IsPlaced}
use Rattle.room_table.proofs.Keyed.{id_of, rises_from_objects}
use Rattle.room_table.proofs.Rising.{Rises, increasing}
use Rattle.room_table.proofs.Placed.{object_at, count_standing, among_place}
use Rattle.room_table.proofs.OnTiles.{same_tile}

-- what was found is one of these, and that of the least id
abbrev Finds : (Object → Bool) → List Object → Option Object → Type 0
Finds p objects found = IfSome found (λ o. (i : ℕ) × (i < length objects) × (p (get_or objects i no_object) ≡ true) × (o ≡ get_or objects i no_object))

abbrev IsLeast : (Object → Bool) → List Object → Option Object → Type 0
IsLeast p objects found = (i : ℕ) → i < length objects → p (get_or objects i no_object) ≡ true → AtMost (id_found found) (id_of (get_or objects i no_object))

next_first : (p : Object → Bool) (o : Object) (objects : List Object) (found : Option Object) → Rises id_of (o ∷ objects) → Finds p (o ∷ objects) found → AtMost (id_found found) (id_of o) → found ≡ Some o
next_first p o objects None rises finds least = absurd least
next_first p o objects (Some one) rises (zero, within, here, is) least = ap Some is
next_first p o objects (Some one) rises (suc i, within, here, is) least =
    let above = increasing id_of (o ∷ objects) rises 0 (suc i) no_object (omega arith) within in
    let same = ap id_of is in
    absurd (omega (arith, above, same, least))

next_later : (p : Object → Bool) (o : Object) (objects : List Object) (found : Option Object) → p o ≡ false → Finds p (o ∷ objects) found → Finds p objects found
next_later p o objects None other finds = tt
next_later p o objects (Some one) other (zero, within, here, is) = absurd (both_ways (p o) other here)
next_later p o objects (Some one) other (suc i, within, here, is) = (i, omega arith, here, is)

next_least : (p : Object → Bool) (objects : List Object) (found : Option Object) → Rises id_of objects → Finds p objects found → IsLeast p objects found → found ≡ find p objects
next_least p [] None rises finds least = refl
next_least p [] (Some one) rises (i, within, here, is) least = absurd (omega arith)
next_least p (o ∷ objects) found rises finds least = elim (cases_Bool (p o)) [
  | inl here ↦ rw here (next_first p o objects found rises finds (least 0 (omega arith) here))
  | inr other ↦
      rw other (next_least p objects found rises.1 (next_later p o objects found other finds) (λ i within here. least (suc i) (omega arith) here))
]

module _ (slots : List Object) (order tiles : List ℕ) (x y id : ℕ) (placed : IsPlaced slots order tiles) (low : tile_number x y < 2500) where
  abbrev is_there : Object → Bool
  is_there o = is_on x y o && leb id o.id

  told_there : (i : ℕ) → i < length order → tile_at tiles (get_or order i 0) ≡ tile_of_object (object_in slots (get_or order i 0))
  told_there i within = All-from_recursion (λ slot. tile_at tiles slot ≡ tile_of_object (object_in slots slot)) order placed.here i 0 within

  stands_there : (o : Object) → tile_of_object o ≡ tile_number x y → id ≤ o.id → is_there o ≡ true
  stands_there o on late =
      let at = same_tile o.x o.y x y low on in
      and_from _ _ (and_from _ _ (eq-eqb o.x x at.0) (eq-eqb o.y y at.1)) (le-leb id o.id late)

  of_tile : (i : ℕ) → i < length order → is_there (object_in slots (get_or order i 0)) ≡ true → IsOfTile id (tile_number x y) slots tiles (get_or order i 0)
  of_tile i within there =
      let o = object_in slots (get_or order i 0) in
      let both = and_parts (is_on x y o) (leb id o.id) there in
      let place = and_parts (o.x == x) (o.y == y) both.0 in record {
        on = told_there i within ∙ ap (λ n. tile_number n o.y) (eqb-true o.x x place.0) ∙ ap (tile_number x) (eqb-true o.y y place.1);
        late = leb-true id o.id both.1;
      }

  finds_there : (found : Option Object) → IfSome found (λ o. (slot : ℕ) × (IsOfTile id (tile_number x y) slots tiles slot) × (o ≡ object_in slots slot)) → Finds is_there (standing slots order) found
  finds_there None some = tt
  finds_there (Some one) (slot, of, is) =
      let i = among_place slot order (placed.listed slot (subst (λ n. n < 2500) (sym of.on) low)) in
      let reads : get_or (standing slots order) i.0 no_object ≡ object_in slots slot = object_at slots order i.0 no_object i.1 ∙ ap (object_in slots) i.2 in
      let told : tile_of_object (object_in slots slot) ≡ tile_number x y = ap (λ n. tile_of_object (object_in slots n)) (sym i.2) ∙ sym (told_there i.0 i.1) ∙ ap (tile_at tiles) i.2 ∙ of.on in (
        i.0,
        omega (arith, i.1, count_standing slots order),
        ap is_there reads ∙ stands_there (object_in slots slot) told of.late,
        is ∙ sym reads,
      )

  pub next_is_first : (found : Option Object) → IsNextOfTile 0 id (tile_number x y) slots tiles found → found ≡ first_on_from x y id (standing slots order)
  next_is_first found least =
      next_least is_there (standing slots order) found (rises_from_objects _ placed.rising) (finds_there found least.some) (λ i within here.
      let lower : i < length order = omega (arith, count_standing slots order) in
      let reads = object_at slots order i no_object lower in
      subst (λ (o : Object). AtMost (id_found found) (id_of o)) (sym reads) (least.least (get_or order i 0) (omega arith) (of_tile i lower (ap is_there (sym reads) ∙ here))))
