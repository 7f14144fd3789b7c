-- The least id of a kind on a tile is that of the first object of the kind there.
use Rattle.std.proofs.Common.{◌≡◌, ℕ, zero, suc, ◌+◌, ◌*◌, ◌<◌, ◌≤◌, ◌==◌, ◌&&◌, Bool, true, false, List, [], ◌∷◌, length, get_or, Option, Some, None, option_map, IfSome, sym, ap, subst, ◌∙◌, refl, inl, inr, arith, eq-eqb}
use Rattle.std.specs.List.{find}
use Rattle.std.proofs.lemmas.Bool.{eqb-true, le-leb, lt-leb, cases_lt, cases_Bool, and_parts, and_from, both_ways}
use Rattle.std.proofs.lemmas.List.Elements.{All-from_recursion}
use Rattle.game_tables.specs.Numbers.{kind_number}
use Rattle.game_tables.specs.declared.kind.Kind.{Kind}
use Rattle.room_table.specs.declared.object.Object.{Object}
use Rattle.room_table.specs.Tables.{first_on}
use Rattle.room_table.specs.inner.Chains.{tile_at}
use Rattle.room_table.specs.inner.Placed.{no_object, object_in, standing, tile_number, tile_of_object, AtMost, IsKindIn, IsLeastFrom, IsPlaced}
use Rattle.room_table.proofs.Keyed.{id_of, rises_from_objects}
use Rattle.room_table.proofs.Rising.{Rises, increasing}
use Rattle.room_table.proofs.Placed.{object_at, count_standing, among_place}

-- what was found is the id of one of these, and of the least
abbrev Finds : (Object → Bool) → List Object → Option ℕ → Type 0
Finds p objects found = IfSome found (λ id. (i : ℕ) × (i < length objects) × (p (get_or objects i no_object) ≡ true) × (id ≡ id_of (get_or objects i no_object)))

abbrev IsLeast : (Object → Bool) → List Object → Option ℕ → Type 0
IsLeast p objects found = (i : ℕ) → i < length objects → p (get_or objects i no_object) ≡ true → AtMost found (id_of (get_or objects i no_object))

find_first : (p : Object → Bool) (o : Object) (objects : List Object) (found : Option ℕ) → Rises id_of (o ∷ objects) → Finds p (o ∷ objects) found → AtMost found (id_of o) → found ≡ Some (id_of o)
find_first p o objects None rises finds least = absurd least
find_first p o objects (Some id) rises (zero, within, here, is) least = ap Some is
find_first p o objects (Some id) rises (suc i, within, here, is) least =
    let above = increasing id_of (o ∷ objects) rises 0 (suc i) no_object (omega arith) within in
    absurd (omega (arith, above, is, least))

later_finds : (p : Object → Bool) (o : Object) (objects : List Object) (found : Option ℕ) → p o ≡ false → Finds p (o ∷ objects) found → Finds p objects found
later_finds p o objects None other finds = tt
later_finds p o objects (Some id) other (zero, within, here, is) = absurd (both_ways (p o) other here)
later_finds p o objects (Some id) other (suc i, within, here, is) = (i, omega arith, here, is)

find_least : (p : Object → Bool) (objects : List Object) (found : Option ℕ) → Rises id_of objects → Finds p objects found → IsLeast p objects found → found ≡ option_map id_of (find p objects)
find_least p [] None rises finds least = refl
find_least p [] (Some id) rises (i, within, here, is) least = absurd (omega arith)
find_least p (o ∷ objects) found rises finds least = elim (cases_Bool (p o)) [
  | inl here ↦ rw here (find_first p o objects found rises finds (least 0 (omega arith) here))
  | inr other ↦
      rw other (find_least p objects found rises.1 (later_finds p o objects found other finds) (λ i within here. least (suc i) (omega arith) here))
]

-- the numbers of two tiles
tile_within : (x y : ℕ) → tile_number x y < 2500 → (x ≤ 49) × (y ≤ 49)
tile_within x y low = elim (cases_lt 49 x) [
  | inl wide ↦ let off : tile_number x y ≡ 2500 = rw (lt-leb x 49 wide) refl in absurd (omega arith)
  | inr narrow ↦ elim (cases_lt 49 y) [
    | inl tall ↦ let off : tile_number x y ≡ 2500 = rw (le-leb x 49 narrow, lt-leb y 49 tall) refl in absurd (omega arith)
    | inr short ↦ (narrow, short)
  ]
]

tile_inside : (x y : ℕ) → x ≤ 49 → y ≤ 49 → tile_number x y ≡ 50 * y + x
tile_inside x y narrow short = rw (le-leb x 49 narrow, le-leb y 49 short) refl

pub same_tile : (a b x y : ℕ) → tile_number x y < 2500 → tile_number a b ≡ tile_number x y → (a ≡ x) × (b ≡ y)
same_tile a b x y low same =
    let one = tile_within x y low in
    let two = tile_within a b (subst (λ n. n < 2500) (sym same) low) in
    let first = tile_inside x y one.0 one.1 in
    let second = tile_inside a b two.0 two.1 in
    (omega (arith, one.0, two.0, first, second), omega (arith, one.0, two.0, first, second))

module _ (slots : List Object) (order tiles : List ℕ) (x y : ℕ) (kind : Kind) (placed : IsPlaced slots order tiles) (low : tile_number x y < 2500) where
  abbrev is_there : Object → Bool
  is_there o = (o.x == x) && (o.y == y) && (kind_number o.kind == kind_number kind)

  told_there : (i : ℕ) → i < length order → tile_at tiles (get_or order i 0) ≡ tile_of_object (object_in slots (get_or order i 0))
  told_there i within = All-from_recursion (λ slot. tile_at tiles slot ≡ tile_of_object (object_in slots slot)) order placed.here i 0 within

  stands_there : (o : Object) → tile_of_object o ≡ tile_number x y → kind_number o.kind ≡ kind_number kind → is_there o ≡ true
  stands_there o on its =
      let at = same_tile o.x o.y x y low on in
      and_from _ _ (and_from _ _ (eq-eqb o.x x at.0) (eq-eqb o.y y at.1)) (eq-eqb _ _ its)

  kind_in : (i : ℕ) → i < length order → is_there (object_in slots (get_or order i 0)) ≡ true → IsKindIn (tile_number x y) kind slots tiles (get_or order i 0)
  kind_in i within there =
      let o = object_in slots (get_or order i 0) in
      let both = and_parts ((o.x == x) && (o.y == y)) (kind_number o.kind == kind_number kind) there in
      let place = and_parts (o.x == x) (o.y == y) both.0 in record {
        on = told_there i within ∙ ap (λ n. tile_number n o.y) (eqb-true o.x x place.0) ∙ ap (tile_number x) (eqb-true o.y y place.1);
        its = eqb-true _ _ both.1;
      }

  finds_there : (found : Option ℕ) → IfSome found (λ id. (slot : ℕ) × (IsKindIn (tile_number x y) kind slots tiles slot) × (id ≡ (object_in slots slot).id)) → Finds is_there (standing slots order) found
  finds_there None some = tt
  finds_there (Some id) (slot, kind_is, is) =
      let i = among_place slot order (placed.listed slot (subst (λ n. n < 2500) (sym kind_is.on) low)) in
      let reads : get_or (standing slots order) i.0 no_object ≡ object_in slots slot = object_at slots order i.0 no_object i.1 ∙ ap (object_in slots) i.2 in
      let told : tile_of_object (object_in slots slot) ≡ tile_number x y = ap (λ n. tile_of_object (object_in slots n)) (sym i.2) ∙ sym (told_there i.0 i.1) ∙ ap (tile_at tiles) i.2 ∙ kind_is.on in (
        i.0,
        omega (arith, i.1, count_standing slots order),
        ap is_there reads ∙ stands_there (object_in slots slot) told kind_is.its,
        is ∙ ap id_of (sym reads),
      )

  pub least_is_first : (found : Option ℕ) → IsLeastFrom 0 (tile_number x y) kind slots tiles found → found ≡ option_map id_of (first_on x y kind (standing slots order))
  least_is_first found least =
      find_least is_there (standing slots order) found (rises_from_objects _ placed.rising) (finds_there found least.some) (λ i within here.
      let lower : i < length order = omega (arith, count_standing slots order) in
      let reads = object_at slots order i no_object lower in
      subst (λ (o : Object). AtMost found (id_of o)) (sym reads) (least.least (get_or order i 0) (omega arith) (kind_in i lower (ap is_there (sym reads) ∙ here))))
