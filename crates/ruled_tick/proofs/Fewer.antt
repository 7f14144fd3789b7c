-- No more objects stand in a room than stood there and were made.
use Rattle.std.proofs.Common.{◌≡◌, ℕ, zero, suc, ◌+◌, ◌-◌, ◌*◌, ◌^◌, ◌<◌, ◌≤◌, ◌==◌, Bool, cond, List, [], ◌∷◌, ◌++◌, map, length, Some, refl, sym, ap, subst, ◌∙◌, inl, inr, arith}
use Rattle.std.proofs.lemmas.Bool.{cases_lt, eq-eqb, eqb-true, ne_eqb}
use Rattle.std.proofs.lemmas.List.{length-append, length-map}
use Rattle.room_terrain.specs.declared.terrain.Ground.{Ground}
use Rattle.room_table.specs.declared.object.Object.{Object}
use Rattle.room_table.specs.Tables.{Table, IsRising, find_object}
use Rattle.world_rules.specs.RoomParts.{table_part}
use Rattle.world_rules.specs.RuleBook.{Follows}
use Rattle.world_rules.proofs.TableParts.{get_table_part}
use Rattle.room_commutes.proofs.CreepsApart.{first_has}
use Rattle.room_commutes.proofs.Members.{Has, all_of_has, append_left, append_right, has_map}

-- ---- lists of numbers

-- a list without one that it has
record IsWithout (x : ℕ) (ys : List ℕ) : Type 0 where
  pub rest : List ℕ
  pub fewer : length ys ≡ suc (length rest)
  pub others : (y : ℕ) → Has ys y → (x ≡ y → ⊥) → Has rest y

without_one : (x : ℕ) (ys : List ℕ) → Has ys x → IsWithout x ys
without_one x [] has = absurd has
without_one x (first ∷ ys) (inl same) = record {
  rest = ys;
  fewer = refl;
  others = λ y has apart. elim has [
    | inl is ↦ absurd (apart (sym same ∙ is))
    | inr more ↦ more
  ];
}
without_one x (first ∷ ys) (inr more) =
    let less = without_one x ys more in
    record {
      rest = first ∷ less.rest;
      fewer = ap suc less.fewer;
      others = λ y has apart. elim has [
        | inl is ↦ inl is
        | inr later ↦ inr (less.others y later apart)
      ];
    }

-- so many numbers from one on
abbrev numbers_from : ℕ → ℕ → List ℕ
numbers_from low zero = []
numbers_from low (suc many) = low ∷ numbers_from (suc low) many

as_many_numbers : (low many : ℕ) → length (numbers_from low many) ≡ many
as_many_numbers low zero = refl
as_many_numbers low (suc many) = ap suc (as_many_numbers (suc low) many)

has_number : (low many n : ℕ) → low ≤ n → n < low + many → Has (numbers_from low many) n
has_number low zero n least below = absurd (omega (arith, least, below))
has_number low (suc many) n least below = elim (cases_lt low n) [
  | inl above ↦ inr (has_number (suc low) many n (omega (arith, above)) (omega (arith, below)))
  | inr most ↦ inl (omega (arith, least, most))
]

-- ---- objects in rising id

-- Objects with ids among those of a list are at most as many.
fewer_than : (objects : List Object) (ids : List ℕ) → IsRising objects → ((object : Object) → Has objects object → Has ids object.id) → length objects ≤ length ids
fewer_than [] ids rising among = omega arith
fewer_than (object ∷ objects) ids rising among =
    let less = without_one object.id ids (among object (inl refl)) in
    let later = fewer_than objects less.rest rising.1 (λ other has. less.others other.id (among other (inr has)) (λ same. (let above = all_of_has (λ (o : Object). object.id < o.id) objects other rising.0 has in omega (arith, above, same)))) in
    omega (arith, later, less.fewer)

-- What stands is found by its id.
found_by : (objects : List Object) (object : Object) → IsRising objects → Has objects object → find_object object.id objects ≡ Some object
found_by [] object rising has = absurd has
found_by (first ∷ later) object rising (inl same) =
    subst (λ (o : Object). find_object o.id (first ∷ later) ≡ Some o) same (ap (λ (b : Bool). cond b (Some first) (find_object first.id later)) (eq-eqb first.id first.id refl))
found_by (first ∷ later) object rising (inr has) =
    let above = all_of_has (λ (o : Object). first.id < o.id) later object rising.0 has in
    ap (λ (b : Bool). cond b (Some first) (find_object object.id later)) (ne_eqb first.id object.id (λ same. omega (arith, above, same))) ∙ found_by later object rising.1 has

-- Where one table's room follows another's, no more objects stand there than stood and were made.
pub no_more : (grounds : List Ground) (start after : Table) → Follows (table_part grounds start) (table_part grounds after) → IsRising after.objects
    → length after.objects ≤ length start.objects + (after.next - start.next)
no_more grounds start after follows rising =
    let few = fewer_than after.objects ids rising among in
    omega (arith, few, long)
  where
    base : ℕ
    base = start.index * 2 ^ 32 + start.next

    made : ℕ
    made = after.next - start.next

    stood : List ℕ
    stood = map (λ (object : Object). object.id) start.objects

    ids : List ℕ
    ids = stood ++ numbers_from base made

    long : length ids ≡ length start.objects + made
    long = length-append stood (numbers_from base made) ∙ (λ i. length-map start.objects (λ (object : Object). object.id) i + as_many_numbers base made i)

    among : (object : Object) → Has after.objects object → Has ids object.id
    among object has =
        let found = found_by after.objects object rising has in
        elim (follows.own object.id (object, get_table_part grounds after object.id ∙ found)) [
          | inl there ↦ (
              let first = first_has (λ (o : Object). o.id == object.id) start.objects there.0 (sym (get_table_part grounds start object.id) ∙ there.1) in
              append_left stood (numbers_from base made) object.id
              (subst (Has stood) (eqb-true there.0.id object.id first.1) (has_map (λ (o : Object). o.id) start.objects there.0 first.0))
              )
          | inr new ↦ (
              let is : object.id ≡ start.index * 2 ^ 32 + new.0 = new.1 in
              append_right stood (numbers_from base made) object.id (has_number base made object.id (omega (arith, is, new.2)) (omega (arith, is, new.2, new.3)))
              )
        ]
