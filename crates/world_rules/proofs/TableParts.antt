-- What changes of a room's table make of the room's part, and what is found in both.
use Rattle.std.proofs.Common.{◌≡◌, ℕ, ◌⊎◌, ◌<◌, ◌==◌, not, Bool, true, false, cond, if◌then◌else◌, nat_lt, List, [], ◌∷◌, ◌++◌, map, Option, Some, None, option_map, refl, sym, ap, subst, ◌∙◌, inl, inr, arith}
use Rattle.std.specs.List.{AllByRecursion, filter, find}
use Rattle.std.specs.Option.{option_or}
use Rattle.std.specs.Ordering.{nat_cmp, eq_by_cmp}
use Rattle.std.specs.Cmp.{nat_cmp_total, unsigned_tied}
use Rattle.std.specs.FinMap.{FinMap, get, insert, remove, values, from_entries, get-insert, get-remove, get-from_entries, same_map, nat_cmp-IsAntisymmetric}
use Rattle.std.specs.FinMap.{find as find_key}
use Rattle.std.proofs.lemmas.Bool.{eq-eqb, eqb-true, ne_eqb, cases_eq, le-ltb}
use Rattle.room_terrain.specs.declared.terrain.Ground.{Ground}
use Rattle.room_table.specs.Controllers.{controller_among}
use Rattle.room_table.specs.declared.object.Object.{Object}
use Rattle.room_table.specs.Tables.{Table, IsRising, IsOnTile, HasId, HasNoId, find_object, with_object, with_new, without}
use Rattle.world_rules.specs.World.{Placed}
use Rattle.world_rules.specs.RoomParts.{RoomPart, table_part, controller_of}
use Rattle.world_rules.specs.Changes.{put, with_object as with_in_part, without as without_in_part}
use Rattle.world_rules.specs.Checks.{standing_at}
use Rattle.world_rules.proofs.Keys.{keyed, table_sorted, entries_of_sorted, values_of}

-- ---- what is found in a list

pub all_found : (P : Object → Type 0) (test : Object → Bool) (objects : List Object) (found : Object) → AllByRecursion P objects → find test objects ≡ Some found → P found
all_found P test [] found all is = absurd cc
all_found P test (object ∷ objects) found all is =
    elim (test object) as (λ b. cond b (Some object) (find test objects) ≡ Some found → P found) [
      | true ↦ λ here. let same : object ≡ found = cc in subst P same all.0
      | false ↦ λ later. all_found P test objects found all.1 later
    ] is

-- an object that is found is on its tile, with whatever energy
pub found_on_tile : (test : Object → Bool) (objects : List Object) (found : Object) (energy : ℕ) → AllByRecursion IsOnTile objects → find test objects ≡ Some found → IsOnTile (record found { energy = energy })
found_on_tile test objects found energy all is = let on = all_found IsOnTile test objects found all is in record { column = on.column; row = on.row }

-- in a rising list, an object that is found by a test is found by its id
pub found_by_id : (test : Object → Bool) (objects : List Object) (found : Object) → IsRising objects → find test objects ≡ Some found → find_object found.id objects ≡ Some found
found_by_id test [] found rise is = absurd cc
found_by_id test (object ∷ objects) found rise is =
    elim (test object) as (λ b. cond b (Some object) (find test objects) ≡ Some found → find_object found.id (object ∷ objects) ≡ Some found) [
      | true ↦ λ here.
          let same : object ≡ found = cc in
          let id : (object.id == found.id) ≡ true = eq-eqb object.id found.id (ap (λ (o : Object). o.id) same) in
          ap (λ (b : Bool). cond b (Some object) (find_object found.id objects)) id ∙ ap Some same
      | false ↦ λ later.
          let above : object.id < found.id = all_found (λ o. object.id < o.id) test objects found rise.0 later in
          let id : (object.id == found.id) ≡ false = ne_eqb object.id found.id (λ e. omega (arith, e, above)) in
          ap (λ (b : Bool). cond b (Some object) (find_object found.id objects)) id ∙ found_by_id test objects found rise.1 later
    ] is

-- an object that is found by an id has it
pub has_the_id : (id : ℕ) (objects : List Object) (found : Object) → find_object id objects ≡ Some found → found.id ≡ id
has_the_id id [] found is = absurd cc
has_the_id id (object ∷ objects) found is =
    elim (object.id == id) as (λ b. (object.id == id) ≡ b → cond b (Some object) (find_object id objects) ≡ Some found → found.id ≡ id) [
      | true ↦ λ named here. let same : object ≡ found = cc in ap (λ (o : Object). o.id) (sym same) ∙ eqb-true object.id id named
      | false ↦ λ other later. has_the_id id objects found later
    ] refl is

-- ---- tables as parts

abbrev id_of : Object → ℕ
id_of object = object.id

pub turned : (a b : ℕ) → (a == b) ≡ (b == a)
turned a b =
    elim (cases_eq a b) as (λ c. (a == b) ≡ (b == a)) [
      | inl same ↦ eq-eqb a b same ∙ sym (eq-eqb b a (sym same))
      | inr other ↦ ne_eqb a b other ∙ sym (ne_eqb b a (λ e. other (sym e)))
    ]

tied : (q id : ℕ) → eq_by_cmp nat_cmp q id ≡ (id == q)
tied q id = unsigned_tied q id ∙ turned q id

-- ---- what is found by an id

pub find_keyed : (q : ℕ) (objects : List Object) → find_key nat_cmp q (keyed id_of objects) ≡ find_object q objects
find_keyed q [] = refl
find_keyed q (object ∷ objects) = λ i. cond (tied q object.id i) (Some object) (find_keyed q objects i)

get_keyed : (q : ℕ) (objects : List Object) → get (from_entries {R = nat_cmp} (keyed id_of objects)) q ≡ find_object q objects
get_keyed q objects = get-from_entries nat_cmp_total (keyed id_of objects) q ∙ find_keyed q objects

pub get_table_part : (grounds : List Ground) (table : Table) (q : ℕ) → get (table_part grounds table).objects q ≡ find_object q table.objects
get_table_part grounds table q = get_keyed q table.objects

find_filter : (keep : ℕ → Bool) (q : ℕ) (objects : List Object) → find_object q (filter (λ o. keep o.id) objects) ≡ cond (keep q) (find_object q objects) None
find_filter keep q [] = elim (keep q) as (λ b. ◌≡◌ {A = Option Object} None (cond b None None)) [ true ↦ refl | false ↦ refl ]
find_filter keep q (object ∷ objects) =
    let rest = find_filter keep q objects in
    elim (cases_eq object.id q) as (λ c. find_object q (filter (λ o. keep o.id) (object ∷ objects)) ≡ cond (keep q) (find_object q (object ∷ objects)) None) [
      | inl same ↦
          let here = eq-eqb object.id q same in
          let test : keep object.id ≡ keep q = ap keep same in
          rw (test, here) (elim (keep q) as (λ b. keep q ≡ b → find_object q (cond b (object ∷ filter (λ o. keep o.id) objects) (filter (λ o. keep o.id) objects)) ≡ cond b (Some object) None) [
            | true ↦ λ e. rw here refl
            | false ↦ λ e. rest ∙ ap (λ (b : Bool). cond b (find_object q objects) None) e
          ] refl)
      | inr other ↦
          let apart = ne_eqb object.id q other in
          rw apart (elim (keep object.id) as (λ b. find_object q (cond b (object ∷ filter (λ o. keep o.id) objects) (filter (λ o. keep o.id) objects)) ≡ cond (keep q) (find_object q objects) None) [
            | true ↦ rw apart rest
            | false ↦ rest
          ])
    ]

find_append : (q : ℕ) (xs ys : List Object) → find_object q (xs ++ ys) ≡ option_or (find_object q xs) (find_object q ys)
find_append q [] ys = refl
find_append q (x ∷ xs) ys =
    let rest = find_append q xs ys in
    elim (x.id == q) as (λ b. cond b (Some x) (find_object q (xs ++ ys)) ≡ option_or (cond b (Some x) (find_object q xs)) (find_object q ys)) [ true ↦ refl | false ↦ rest ]

beside : (q id : ℕ) (found : Option Object) → (id ≡ q → ⊥) → option_or (cond (nat_lt q id) found None) (cond (nat_lt id q) found None) ≡ found
beside q id None other = grind arith
beside q id (Some object) other = grind arith

-- what is found once an object stands under its id
abbrev Finds : List Object → Object → List Object → Type 0
Finds after object before = (q : ℕ) → find_object q after ≡ cond (object.id == q) (Some object) (find_object q before)

-- the object, where one of its id is found
abbrev instead : Bool → Object → Option Object → Option Object
instead b object found = cond b (option_map (λ o. object) found) found

nothing : (b : Bool) (object : Object) → None ≡ instead b object None
nothing true object = refl
nothing false object = refl

same_id : (b : Bool) (object first : Object) (after before : Option Object) → after ≡ instead b object before → cond b (Some object) after ≡ instead b object (cond b (Some first) before)
same_id true object first after before rest = refl
same_id false object first after before rest = rest

replaced : (q : ℕ) (object : Object) (objects : List Object) → find_object q (with_object object objects) ≡ instead (object.id == q) object (find_object q objects)
replaced q object [] = nothing (object.id == q) object
replaced q object (first ∷ objects) =
    let rest = replaced q object objects in
    let after = find_object q (with_object object objects) in
    let before = find_object q objects in
    elim (cases_eq first.id object.id) as (λ c. find_object q (with_object object (first ∷ objects)) ≡ instead (object.id == q) object (find_object q (first ∷ objects))) [
      | inl same ↦ rw (eq-eqb first.id object.id same, ap (λ (n : ℕ). n == q) same) (same_id (object.id == q) object first after before rest)
      | inr other ↦ rw (ne_eqb first.id object.id other) (elim (cases_eq first.id q) as (λ c. cond (first.id == q) (Some first) after ≡ instead (object.id == q) object (cond (first.id == q) (Some first) before)) [
        | inl here ↦ rw (eq-eqb first.id q here, ne_eqb object.id q (λ e. other (here ∙ sym e))) refl
        | inr apart ↦ rw (ne_eqb first.id q apart) rest
      ])
    ]

finds_replaced : (object : Object) (objects : List Object) → HasId object.id objects → Finds (with_object object objects) object objects
finds_replaced object objects has q =
    replaced q object objects
    ∙ elim (cases_eq object.id q) as (λ c. instead (object.id == q) object (find_object q objects) ≡ cond (object.id == q) (Some object) (find_object q objects)) [
      | inl same ↦ rw (eq-eqb object.id q same) (ap (option_map (λ o. object)) (ap (λ (n : ℕ). find_object n objects) (sym same) ∙ has.1))
      | inr other ↦ rw (ne_eqb object.id q other) refl
    ]

finds_new : (object : Object) (objects : List Object) → Finds (with_new object objects) object objects
finds_new object objects q =
    find_append q (filter (λ o. nat_lt o.id object.id) objects) (object ∷ filter (λ o. nat_lt object.id o.id) objects)
    ∙ ap (λ (front : Option Object). option_or front (find_object q (object ∷ filter (λ o. nat_lt object.id o.id) objects))) (find_filter (λ id. nat_lt id object.id) q objects)
    ∙ ap (λ (back : Option Object). option_or (cond (nat_lt q object.id) (find_object q objects) None) (cond (object.id == q) (Some object) back)) (find_filter (λ id. nat_lt object.id id) q objects)
    ∙ elim (cases_eq object.id q) as (λ c. option_or (cond (nat_lt q object.id) (find_object q objects) None) (cond (object.id == q) (Some object) (cond (nat_lt object.id q) (find_object q objects) None)) ≡ cond (object.id == q) (Some object) (find_object q objects)) [
      | inl same ↦ rw (eq-eqb object.id q same, le-ltb q object.id (omega (arith, same))) refl
      | inr other ↦ rw (ne_eqb object.id q other) (beside q object.id (find_object q objects) other)
    ]

-- ---- a room's part

-- the part with an object under its id
abbrev pub put_in_part : Object → RoomPart → RoomPart
put_in_part object part = record part { objects = insert part.objects object.id object }

-- the table with these objects
abbrev holding : Table → List Object → Table
holding table objects = record table { objects = objects }

part_finds : (grounds : List Ground) (table : Table) (object : Object) (objects : List Object) → Finds objects object table.objects → table_part grounds (holding table objects) ≡ put_in_part object (table_part grounds table)
part_finds grounds table object objects finds =
    let before : FinMap nat_cmp Object = from_entries (keyed id_of table.objects) in
    let same = same_map nat_cmp_total nat_cmp-IsAntisymmetric (from_entries (keyed id_of objects)) (insert before object.id object) (λ q.
    get_keyed q objects
    ∙ finds q
    ∙ sym (get-insert nat_cmp_total before object.id object q ∙ (λ i. cond (tied q object.id i) (Some object) (get_keyed q table.objects i)))) in
    λ i. record { rules = 1; index = table.index; grounds = grounds; next = table.next; objects = same i }

-- To put an object in the place of that of its id is to put it into the part.
pub part_replaced : (grounds : List Ground) (table : Table) (object : Object) → HasId object.id table.objects → table_part grounds (record table { objects = with_object object table.objects }) ≡ with_in_part object (table_part grounds table)
part_replaced grounds table object has =
    part_finds grounds table object (with_object object table.objects) (finds_replaced object table.objects has)
    ∙ sym (ap (put object (table_part grounds table)) (get_table_part grounds table object.id ∙ has.1))

-- To add an object is to put it into the part.
pub part_new : (grounds : List Ground) (table : Table) (object : Object) → table_part grounds (record table { objects = with_new object table.objects }) ≡ put_in_part object (table_part grounds table)
part_new grounds table object = part_finds grounds table object (with_new object table.objects) (finds_new object table.objects)

-- What is found in the table stands in the part.
pub stands_at : (grounds : List Ground) (table : Table) (id : ℕ) → option_map (λ (object : Object). let placed : Placed = record { room = table.index; object = object } in placed) (find_object id table.objects) ≡ standing_at (table_part grounds table) id
stands_at grounds table id = ap (option_map (λ (object : Object). let placed : Placed = record { room = table.index; object = object } in placed)) (sym (get_table_part grounds table id))

-- To take an object out is to take it out of the part.
pub part_without : (grounds : List Ground) (table : Table) (id : ℕ) → table_part grounds (record table { objects = without id table.objects }) ≡ without_in_part id (table_part grounds table)
part_without grounds table id =
    let before : FinMap nat_cmp Object = from_entries (keyed id_of table.objects) in
    let same = same_map nat_cmp_total nat_cmp-IsAntisymmetric (from_entries (keyed id_of (without id table.objects))) (remove before id) (λ q.
    get_keyed q (without id table.objects)
    ∙ find_filter (λ n. not (n == id)) q table.objects
    ∙ not_this (q == id) (find_object q table.objects)
    ∙ sym (get-remove nat_cmp_total before id q ∙ (λ i. cond (unsigned_tied q id i) None (get_keyed q table.objects i)))) in
    λ i. record { rules = 1; index = table.index; grounds = grounds; next = table.next; objects = same i }
  where
    not_this : (b : Bool) (found : Option Object) → cond (not b) found None ≡ cond b None found
    not_this true found = refl
    not_this false found = refl

-- the objects of a part in rising id are those of the table
pub part_values : (grounds : List Ground) (table : Table) → IsRising table.objects → values (table_part grounds table).objects ≡ table.objects
part_values grounds table rise =
    ap (map (λ (entry : ℕ × Object). entry.1)) (entries_of_sorted (keyed id_of table.objects) (table_sorted table.objects rise)) ∙ values_of id_of table.objects

pub part_controller : (grounds : List Ground) (table : Table) → IsRising table.objects → controller_of (table_part grounds table) ≡ controller_among table.objects
part_controller grounds table rise = ap controller_among (part_values grounds table rise)

-- ---- tiles

pub tiles_replaced : (object : Object) (objects : List Object) → IsOnTile object → AllByRecursion IsOnTile objects → AllByRecursion IsOnTile (with_object object objects)
tiles_replaced object [] on all = tt
tiles_replaced object (first ∷ objects) on all = (
  elim (first.id == object.id) as (λ b. IsOnTile (if b then object else first)) [ true ↦ on | false ↦ all.0 ],
  tiles_replaced object objects on all.1,
)

tiles_kept : (test : Object → Bool) (objects more : List Object) → AllByRecursion IsOnTile objects → AllByRecursion IsOnTile more → AllByRecursion IsOnTile (filter test objects ++ more)
tiles_kept test [] more all rest = rest
tiles_kept test (object ∷ objects) more all rest =
    elim (test object) as (λ b. AllByRecursion IsOnTile (cond b (object ∷ filter test objects) (filter test objects) ++ more)) [
      | true ↦ (all.0, tiles_kept test objects more all.1 rest)
      | false ↦ tiles_kept test objects more all.1 rest
    ]

pub tiles_filter : (test : Object → Bool) (objects : List Object) → AllByRecursion IsOnTile objects → AllByRecursion IsOnTile (filter test objects)
tiles_filter test [] all = tt
tiles_filter test (object ∷ objects) all =
    elim (test object) as (λ b. AllByRecursion IsOnTile (cond b (object ∷ filter test objects) (filter test objects))) [
      | true ↦ (all.0, tiles_filter test objects all.1)
      | false ↦ tiles_filter test objects all.1
    ]

pub tiles_new : (object : Object) (objects : List Object) → IsOnTile object → AllByRecursion IsOnTile objects → AllByRecursion IsOnTile (with_new object objects)
tiles_new object objects on all =
    tiles_kept (λ o. nat_lt o.id object.id) objects (object ∷ filter (λ o. nat_lt object.id o.id) objects) all (on, tiles_filter (λ o. nat_lt object.id o.id) objects all)

-- An id that is absent stays so.
pub absent_replaced : (id : ℕ) (object : Object) (objects : List Object) → HasNoId id objects → HasNoId id (with_object object objects)
absent_replaced id object objects absent =
    replaced id object objects ∙ ap (instead (object.id == id) object) absent
    ∙ sym (nothing (object.id == id) object)

pub absent_without : (id gone : ℕ) (objects : List Object) → HasNoId id objects → HasNoId id (without gone objects)
absent_without id gone objects absent =
    find_filter (λ n. not (n == gone)) id objects ∙ nothing_kept (not (id == gone)) (find_object id objects) absent
  where
    nothing_kept : (b : Bool) (found : Option Object) → found ≡ None → cond b found None ≡ None
    nothing_kept true found none = none
    nothing_kept false found none = refl

-- An id that is absent stays so, or is that of the new object.
pub absent_new : (id : ℕ) (object : Object) (objects : List Object) → HasNoId id objects → HasNoId id (with_new object objects) ⊎ (id ≡ object.id)
absent_new id object objects absent =
    elim (cases_eq object.id id) [
      | inl same ↦ inr (sym same)
      | inr other ↦ inl (finds_new object objects id ∙ ap (λ (b : Bool). cond b (Some object) (find_object id objects)) (ne_eqb object.id id other) ∙ absent)
    ]
