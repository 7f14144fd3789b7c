-- What a mass attack strikes, tile by tile.
use Rattle.std.proofs.Common.{◌≡◌, ℕ, ◌+◌, ◌-◌, ◌<◌, ◌≤◌, ◌==◌, ◌&&◌, nat_lt, nat_le, min, Bool, true, false, cond, if◌then◌else◌, List, [], ◌∷◌, map, Some, None, refl, sym, ap, subst, ◌∙◌, arith, inl, inr}
use Rattle.std.specs.List.{AllByRecursion, filter, find}
use Rattle.std.proofs.lemmas.Bool.{eq-eqb, eqb-true, ne_eqb, cases_eq, cases_Bool, cond-false, lt-ltb, le-ltb, le-leb, and_parts}
use Rattle.std.proofs.lemmas.List.Sums.{sum_by-cons}
use Rattle.room_table.specs.declared.object.Object.{Object}
use Rattle.room_table.specs.Tables.{IsRising, HasNoId, find_object, first_on_from, is_on}
use Rattle.world_rules.specs.Fights.{is_struck, mass_blow, range_between}
use Rattle.world_rules.specs.Tick.{total_for}
use Rattle.world_rules.proofs.Checked.{and_right}
use Rattle.world_rules.proofs.TableParts.{all_found, found_by_id, has_the_id}
use Rattle.room_rules.specs.inner.Damage.{to_one}
use Rattle.creep_combat.specs.inner.Damage.{damage_where, mass_damage}
use Rattle.room_rules.proofs.Harmed.{to_one_apart}

-- ---- what is found by a test

pub passes_found : (test : Object → Bool) (objects : List Object) (found : Object) → find test objects ≡ Some found → test found ≡ true
passes_found test [] found is = absurd cc
passes_found test (object ∷ objects) found is =
    elim (test object) as (λ b. test object ≡ b → cond b (Some object) (find test objects) ≡ Some found → test found ≡ true) [
      | true ↦ λ passes here. let same : object ≡ found = cc in ap test (sym same) ∙ passes
      | false ↦ λ fails later. passes_found test objects found later
    ] refl is

-- where nothing passes, what stands there doesn't
pub none_passes : (test : Object → Bool) (id : ℕ) (objects : List Object) (other : Object) → find test objects ≡ None → find_object id objects ≡ Some other → test other ≡ false
none_passes test id [] other none is = absurd cc
none_passes test id (object ∷ objects) other none is =
    elim (test object) as (λ b. test object ≡ b → cond b (Some object) (find test objects) ≡ None → test other ≡ false) [
      | true ↦ λ passes here. absurd cc
      | false ↦ λ fails later. elim (object.id == id) as (λ b. cond b (Some object) (find_object id objects) ≡ Some other → test other ≡ false) [
        | true ↦ λ here. let same : object ≡ other = cc in ap test (sym same) ∙ fails
        | false ↦ λ rest. none_passes test id objects other later rest
      ] is
    ] refl none

-- in a rising list, the first that passes has the least id of those that do
pub least_passes : (test : Object → Bool) (id : ℕ) (objects : List Object) (found other : Object) → IsRising objects → find test objects ≡ Some found → find_object id objects ≡ Some other → test other ≡ true → found.id ≤ other.id
least_passes test id [] found other rise is stands passes = absurd cc
least_passes test id (object ∷ objects) found other rise is stands passes =
    elim (test object) as (λ b. test object ≡ b → cond b (Some object) (find test objects) ≡ Some found → found.id ≤ other.id) [
      | true ↦ λ does here. let same : object ≡ found = cc in
          elim (object.id == id) as (λ b. cond b (Some object) (find_object id objects) ≡ Some other → found.id ≤ other.id) [
            | true ↦ λ first. let one : object ≡ other = cc in let ids = ap (λ (o : Object). o.id) (sym same ∙ one) in omega (arith, ids)
            | false ↦ λ rest.
                let above : object.id < other.id = all_found (λ o. object.id < o.id) (λ o. o.id == id) objects other rise.0 rest in
                let ids = ap (λ (o : Object). o.id) same in
                omega (arith, ids, above)
          ] stands
      | false ↦ λ fails later. elim (object.id == id) as (λ b. cond b (Some object) (find_object id objects) ≡ Some other → found.id ≤ other.id) [
        | true ↦ λ first. let one : object ≡ other = cc in let both = sym (ap test one ∙ passes) ∙ fails in absurd cc
        | false ↦ λ rest. least_passes test id objects found other rise.1 later rest passes
      ] stands
    ] refl is

none_above : (id : ℕ) (objects : List Object) → AllByRecursion (λ later. id < later.id) objects → HasNoId id objects
none_above id [] above = refl
none_above id (object ∷ objects) above =
    let first : id < object.id = above.0 in
    cond-false _ _ _ (ne_eqb object.id id (λ e. omega (arith, e))) ∙ none_above id objects above.1

-- ---- the sum of the blows

-- what the blows on these objects sum to for an id
abbrev pub struck_total : Object → List Object → ℕ → ℕ
struck_total creep objects id = total_for (map (mass_blow creep) (filter (is_struck creep) objects)) id

total_more : (creep object : Object) (objects : List Object) (id : ℕ) → struck_total creep (object ∷ objects) id ≡ (if object.id == id then mass_damage creep object else 0) + struck_total creep objects id
total_more creep object objects id =
    let count : ℕ × ℕ → ℕ = λ entry. if entry.0 == id then entry.1 else 0 in
    let total = struck_total creep objects id in
    elim (is_struck creep object) as (λ b. total_for (map (mass_blow creep) (cond b (object ∷ filter (is_struck creep) objects) (filter (is_struck creep) objects))) id
    ≡ (if object.id == id then (if b then (mass_blow creep object).1 else 0) else 0) + total) [
      | true ↦ sum_by-cons count (mass_blow creep object) (map (mass_blow creep) (filter (is_struck creep) objects))
      | false ↦ elim (object.id == id) as (λ b. total ≡ (if b then 0 else 0) + total) [ true ↦ omega arith | false ↦ omega arith ]
    ]

total_of_none : (creep : Object) (objects : List Object) (id : ℕ) → HasNoId id objects → struck_total creep objects id ≡ 0
total_of_none creep [] id none = refl
total_of_none creep (object ∷ objects) id none =
    total_more creep object objects id
    ∙ elim (object.id == id) as (λ b. cond b (Some object) (find_object id objects) ≡ None → (if b then mass_damage creep object else 0) + struck_total creep objects id ≡ 0) [
      | true ↦ λ here. absurd cc
      | false ↦ λ rest. let later = total_of_none creep objects id rest in omega (arith, later)
    ] none

-- It is what the object of the id gets.
pub total_struck : (creep : Object) (objects : List Object) (id : ℕ) (object : Object) → IsRising objects → find_object id objects ≡ Some object → mass_damage creep object ≡ struck_total creep objects id
total_struck creep [] id object rise is = absurd cc
total_struck creep (first ∷ objects) id object rise is =
    elim (first.id == id) as (λ b. (first.id == id) ≡ b → cond b (Some first) (find_object id objects) ≡ Some object → mass_damage creep object ≡ (if b then mass_damage creep first else 0) + struck_total creep objects id) [
      | true ↦ λ named here.
          let same : first ≡ object = cc in
          let none = subst (λ (n : ℕ). HasNoId n objects) (eqb-true first.id id named) (none_above first.id objects rise.0) in
          let later = total_of_none creep objects id none in
          ap (mass_damage creep) (sym same) ∙ omega (arith, later)
      | false ↦ λ apart rest. let later = total_struck creep objects id object rise.1 rest in later ∙ omega arith
    ] refl is
    ∙ sym (total_more creep first objects id)

-- ---- tile by tile

-- A mass attack does nothing to what is farther.
pub too_far : (creep object : Object) → 3 < range_between creep object → mass_damage creep object ≡ 0
too_far creep object far =
    elim (cases_Bool (is_struck creep object)) [
      | inl struck ↦
          let near = and_right _ (nat_le (range_between creep object) 3) struck in
          let apart = le-ltb (range_between creep object) 3 in
          absurd (grind arith)
      | inr spared ↦ cond-false _ _ _ spared
    ]

-- The columns and the rows before those that are looked at are too far, and so are those after them.
pub before_columns : (creep object : Object) → nat_lt object.x (creep.x - 3) ≡ true → mass_damage creep object ≡ 0
before_columns creep object before = let below : object.x < creep.x - 3 = grind arith in too_far creep object (omega (arith, below))

pub before_rows : (creep object : Object) → nat_lt object.y (creep.y - 3) ≡ true → mass_damage creep object ≡ 0
before_rows creep object before = let below : object.y < creep.y - 3 = grind arith in too_far creep object (omega (arith, below))

pub after_columns : (creep object : Object) (x end : ℕ) → end ≡ min (creep.x + 3 + 1) 50 → end ≤ x → object.x ≤ 49 → nat_lt object.x x ≡ false → mass_damage creep object ≡ 0
after_columns creep object x end is past on after = let above : x ≤ object.x = grind arith in too_far creep object (omega (arith, is, past, on, above))

pub after_rows : (creep object : Object) (y end : ℕ) → end ≡ min (creep.y + 3 + 1) 50 → end ≤ y → object.y ≤ 49 → nat_lt object.y y ≡ false → mass_damage creep object ≡ 0
after_rows creep object y end is past on after = let above : y ≤ object.y = grind arith in too_far creep object (omega (arith, is, past, on, above))

-- a number, a lesser one or not, and the next
three_ways : (P : Bool → Bool → Bool → Type 0) (at next : ℕ) → P true false true → P false true true → P false false false → P (nat_lt at next) (at == next) (nat_lt at (next + 1))
three_ways P at next before here after =
    elim (cases_eq at next) [
      | inl same ↦
          let lesser = le-ltb at next (omega (arith, same)) in
          let equal = eq-eqb at next same in
          let so_far = lt-ltb at (next + 1) (omega (arith, same)) in
          rw (lesser, equal, so_far) here
      | inr other ↦
          let unequal = ne_eqb at next other in
          elim (cases_Bool (nat_lt at next)) [
            | inl lesser ↦ let below : at < next = grind arith in let so_far = lt-ltb at (next + 1) (omega arith) in rw (lesser, unequal, so_far) before
            | inr greater ↦ let above : next ≤ at = grind arith in let so_far = le-ltb at (next + 1) (omega (arith, other)) in rw (greater, unequal, so_far) after
          ]
    ]

pub row_more : (x : ℕ) (in_row : Bool) (n : ℕ) (at : ℕ) → (if in_row && nat_lt at x then n else 0) + (if (at == x) && in_row then n else 0) ≡ (if in_row && nat_lt at (x + 1) then n else 0)
row_more x in_row n at =
    three_ways (λ before here after. (if in_row && before then n else 0) + (if here && in_row then n else 0) ≡ (if in_row && after then n else 0)) at x
    (elim in_row as (λ b. (if b && true then n else 0) + 0 ≡ (if b && true then n else 0)) [ true ↦ omega arith | false ↦ refl ])
    (elim in_row as (λ b. (if b && false then n else 0) + (if b then n else 0) ≡ (if b && true then n else 0)) [ true ↦ omega arith | false ↦ refl ])
    (elim in_row as (λ b. (if b && false then n else 0) + 0 ≡ (if b && false then n else 0)) [ true ↦ refl | false ↦ refl ])

pub rows_more : (y n at : ℕ) → (if nat_lt at y then n else 0) + (if at == y then n else 0) ≡ (if nat_lt at (y + 1) then n else 0)
rows_more y n at = three_ways (λ before here after. (if before then n else 0) + (if here then n else 0) ≡ (if after then n else 0)) at y (omega arith) (omega arith) refl

-- Nothing was done where what passes gets nothing.
pub nothing_yet : (early late : Bool) (n : ℕ) → (late ≡ true → n ≡ 0) → 0 ≡ (if early && late then n else 0)
nothing_yet true true n nothing = sym (nothing refl)
nothing_yet true false n nothing = refl
nothing_yet false late n nothing = refl

-- All was done where what doesn't pass gets nothing.
pub all_done : (early late : Bool) (n : ℕ) → (late ≡ false → n ≡ 0) → (if early && late then n else 0) ≡ (if early then n else 0)
all_done true true n nothing = refl
all_done true false n nothing = sym (nothing refl)
all_done false late n nothing = refl

module _ (x y from : ℕ) (creep : Object) (objects : List Object) where
  abbrev comes : Object → Bool
  comes object = is_on x y object && nat_le from object.id

  abbrev pub done_before : ℕ → Object → ℕ
  done_before id = damage_where (λ object. is_on x y object && nat_lt object.id id) creep

  -- what is done by a test of the tile and one of the id
  abbrev amount : Object → Bool → Bool → ℕ
  amount object on before = if on && before then mass_damage creep object else 0

  module _ (found : Object) (rise : IsRising objects) (is : first_on_from x y from objects ≡ Some found) where
    passed : (is_on x y found ≡ true) × (nat_le from found.id ≡ true)
    passed = and_parts (is_on x y found) (nat_le from found.id) (passes_found comes objects found is)

    pub late : from ≤ found.id
    late = let test = passed.1 in grind arith

    more_here : done_before from found + to_one found.id (mass_damage creep found) found ≡ done_before (found.id + 1) found
    more_here =
        let on = passed.0 in
        let before = le-ltb found.id from late in
        let same = eq-eqb found.id found.id refl in
        let after = lt-ltb found.id (found.id + 1) (omega arith) in
        let all = mass_damage creep found in
        (λ i. amount found (on i) (before i) + (if same i then all else 0))
        ∙ omega arith
        ∙ sym (λ i. amount found (on i) (after i))

    more_apart : (id : ℕ) (object : Object) → find_object id objects ≡ Some object → (found.id ≡ object.id → ⊥) → done_before from object ≡ done_before (found.id + 1) object
    more_apart id object stands apart =
        elim (cases_Bool (is_on x y object)) [
          | inl on ↦ elim (cases_Bool (nat_lt object.id from)) [
            | inl before ↦
                let below : object.id < from = grind arith in
                let after = lt-ltb object.id (found.id + 1) (omega (arith, below, late)) in
                λ i. amount object (is_on x y object) ((before ∙ sym after) i)
            | inr before ↦
                let above : from ≤ object.id = grind arith in
                let comes_too : comes object ≡ true = (λ i. on i && le-leb from object.id above i) in
                let least = least_passes comes id objects found object rise is stands comes_too in
                let after = le-ltb object.id (found.id + 1) (omega (arith, least, apart)) in
                λ i. amount object (is_on x y object) ((before ∙ sym after) i)
          ]
          | inr off ↦ (λ i. amount object (off i) (nat_lt object.id from)) ∙ sym (λ i. amount object (off i) (nat_lt object.id (found.id + 1)))
        ]

    -- One more of the tile was struck.
    pub tile_more : (id : ℕ) (object : Object) → find_object id objects ≡ Some object → done_before from object + to_one found.id (mass_damage creep found) object ≡ done_before (found.id + 1) object
    tile_more id object stands =
        elim (cases_eq found.id object.id) [
          | inl same ↦
              let named = has_the_id id objects object stands in
              let both = sym (found_by_id comes objects found rise is) ∙ ap (λ (n : ℕ). find_object n objects) (same ∙ named) ∙ stands in
              let one : found ≡ object = cc in
              subst (λ (o : Object). done_before from o + to_one found.id (mass_damage creep found) o ≡ done_before (found.id + 1) o) one more_here
          | inr apart ↦
              let none = to_one_apart found.id (mass_damage creep found) object apart in
              let rest = more_apart id object stands apart in
              omega (arith, none, rest)
        ]

  -- All of the tile were struck.
  pub tile_done : first_on_from x y from objects ≡ None → (id : ℕ) (object : Object) → find_object id objects ≡ Some object → done_before from object ≡ damage_where (is_on x y) creep object
  tile_done none id object stands =
      elim (cases_Bool (is_on x y object)) [
        | inl on ↦ elim (cases_Bool (nat_lt object.id from)) [
          | inl before ↦ (λ i. amount object (on i) (before i)) ∙ sym (λ i. if on i then mass_damage creep object else 0)
          | inr before ↦
              let above : from ≤ object.id = grind arith in
              let fails = none_passes comes id objects object none stands in
              let comes_too : comes object ≡ true = (λ i. on i && le-leb from object.id above i) in
              let both = sym comes_too ∙ fails in
              absurd cc
        ]
        | inr off ↦ (λ i. amount object (off i) (nat_lt object.id from)) ∙ sym (λ i. if off i then mass_damage creep object else 0)
      ]
