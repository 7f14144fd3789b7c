-- Spawns take their turns, one after the other.
use Rattle.std.proofs.Common.{◌≡◌, ◌⊎◌, inl, inr, ℕ, ◌+◌, ◌-◌, ◌^◌, ◌<◌, ◌≤◌, ◌==◌, ◌&&◌, nat_le, nat_lt, Bool, true, false, cond, if◌then◌else◌, List, [], ◌∷◌, ◌++◌, map, Option, Some, None, refl, sym, ap, subst, ◌∙◌, arith}
use Rattle.std.specs.List.{AllByRecursion, filter}
use Rattle.std.specs.FinMap.{get, insert}
use Rattle.std.proofs.lemmas.Bool.{cases_lt, eqb-true, eq-eqb, leb-true, le-leb, ltb-true, lt-ltb}
use Rattle.std.proofs.lemmas.List.Elements.{filter-append}
use Rattle.game_tables.specs.Numbers.{kind_number}
use Rattle.game_tables.specs.declared.kind.Kind.{Kind}
use Rattle.game_tables.specs.declared.kind.Kind.TheVariants.{Creep, Spawn}
use Rattle.room_terrain.specs.declared.terrain.Ground.{Ground}
use Rattle.room_table.specs.declared.object.Object.{Object}
use Rattle.room_table.specs.Tables.{Table, IsRising, HasNoId, find_from, find_object, with_new, with_object}
use Rattle.world_rules.specs.RoomParts.{RoomPart, table_part}
use Rattle.world_rules.specs.Changes.{next_id}
use Rattle.world_rules.specs.Changes.{with_new as new_in_part, with_object as with_in_part}
use Rattle.world_rules.specs.Spawns.{hatched, hatched_as, hatched_on, newborn, tile_for}
use Rattle.world_rules.specs.Steps.{by_object, over_ids}
use Rattle.world_rules.proofs.TableParts.{get_table_part}
use Rattle.room_commutes.specs.Standing.{AreKeyed}
use Rattle.room_commutes.proofs.CreepsApart.{first_has}
use Rattle.room_commutes.proofs.Keyed.{keyed_if, keyed_new, keyed_object}
use Rattle.room_rules.specs.RoomRules.{Holds}
use Rattle.room_rules.proofs.Changed.{stood_before}
use Rattle.room_rules.proofs.Keeps.{IsSame, put_or_before}
use Rattle.upkeep_rules.proofs.Turns.{keys_of_table}
use Rattle.spawn_rules.specs.Spare.{is_spawn}
use Rattle.spawn_rules.specs.inner.Hatching.{hatches, ids_from, is_left}

-- ---- which spawns are left

is_false : (a : Bool) → (a && false) ≡ false
is_false true = refl
is_false false = refl

-- one below is not left
left_below : (from : ℕ) (o : Object) → o.id < from → is_left from o ≡ false
left_below from o below = ap (λ (b : Bool). is_spawn o && b) (below_false (nat_le from o.id) refl) ∙ is_false (is_spawn o)
  where
    below_false : (b : Bool) → nat_le from o.id ≡ b → nat_le from o.id ≡ false
    below_false true is = (let least = leb-true from o.id is in absurd (omega (arith, least, below)))
    below_false false is = is

-- one that is not below is left if it is a spawn
pub left_above : (from : ℕ) (o : Object) → from ≤ o.id → is_left from o ≡ is_spawn o
left_above from o above = ap (λ (b : Bool). is_spawn o && b) (le-leb from o.id above) ∙ and_true (is_spawn o)
  where
    and_true : (a : Bool) → (a && true) ≡ a
    and_true true = refl
    and_true false = refl

same_filter : (a b : ℕ) (xs : List Object) → AllByRecursion (λ x. is_left a x ≡ is_left b x) xs → filter (is_left a) xs ≡ filter (is_left b) xs
same_filter a b [] all = refl
same_filter a b (x ∷ xs) all = λ i. cond (all.0 i) (x ∷ same_filter a b xs all.1 i) (same_filter a b xs all.1 i)

-- Past an id that all are above, none is lost.
past_same : (a b id : ℕ) (xs : List Object) → a ≤ id + 1 → b ≤ id + 1 → AllByRecursion (λ x. id < x.id) xs → filter (is_left a) xs ≡ filter (is_left b) xs
past_same a b id xs low other above = same_filter a b xs (alls xs above)
  where
    alls : (ys : List Object) → AllByRecursion (λ x. id < x.id) ys → AllByRecursion (λ x. is_left a x ≡ is_left b x) ys
    alls [] all = tt
    alls (y ∷ ys) all = (let more = all.0 in (left_above a y (omega (arith, more, low)) ∙ sym (left_above b y (omega (arith, more, other))), alls ys all.1))

-- Where the next object is found, what is left is that, if it is a spawn, and what is left past it.
pub left_next : (from : ℕ) (objects : List Object) (o : Object) → IsRising objects → find_from from objects ≡ Some o
    → filter (is_left from) objects ≡ cond (is_spawn o) (o ∷ filter (is_left (o.id + 1)) objects) (filter (is_left (o.id + 1)) objects)
left_next from [] o rise is = absurd (cc)
left_next from (x ∷ xs) o rise is =
    elim (nat_le from x.id) as (λ b. nat_le from x.id ≡ b → cond b (Some x) (find_from from xs) ≡ Some o → filter (is_left from) (x ∷ xs) ≡ cond (is_spawn o) (o ∷ filter (is_left (o.id + 1)) (x ∷ xs)) (filter (is_left (o.id + 1)) (x ∷ xs))) [
      | true ↦ λ at got. (
          let same : x ≡ o = cc in
          let here = leb-true from x.id at in
          subst (λ (p : Object). filter (is_left from) (x ∷ xs) ≡ cond (is_spawn p) (p ∷ filter (is_left (p.id + 1)) (x ∷ xs)) (filter (is_left (p.id + 1)) (x ∷ xs))) same (
          (λ i. cond (left_above from x here i) (x ∷ past_same from (x.id + 1) x.id xs (omega (arith, here)) (omega arith) rise.0 i) (past_same from (x.id + 1) x.id xs (omega (arith, here)) (omega arith) rise.0 i))
          ∙ (λ i. cond (is_spawn x) (x ∷ passed_over (x.id + 1) x (omega arith) i) (passed_over (x.id + 1) x (omega arith) i))
          ))
      | false ↦ λ past got. (
          let below : x.id < from = not_least (nat_le from x.id) past refl in
          let least = leb-true from o.id (first_has (λ (p : Object). nat_le from p.id) xs o got).1 in
          (λ i. cond (left_below from x below i) (x ∷ filter (is_left from) xs) (filter (is_left from) xs))
          ∙ left_next from xs o rise.1 got
          ∙ (λ i. cond (is_spawn o) (o ∷ passed_over (o.id + 1) x (omega (arith, below, least)) i) (passed_over (o.id + 1) x (omega (arith, below, least)) i)))
    ] refl is
  where
    passed_over : (n : ℕ) (y : Object) → y.id < n → filter (is_left n) xs ≡ cond (is_left n y) (y ∷ filter (is_left n) xs) (filter (is_left n) xs)
    passed_over n y less = ap (λ (b : Bool). cond b (y ∷ filter (is_left n) xs) (filter (is_left n) xs)) (sym (left_below n y less))

    not_least : (b : Bool) → b ≡ false → nat_le from x.id ≡ b → x.id < from
    not_least b absent is = elim (cases_lt x.id from) [
      | inl less ↦ less
      | inr more ↦ absurd (both b absent (sym is ∙ le-leb from x.id more))
    ]
      where
        both : (c : Bool) → c ≡ false → c ≡ true → ⊥
        both c one other = cc

-- Where none is found, none is left.
pub none_left : (from : ℕ) (objects : List Object) → find_from from objects ≡ None → filter (is_left from) objects ≡ []
none_left from [] is = refl
none_left from (x ∷ xs) is =
    elim (nat_le from x.id) as (λ b. nat_le from x.id ≡ b → cond b (Some x) (find_from from xs) ≡ None → cond (is_spawn x && b) (x ∷ filter (is_left from) xs) (filter (is_left from) xs) ≡ []) [
      | true ↦ λ at got. absurd (cc)
      | false ↦ λ past got. ap (λ (b : Bool). cond b (x ∷ filter (is_left from) xs) (filter (is_left from) xs)) (is_false (is_spawn x)) ∙ none_left from xs got
    ] refl is

-- None is left past all ids.
pub none_past : (from : ℕ) (objects : List Object) → AllByRecursion (λ object. object.id < from) objects → filter (is_left from) objects ≡ []
none_past from [] all = refl
none_past from (x ∷ xs) all = (λ i. cond (left_below from x all.0 i) (x ∷ filter (is_left from) xs) (filter (is_left from) xs)) ∙ none_past from xs all.1

-- ---- what a change leaves of them

pub left_with : (from : ℕ) (object : Object) (objects : List Object) → object.id < from → filter (is_left from) (with_object object objects) ≡ filter (is_left from) objects
left_with from object [] below = refl
left_with from object (x ∷ xs) below =
    let rest = left_with from object xs below in
    elim (x.id == object.id) as (λ b. (x.id == object.id) ≡ b → filter (is_left from) ((if b then object else x) ∷ with_object object xs) ≡ filter (is_left from) (x ∷ xs)) [
      | true ↦ λ is. (
          let same = eqb-true x.id object.id is in
          (λ i. cond (left_below from object below i) (object ∷ filter (is_left from) (with_object object xs)) (filter (is_left from) (with_object object xs)))
          ∙ rest
          ∙ (λ i. cond (sym (left_below from x (omega (arith, same, below))) i) (x ∷ filter (is_left from) xs) (filter (is_left from) xs)))
      | false ↦ λ is. (λ i. cond (is_left from x) (x ∷ rest i) (rest i))
    ] refl

-- the objects below and above an id that none has
lower_upper : (id : ℕ) (objects : List Object) → IsRising objects → HasNoId id objects → filter (λ (o : Object). nat_lt o.id id) objects ++ filter (λ (o : Object). nat_lt id o.id) objects ≡ objects
lower_upper id [] rise absent = refl
lower_upper id (x ∷ xs) rise absent =
    elim (x.id == id) as (λ b. (x.id == id) ≡ b → cond b (Some x) (find_object id xs) ≡ None → filter (λ (o : Object). nat_lt o.id id) (x ∷ xs) ++ filter (λ (o : Object). nat_lt id o.id) (x ∷ xs) ≡ x ∷ xs) [
      | true ↦ λ is none. absurd (cc)
      | false ↦ λ apart none. elim (cases_lt x.id id) [
        | inl less ↦
            (λ i. cond (lt-ltb x.id id less i) (x ∷ filter (λ (o : Object). nat_lt o.id id) xs) (filter (λ (o : Object). nat_lt o.id id) xs) ++ cond (not_lt id x.id (omega (arith, less)) i) (x ∷ filter (λ (o : Object). nat_lt id o.id) xs) (filter (λ (o : Object). nat_lt id o.id) xs))
            ∙ ap (λ (ys : List Object). x ∷ ys) (lower_upper id xs rise.1 none)
        | inr more ↦
            let above : id < x.id = greater more (λ same. both (x.id == id) apart (eq-eqb x.id id same)) in
            (λ i. cond (not_lt x.id id (omega (arith, above)) i) (x ∷ filter (λ (o : Object). nat_lt o.id id) xs) (none_lower xs (all_above above xs rise.0) i) ++ cond (lt-ltb id x.id above i) (x ∷ all_upper xs (all_above above xs rise.0) i) (filter (λ (o : Object). nat_lt id o.id) xs))
      ]
    ] refl absent
  where
    both : (c : Bool) → c ≡ false → c ≡ true → ⊥
    both c one other = cc

    greater : id ≤ x.id → (x.id ≡ id → ⊥) → id < x.id
    greater more apart = elim (cases_lt id x.id) [
      | inl less ↦ less
      | inr least ↦ absurd (apart (omega (arith, more, least)))
    ]

    not_lt : (m n : ℕ) → n ≤ m → nat_lt m n ≡ false
    not_lt m n most = elim (nat_lt m n) as (λ b. nat_lt m n ≡ b → b ≡ false) [
      | true ↦ λ is. (let less = ltb-true m n is in absurd (omega (arith, less, most)))
      | false ↦ λ is. refl
    ] refl

    all_above : id < x.id → (ys : List Object) → AllByRecursion (λ y. x.id < y.id) ys → AllByRecursion (λ y. id < y.id) ys
    all_above first [] all = tt
    all_above first (y ∷ ys) all = (let more = all.0 in (omega (arith, first, more), all_above first ys all.1))

    none_lower : (ys : List Object) → AllByRecursion (λ y. id < y.id) ys → filter (λ (o : Object). nat_lt o.id id) ys ≡ []
    none_lower [] all = refl
    none_lower (y ∷ ys) all = (let more = all.0 in (λ i. cond (not_lt y.id id (omega (arith, more)) i) (y ∷ filter (λ (o : Object). nat_lt o.id id) ys) (none_lower ys all.1 i)))

    all_upper : (ys : List Object) → AllByRecursion (λ y. id < y.id) ys → filter (λ (o : Object). nat_lt id o.id) ys ≡ ys
    all_upper [] all = refl
    all_upper (y ∷ ys) all = λ i. cond (lt-ltb id y.id all.0 i) (y ∷ all_upper ys all.1 i) (filter (λ (o : Object). nat_lt id o.id) ys)

-- A new object that is no spawn leaves them.
pub left_new : (from : ℕ) (object : Object) (objects : List Object) → IsRising objects → HasNoId object.id objects → is_spawn object ≡ false → filter (is_left from) (with_new object objects) ≡ filter (is_left from) objects
left_new from object objects rise absent other =
    let lower : List Object = filter (λ (o : Object). nat_lt o.id object.id) objects in
    let upper : List Object = filter (λ (o : Object). nat_lt object.id o.id) objects in
    let none : is_left from object ≡ false = ap (λ (b : Bool). b && nat_le from object.id) other in
    filter-append (is_left from) lower (object ∷ upper)
    ∙ ap (λ (b : Bool). filter (is_left from) lower ++ cond b (object ∷ filter (is_left from) upper) (filter (is_left from) upper)) none
    ∙ sym (filter-append (is_left from) lower upper)
    ∙ ap (filter (is_left from)) (lower_upper object.id objects rise absent)

-- ---- those that are no spawns do nothing

-- What stands under the id, if anything, is no spawn.
abbrev Idle : RoomPart → ℕ → Type 0
Idle part id = (o : Object) → Holds part id o → is_spawn o ≡ false

idle_kind : (kind : Kind) (o : Object) (part : RoomPart) → (kind_number kind == kind_number Spawn) ≡ false → hatched_as kind o part ≡ part
idle_kind Spawn o part is = absurd (cc)
idle_kind kind o part is = refl

idle_stays : (part : RoomPart) (id : ℕ) → Idle part id → (found : Option Object) → get part.objects id ≡ found → by_object hatches part found ≡ part
idle_stays part id idle None is = refl
idle_stays part id idle (Some o) is = idle_kind o.kind o part (idle o is)

-- What stands after a spawn's turn is a creep, or stood before as the same kind.
abbrev Comes : RoomPart → RoomPart → Type 0
Comes before after = (id : ℕ) (q : Object) → Holds after id q → (q.kind ≡ Creep) ⊎ ((r : Object) × Holds before id r × (q.kind ≡ r.kind))

came_self : (part : RoomPart) → Comes part part
came_self part id q h = inr (q, h, refl)

came_with : (part : RoomPart) (object old : Object) → Holds part object.id old → IsSame old object → Comes part (with_in_part object part)
came_with part object old there same id q h = (let was = stood_before part object old there same id q h in inr (was.0, was.1, was.2))

came_new : (part : RoomPart) (make : ℕ → Object) → (make (next_id part)).kind ≡ Creep → Comes part (new_in_part make part)
came_new part make kind id q = by_case (nat_lt part.next (2 ^ 32))
  where
    by_case : (b : Bool) → Holds (if b then record part { next = part.next + 1; objects = insert part.objects (next_id part) (make (next_id part)) } else part) id q → (q.kind ≡ Creep) ⊎ ((r : Object) × Holds part id r × (q.kind ≡ r.kind))
    by_case true h = put_or_before part (next_id part) (make (next_id part)) id q h (λ at one. inl (ap (λ (o : Object). o.kind) (sym one) ∙ kind)) (λ before. inr (q, before, refl))
    by_case false h = inr (q, h, refl)

came_trans : (first middle last : RoomPart) → Comes first middle → Comes middle last → Comes first last
came_trans first middle last one other id q h = elim (other id q h) [
  | inl creep ↦ inl creep
  | inr was ↦ elim (one id was.0 was.1) [
    | inl creep ↦ inl (was.2 ∙ creep)
    | inr before ↦ inr (before.0, before.1, was.2 ∙ before.2)
  ]
]

on_comes : (spawn : Object) (at : Option (ℕ × ℕ)) (part : RoomPart) → Holds part spawn.id spawn → Comes part (hatched_on spawn at part)
on_comes spawn None part there = came_self part
on_comes spawn (Some at) part there =
    let rest : Object = record spawn { timer = 0; body = [] } in
    let after : RoomPart = with_in_part rest part in
    came_trans part after (new_in_part (newborn spawn at) after)
    (came_with part rest spawn there (record { id = refl; kind = refl; x = refl; y = refl; owner = refl; other = refl }))
    (came_new after (newborn spawn at) refl)

hatch_comes : (kind : Kind) (o : Object) (part : RoomPart) → Holds part o.id o → Comes part (hatched_as kind o part)
hatch_comes Spawn spawn part there =
    elim (nat_lt 1 spawn.timer) as (λ b. Comes part (if b then with_in_part (record spawn { timer = spawn.timer - 1 }) part else if spawn.timer == 1 then hatched_on spawn (tile_for part spawn) part else part)) [
      | true ↦ came_with part (record spawn { timer = spawn.timer - 1 }) spawn there (record { id = refl; kind = refl; x = refl; y = refl; owner = refl; other = refl })
      | false ↦ elim (spawn.timer == 1) as (λ b. Comes part (if b then hatched_on spawn (tile_for part spawn) part else part)) [
        | true ↦ on_comes spawn (tile_for part spawn) part there
        | false ↦ came_self part
      ]
    ]
hatch_comes kind o part there = came_self part

on_keyed : (spawn : Object) (at : Option (ℕ × ℕ)) (part : RoomPart) → AreKeyed part → AreKeyed (hatched_on spawn at part)
on_keyed spawn None part keyed = keyed
on_keyed spawn (Some at) part keyed =
    let rest : Object = record spawn { timer = 0; body = [] } in
    keyed_new (newborn spawn at) (λ id. refl) (with_in_part rest part) (keyed_object rest part keyed)

hatch_keyed : (kind : Kind) (o : Object) (part : RoomPart) → AreKeyed part → AreKeyed (hatched_as kind o part)
hatch_keyed Spawn spawn part keyed =
    keyed_if (nat_lt 1 spawn.timer) (with_in_part (record spawn { timer = spawn.timer - 1 }) part) (if spawn.timer == 1 then hatched_on spawn (tile_for part spawn) part else part)
    (keyed_object (record spawn { timer = spawn.timer - 1 }) part keyed)
    (keyed_if (spawn.timer == 1) (hatched_on spawn (tile_for part spawn) part) part (on_keyed spawn (tile_for part spawn) part keyed) keyed)
hatch_keyed kind o part keyed = keyed

turn_comes : (part : RoomPart) → AreKeyed part → (id : ℕ) (found : Option Object) → get part.objects id ≡ found → Comes part (by_object hatches part found) × AreKeyed (by_object hatches part found)
turn_comes part keyed id None is = (came_self part, keyed)
turn_comes part keyed id (Some o) is =
    (hatch_comes o.kind o part (subst (λ (n : ℕ). Holds part n o) (sym (keyed id o is)) is), hatch_keyed o.kind o part keyed)

idle_after : (part after : RoomPart) → Comes part after → (id : ℕ) → Idle part id → Idle after id
idle_after part after comes id idle o h = elim (comes id o h) [
  | inl creep ↦ ap (λ (k : Kind). kind_number k == kind_number Spawn) creep
  | inr was ↦ ap (λ (k : Kind). kind_number k == kind_number Spawn) was.2 ∙ idle was.0 was.1
]

-- Those of a list that are no spawns are passed over.
abbrev AreIdle : RoomPart → List Object → Type 0
AreIdle part xs = AllByRecursion (λ x. is_left 0 x ≡ false → Idle part x.id) xs

still_idle : (part after : RoomPart) → Comes part after → (xs : List Object) → AreIdle part xs → AreIdle after xs
still_idle part after comes [] all = tt
still_idle part after comes (x ∷ xs) all = ((λ is. idle_after part after comes x.id (all.0 is)), still_idle part after comes xs all.1)

skip_idle : (xs : List Object) (part : RoomPart) → AreKeyed part → AreIdle part xs → over_ids hatches (map (λ (o : Object). o.id) xs) part ≡ over_ids hatches (ids_from 0 xs) part
skip_idle [] part keyed all = refl
skip_idle (x ∷ xs) part keyed all =
    let after : RoomPart = by_object hatches part (get part.objects x.id) in
    let turn = turn_comes part keyed x.id (get part.objects x.id) refl in
    elim (is_left 0 x) as (λ b. is_left 0 x ≡ b → over_ids hatches (map (λ (o : Object). o.id) xs) after ≡ over_ids hatches (map (λ (o : Object). o.id) (cond b (x ∷ filter (is_left 0) xs) (filter (is_left 0) xs))) part) [
      | true ↦ λ is. skip_idle xs after turn.1 (still_idle part after turn.0 xs all.1)
      | false ↦ λ is. ap (over_ids hatches (map (λ (o : Object). o.id) xs)) (idle_stays part x.id (all.0 is) (get part.objects x.id) refl) ∙ skip_idle xs part keyed all.1
    ] refl

-- ---- the objects of a table

module _ (grounds : List Ground) (table : Table) (rise : IsRising table.objects) where
  abbrev whole : RoomPart
  whole = table_part grounds table

  whole_keyed : AreKeyed whole
  whole_keyed id o h = keyed_found table.objects id o (sym (get_table_part grounds table id) ∙ h)
    where
      keyed_found : (xs : List Object) (key : ℕ) (p : Object) → find_object key xs ≡ Some p → p.id ≡ key
      keyed_found xs key p is = eqb-true p.id key (first_has (λ (q : Object). q.id == key) xs p is).1

  own_idle : (xs : List Object) → AllByRecursion (λ x. find_object x.id table.objects ≡ Some x) xs → AreIdle whole xs
  own_idle [] all = tt
  own_idle (x ∷ xs) all = (
    (λ is o h. (
        let same : x ≡ o = only x o (find_object x.id table.objects) all.0 (sym (get_table_part grounds table x.id) ∙ h) in
        ap is_spawn (sym same) ∙ sym (left_above 0 x (omega arith)) ∙ is)),
    own_idle xs all.1,
  )
    where
      only : (one other : Object) (found : Option Object) → found ≡ Some one → found ≡ Some other → one ≡ other
      only one other found is at = cc

  pub hatched_by_spawns : AllByRecursion (λ x. find_object x.id table.objects ≡ Some x) table.objects → over_ids hatches (ids_from 0 table.objects) whole ≡ hatched whole
  hatched_by_spawns own =
      sym (skip_idle table.objects whole whole_keyed (own_idle table.objects own))
      ∙ ap (λ (ids : List ℕ). over_ids hatches ids whole) (sym (keys_of_table grounds table rise))
