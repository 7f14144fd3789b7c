-- What movement leaves of each object of a room, and that it keeps the rules of the room.
use Rattle.std.proofs.Common.{◌≡◌, ◌≢◌, ◌⊎◌, inl, inr, ℕ, ◌+◌, ◌-◌, ◌*◌, ◌/◌, ◌<◌, ◌≤◌, ◌==◌, ◌&&◌, ◌||◌, not, max, nat_lt, pos, negsuc, ◌+ℤ◌, ℤ, if◌then◌else◌, Bool, true, false, cond, List, [], ◌∷◌, length, Option, Some, None, option_map, option_and_then, slice_get, refl, sym, ap, subst, ◌∙◌, arith}
use Rattle.std.specs.List.{cons_option, count_by, filter, filter_map, find as first_that}
use Rattle.std.specs.FinMap.{get, values, entries, get-entries}
use Rattle.std.proofs.lemmas.Bool.{and_parts, both_ways, eq-eqb, eqb-true, false_from_ne_true, ltb-true}
use Rattle.std.proofs.lemmas.Nat.{mul-le}
use Rattle.std.proofs.lemmas.List.Sums.{sum_by-cons}
use Rattle.game_tables.specs.Bodies.{most_parts, part_hits, same_part, live_parts, load_room}
use Rattle.game_tables.specs.Kinds.{clash, hits_max, is_controller, is_creep, may_have_owner, obstructs}
use Rattle.game_tables.specs.declared.action.Action.TheVariants.{Move}
use Rattle.game_tables.specs.declared.kind.Kind.{Kind}
use Rattle.game_tables.specs.declared.kind.Kind.TheVariants.{Creep, Road}
use Rattle.game_tables.specs.declared.kind.Part.{Part}
use Rattle.game_tables.specs.declared.kind.Part.TheVariants as parts
use Rattle.room_terrain.specs.declared.direction.Direction.{Direction}
use Rattle.room_terrain.specs.declared.terrain.Ground.{Ground}
use Rattle.room_terrain.specs.declared.terrain.Ground.TheVariants.{Wall, Plain, Swamp}
use Rattle.room_terrain.specs.Geometry.{dx, dy}
use Rattle.room_terrain.specs.Tiles.{tile}
use Rattle.intent_book.specs.declared.intent.Intent.{Intent}
use Rattle.room_table.specs.declared.object.Object.{Object}
use Rattle.room_table.specs.Tables.{IsOnTile, is_obstructed}
use Rattle.world_rules.specs.RoomParts.{RoomPart}
use Rattle.world_rules.specs.Checks.{may_take_effect}
use Rattle.world_rules.specs.Movement.{Mover, has_mover, is_creep_on, winners, movers, stepped, worn_as}
use Rattle.world_rules.specs.Moves.{direction_of, inside, tile_towards, is_open_ground, is_open, mover_to, mover_towards, mover_of, candidates, weighs, weight, pace, has_road, fatigue}
use Rattle.world_rules.specs.Moves.{moved as moved_part}
use Rattle.world_rules.specs.Rules.{IsOnWrongTile}
use Rattle.world_rules.specs.Steps.{each}
use Rattle.world_rules.proofs.Checked.{creep_acts}
use Rattle.room_commutes.specs.Standing.{AreCreepsApart, KeepsIds}
use Rattle.room_commutes.proofs.Members.{Has, found_has, has_any, has_filter}
use Rattle.room_commutes.proofs.ActorsOnce.{candidates_once}
use Rattle.room_commutes.proofs.CreepsApart.{each_rest, moved_apart}
use Rattle.room_rules.specs.Within.{within, IsCreepWithin, IsInRangeIn}
use Rattle.room_rules.specs.RoomRules.{Holds, HasRightOwner, KeepsRoomRules}
use Rattle.room_rules.specs.Calls.{AreActorsOnce}
use Rattle.room_rules.proofs.Keeps.{each_came}
use Rattle.room_rules.proofs.Falls.{both_true, is_creep_kind}
use Rattle.room_rules.proofs.Sound.{clash_turned}

-- ---- what is found in lists and options

and_then_some : {A B : Type 0} (f : A → Option B) (found : Option A) (y : B) → option_and_then f found ≡ Some y → (x : A) × (found ≡ Some x) × (f x ≡ Some y)
and_then_some f None y is = absurd (cc)
and_then_some f (Some x) y is = (x, refl, is)

map_some : {A B : Type 0} (f : A → B) (found : Option A) (y : B) → option_map f found ≡ Some y → (x : A) × (found ≡ Some x) × (f x ≡ y)
map_some f None y is = absurd (cc)
map_some f (Some x) y is = (x, refl, cc)

found_that : {A : Type 0} (test : A → Bool) (list : List A) (x : A) → first_that test list ≡ Some x → Has list x × (test x ≡ true)
found_that test [] x is = absurd (cc)
found_that test (y ∷ list) x is = elim (test y) as (λ b. test y ≡ b → cond b (Some y) (first_that test list) ≡ Some x → Has (y ∷ list) x × (test x ≡ true)) [
  | true ↦ λ passes got. let same : y ≡ x = cc in (inl same, ap test (sym same) ∙ passes)
  | false ↦ λ fails got. let rest = found_that test list x got in (inr rest.0, rest.1)
] refl is

pub from_filter_map : {A B : Type 0} (f : A → Option B) (list : List A) (y : B) → Has (filter_map f list) y → (x : A) × (f x ≡ Some y)
from_filter_map f [] y has = absurd has
from_filter_map f (x ∷ list) y has = elim (f x) as (λ r. f x ≡ r → Has (cons_option r (filter_map f list)) y → (z : _) × (f z ≡ Some y)) [
  | None ↦ λ is also. from_filter_map f list y also
  | Some made ↦ λ is also. elim also [
    | inl same ↦ (x, is ∙ ap Some same)
    | inr later ↦ from_filter_map f list y later
  ]
] refl has

-- ---- how tired a step makes a creep

carry_light : (part : Part) → cond {A = ℕ} (weighs part) 1 0 + cond {A = ℕ} (same_part parts.Carry part) 1 0 ≤ 1
carry_light parts.Move = omega arith
carry_light parts.Work = omega arith
carry_light parts.Carry = omega arith
carry_light parts.Attack = omega arith
carry_light parts.RangedAttack = omega arith
carry_light parts.Tough = omega arith
carry_light parts.Heal = omega arith
carry_light parts.Claim = omega arith

filter_count : (test : Part → Bool) (part : Part) (rest : List Part) → length (filter test (part ∷ rest)) ≡ cond {A = ℕ} (test part) 1 0 + length (filter test rest)
filter_count test part rest = elim (test part) as (λ b. length (cond b (part ∷ filter test rest) (filter test rest)) ≡ cond {A = ℕ} b 1 0 + length (filter test rest)) [
  | true ↦ omega arith
  | false ↦ omega arith
]

-- what weighs and what carries are no more than all parts
light_parts : (hits : ℕ) (list : List Part) → length (filter weighs list) + count_by (same_part parts.Carry) (live_parts hits list) ≤ length list
light_parts hits [] = omega arith
light_parts hits (part ∷ rest) =
    let later = light_parts hits rest in
    let one = carry_light part in
    let heavy = filter_count weighs part rest in
    elim (nat_lt 0 (part_hits hits (length rest))) as (λ b. length (filter weighs (part ∷ rest)) + count_by (same_part parts.Carry) (if b then part ∷ live_parts hits rest else live_parts hits rest) ≤ length (part ∷ rest)) [
      | true ↦ omega (arith, later, one, heavy, sum_by-cons (λ p. cond {A = ℕ} (same_part parts.Carry p) 1 0) part (live_parts hits rest))
      | false ↦ omega (arith, later, one, heavy)
    ]

pace_most : (road : Bool) (surface : Option Ground) → pace road surface ≤ 10
pace_most true surface = omega arith
pace_most false (Some Swamp) = omega arith
pace_most false (Some Plain) = omega arith
pace_most false (Some Wall) = omega arith
pace_most false None = omega arith

weight_most : (hits energy : ℕ) (body : List Part) → energy ≤ load_room hits body → length body ≤ most_parts → length (filter weighs body) + (energy + 49) / 50 ≤ 50
weight_most hits energy body load few = omega (arith, load, few, light_parts hits body)

times_most : (m n : ℕ) → m ≤ 50 → n ≤ 10 → m * n ≤ 500
times_most m n few less = mul-le m n 50 10 few less

-- ---- a creep that would step

-- The creep would step to the tile, which is open to it.
record Comes (part : RoomPart) (entry : Intent) (one : Mover) : Type 0 where
  creep : Object
  there : Holds part entry.actor creep
  kind : is_creep creep.kind ≡ true
  id : one.creep ≡ creep.id
  column : one.x ≤ 49
  row : one.y ≤ 49
  open_to : is_open part creep.owner (one.x, one.y) ≡ true

inside_most : (z : ℤ) (n : ℕ) → inside z ≡ Some n → n ≤ 49
inside_most (pos z) n is = elim (nat_lt z 50) as (λ b. nat_lt z 50 ≡ b → (if b then Some z else None) ≡ Some n → n ≤ 49) [
  | true ↦ λ less got. (let same : z ≡ n = cc in let below : z < 50 = ltb-true z 50 less in omega (arith, below, same))
  | false ↦ λ other got. absurd (cc)
] refl is
inside_most (negsuc z) n is = absurd (cc)

-- a tile that lies in a direction is one of the room
pub towards_most : (to : Direction) (x y : ℕ) (at : ℕ × ℕ) → tile_towards to x y ≡ Some at → (at.0 ≤ 49) × (at.1 ≤ 49)
towards_most to x y at is =
    let rows : ℕ → Option (ℕ × ℕ) = λ column. option_map (λ row. (column, row)) (inside (pos y +ℤ dy to)) in
    let column = and_then_some rows (inside (pos x +ℤ dx to)) at is in
    let row = map_some (λ row. (column.0, row)) (inside (pos y +ℤ dy to)) at column.2 in
    let left : at.0 ≡ column.0 = ap (λ (p : ℕ × ℕ). p.0) (sym row.2) in
    let right : at.1 ≡ row.0 = ap (λ (p : ℕ × ℕ). p.1) (sym row.2) in
    (omega (arith, left, inside_most (pos x +ℤ dx to) column.0 column.1), omega (arith, right, inside_most (pos y +ℤ dy to) row.0 row.1))

opened : (part : RoomPart) (creep : Object) (at : ℕ × ℕ) (one : Mover) → mover_to part creep at ≡ Some one → (is_open part creep.owner at ≡ true) × (one ≡ record { creep = creep.id; x = at.0; y = at.1 })
opened part creep at one is =
    let there : Mover = record { creep = creep.id; x = at.0; y = at.1 } in
    elim (is_open part creep.owner at) as (λ b. is_open part creep.owner at ≡ b → (if b then Some there else None) ≡ Some one → (b ≡ true) × (one ≡ there)) [
      | true ↦ λ clear got. (refl, cc)
      | false ↦ λ barred got. absurd (cc)
    ] refl is

comes : (part : RoomPart) (entry : Intent) (one : Mover) → mover_of part entry ≡ Some one → Comes part entry one
comes part entry one is =
    elim (may_take_effect Move entry part) as (λ b. may_take_effect Move entry part ≡ b → (if b then option_and_then (mover_towards part entry.amount) (get part.objects entry.actor) else None) ≡ Some one → Comes part entry one) [
      | true ↦ λ can got.
          let found = and_then_some (mover_towards part entry.amount) (get part.objects entry.actor) one got in
          let creep : Object = found.0 in
          let ahead : Direction → Option (ℕ × ℕ) = λ to. tile_towards to creep.x creep.y in
          let at = and_then_some (mover_to part creep) (option_and_then ahead (direction_of entry.amount)) one found.2 in
          let to = and_then_some ahead (direction_of entry.amount) at.0 at.1 in
          let most = towards_most to.0 creep.x creep.y at.0 to.2 in
          let clear = opened part creep at.0 one at.2 in
          let x : one.x ≡ at.0.0 = ap (λ (m : Mover). m.x) clear.1 in
          let y : one.y ≡ at.0.1 = ap (λ (m : Mover). m.y) clear.1 in
          record {
            creep = creep;
            there = found.1;
            kind = creep_acts Move entry part creep found.1 can;
            id = ap (λ (m : Mover). m.creep) clear.1;
            column = omega (arith, x, most.0);
            row = omega (arith, y, most.1);
            open_to = (λ i. is_open part creep.owner (x i, y i)) ∙ clear.0;
          }
      | false ↦ λ cannot got. absurd (cc)
    ] refl is

-- ---- what movement leaves of an object

-- A road may have worn.
record Wore (before after : Object) : Type 0 where
  kind : before.kind ≡ Road
  wear : ℕ
  is : after ≡ record before { timer = max 1 (before.timer - wear) }

-- A creep went to an open tile.
record Went (part : RoomPart) (before after : Object) : Type 0 where
  kind : before.kind ≡ Creep
  x : ℕ
  y : ℕ
  column : x ≤ 49
  row : y ≤ 49
  open_to : is_open part before.owner (x, y) ≡ true
  is : after ≡ record before { x = x; y = y; other_ticks = 1; extra = fatigue part before (record { creep = before.id; x = x; y = y }) }

-- An object after movement: as it was, a road that wore, or a creep that went.
abbrev Made : RoomPart → Object → Object → Type 0
Made part before after = (after ≡ before) ⊎ (Wore before after ⊎ Went part before after)

worn_made : (part : RoomPart) (k : Kind) (creeps : List Object) (o : Object) → o.kind ≡ k → Made part o (worn_as k creeps o)
worn_made part Road creeps o kind = elim (first_that (is_creep_on o.x o.y) creeps) as (λ found. Made part o (elim found as (λ f. Object) [ None ↦ o | Some creep ↦ record o { timer = max 1 (o.timer - length creep.body) } ])) [
  | None ↦ inl refl
  | Some creep ↦ inr (inl (record { kind = kind; wear = length creep.body; is = refl }))
]
worn_made part k creeps o kind = inl refl

-- what stays the same of an object
record IsStill (before after : Object) : Type 0 where
  id : after.id ≡ before.id
  kind : after.kind ≡ before.kind
  owner : after.owner ≡ before.owner
  other : after.other ≡ before.other

made_still : (part : RoomPart) (q o : Object) → Made part q o → IsStill q o
made_still part q o (inl is) = record { id = ap (λ (p : Object). p.id) is; kind = ap (λ (p : Object). p.kind) is; owner = ap (λ (p : Object). p.owner) is; other = ap (λ (p : Object). p.other) is }
made_still part q o (inr (inl w)) = record { id = ap (λ (p : Object). p.id) w.is; kind = ap (λ (p : Object). p.kind) w.is; owner = ap (λ (p : Object). p.owner) w.is; other = ap (λ (p : Object). p.other) w.is }
made_still part q o (inr (inr w)) = record { id = ap (λ (p : Object). p.id) w.is; kind = ap (λ (p : Object). p.kind) w.is; owner = ap (λ (p : Object). p.owner) w.is; other = ap (λ (p : Object). p.other) w.is }

-- It stays on its tile, or it is a creep that went.
abbrev StaysOrGoes : RoomPart → Object → Object → Type 0
StaysOrGoes part q o = ((o.x ≡ q.x) × (o.y ≡ q.y)) ⊎ Went part q o

made_place : (part : RoomPart) (q o : Object) → Made part q o → StaysOrGoes part q o
made_place part q o (inl is) = inl (ap (λ (p : Object). p.x) is, ap (λ (p : Object). p.y) is)
made_place part q o (inr (inl w)) = inl (ap (λ (p : Object). p.x) w.is, ap (λ (p : Object). p.y) w.is)
made_place part q o (inr (inr w)) = inr w

-- ---- ranges

worn_range : (k : Kind) (o : Object) (wear : ℕ) → k ≡ Road → IsInRangeIn k within o → IsInRangeIn k within (record o { timer = max 1 (o.timer - wear) })
worn_range Road o wear is s = record { owner = s.owner; hits = s.hits; energy = s.energy; timer = (omega arith, omega (arith, s.timer)); extra = s.extra; progress = s.progress; other = s.other; other_ticks = s.other_ticks; body = s.body }
worn_range k o wear is s = absurd (cc)

module _ (part : RoomPart) (o : Object) (x y : ℕ) where
  abbrev step_to : Mover
  step_to = record { creep = o.id; x = x; y = y }

  abbrev gone_to : Object
  gone_to = record o { x = x; y = y; other_ticks = 1; extra = fatigue part o step_to }

  tired : (hits : ℕ) → o.energy ≤ load_room hits o.body → length o.body ≤ most_parts → fatigue part o step_to ≤ 500
  tired hits load few =
      let road : Bool = has_road part x y in
      let surface : Option Ground = slice_get part.grounds (tile x y) in
      times_most (weight o) (pace road surface) (weight_most hits o.energy o.body load few) (pace_most road surface)

  went_within : IsCreepWithin o → IsCreepWithin gone_to
  went_within s = record { owner = s.owner; hits = s.hits; energy = s.energy; timer = s.timer; extra = tired (hits_max Creep o.body) s.energy s.parts; progress = s.progress; other = s.other; other_ticks = omega arith; some_parts = s.some_parts; parts = s.parts }

  went_range : (k : Kind) → k ≡ Creep → IsInRangeIn k within o → IsInRangeIn k within gone_to
  went_range Creep is s = went_within s
  went_range k is s = absurd (cc)

made_range : (part : RoomPart) (q o : Object) → Made part q o → IsInRangeIn q.kind within q → IsInRangeIn q.kind within o
made_range part q o (inl is) r = subst (IsInRangeIn q.kind within) (sym is) r
made_range part q o (inr (inl w)) r = subst (IsInRangeIn q.kind within) (sym w.is) (worn_range q.kind q w.wear w.kind r)
made_range part q o (inr (inr w)) r = subst (IsInRangeIn q.kind within) (sym w.is) (went_range part q w.x w.y q.kind w.kind r)

-- ---- kinds on one tile

creeps_clash : (one other : Kind) → is_creep one ≡ true → is_creep other ≡ true → clash one other ≡ true
creeps_clash one other is also = (λ i. clash (is_creep_kind one is i) (is_creep_kind other also i))

pub clash_creep : (k : Kind) → clash Creep k ≡ true → (is_creep k ≡ true) ⊎ ((is_creep k ≡ false) × (obstructs k ≡ true))
clash_creep k is = cases (is_creep k) (obstructs k) refl refl is
  where
    cases : (a b : Bool) → is_creep k ≡ a → obstructs k ≡ b → (a || false || false || b || false) ≡ true → (is_creep k ≡ true) ⊎ ((is_creep k ≡ false) × (obstructs k ≡ true))
    cases true b is also c = inl is
    cases false true is also c = inr (is, also)
    cases false false is also c = absurd (cc)

pub open_parts : (surface : Option Ground) (barred : Bool) → (is_open_ground surface && not barred) ≡ true → (surface ≡ Some Wall → ⊥) × (barred ≡ false)
open_parts None barred is = absurd (cc)
open_parts (Some Wall) barred is = absurd (cc)
open_parts (Some Plain) true is = absurd (cc)
open_parts (Some Plain) false is = ((λ wall. absurd (cc)), refl)
open_parts (Some Swamp) true is = absurd (cc)
open_parts (Some Swamp) false is = ((λ wall. absurd (cc)), refl)

-- ---- movement

module _ (players : ℕ → Bool) (list : List Intent) (part : RoomPart) (once : AreActorsOnce list) (k : KeepsRoomRules players within part) where
  abbrev set : List Mover
  set = movers (values part.objects) (candidates part list)

  abbrev mover_for : Object → Option Mover
  mover_for object = first_that (λ one. one.creep == object.id) set

  abbrev step : Object → Object
  step object = stepped (fatigue part) object (mover_for object)

  abbrev middle : RoomPart
  middle = each (λ object. Some (step object)) part

  abbrev creeps : List Object
  creeps = filter (λ object. has_mover set object.id) (values middle.objects)

  abbrev wear : Object → Object
  wear object = worn_as object.kind creeps object

  abbrev after : RoomPart
  after = moved_part list part

  stepped_id : (o : Object) (found : Option Mover) → (stepped (fatigue part) o found).id ≡ o.id
  stepped_id o None = refl
  stepped_id o (Some one) = refl

  step_ids : KeepsIds (λ object. Some (step object))
  step_ids object left is = (let same : step object ≡ left = cc in ap (λ (o : Object). o.id) (sym same) ∙ stepped_id object (mover_for object))

  worn_id : (o : Object) → (wear o).id ≡ o.id
  worn_id o = (made_still part o (wear o) (worn_made part o.kind creeps o refl)).id

  wear_ids : KeepsIds (λ object. Some (wear object))
  wear_ids object left is = (let same : wear object ≡ left = cc in ap (λ (o : Object). o.id) (sym same) ∙ worn_id object)

  middle_keyed : (id : ℕ) (o : Object) → Holds middle id o → o.id ≡ id
  middle_keyed id o h = (let was = each_came (λ object. Some (step object)) step_ids part k.ids id o h in step_ids was.0 o was.2 ∙ k.ids id was.0 was.1)

  rest : record after { objects = part.objects } ≡ part
  rest =
      ap (λ (p : RoomPart). record p { objects = part.objects }) (each_rest (λ object. Some (wear object)) wear_ids middle middle_keyed)
      ∙ each_rest (λ object. Some (step object)) step_ids part k.ids

  -- ---- who goes, and where to

  same_object : (one other : Object) (found : Option Object) → found ≡ Some one → found ≡ Some other → one ≡ other
  same_object one other found is at = cc

  -- the mover of an object is that of a creep which may go there
  goes : (id : ℕ) (q : Object) (one : Mover) → Holds part id q → mover_for q ≡ Some one → (q.kind ≡ Creep) × (one.x ≤ 49) × (one.y ≤ 49) × (is_open part q.owner (one.x, one.y) ≡ true)
  goes id q one h is =
      let found = found_that (λ m. m.creep == q.id) set one is in
      let among = has_filter _ (candidates part list) one (has_filter _ (winners (candidates part list)) one found.0).0 in
      let entry = from_filter_map (mover_of part) list one among.0 in
      let came = comes part entry.0 one entry.1 in
      let own : entry.0.actor ≡ id = sym (k.ids entry.0.actor came.creep came.there) ∙ sym came.id ∙ eqb-true one.creep q.id found.1 ∙ k.ids id q h in
      let same : came.creep ≡ q = same_object came.creep q (get part.objects id) (ap (get part.objects) (sym own) ∙ came.there) h in
      (is_creep_kind q.kind (ap (λ (o : Object). is_creep o.kind) (sym same) ∙ came.kind), came.column, came.row, ap (λ (o : Object). is_open part o.owner (one.x, one.y)) (sym same) ∙ came.open_to)

  made_of : (id : ℕ) (q : Object) (found : Option Mover) → Holds part id q → mover_for q ≡ found → Made part q (wear (stepped (fatigue part) q found))
  made_of id q None h is = worn_made part q.kind creeps q refl
  made_of id q (Some one) h is =
      let went = goes id q one h is in
      inr (inr (record {
        kind = went.0;
        x = one.x;
        y = one.y;
        column = went.1;
        row = went.2;
        open_to = went.3;
        is = ap (λ (kind : Kind). worn_as kind creeps (stepped (fatigue part) q (Some one))) went.0;
      }))

  -- what stands after movement stood before
  abbrev Comes_of : ℕ → Object → Type 0
  Comes_of id o = (q : Object) × Holds part id q × Made part q o

  came_of : (id : ℕ) (o : Object) → Holds after id o → Comes_of id o
  came_of id o h =
      let second = each_came (λ object. Some (wear object)) wear_ids middle middle_keyed id o h in
      let first = each_came (λ object. Some (step object)) step_ids part k.ids id second.0 second.1 in
      let stepped_is : step first.0 ≡ second.0 = cc in
      let worn_is : wear second.0 ≡ o = cc in
      (first.0, first.1, subst (Made part first.0) (ap wear stepped_is ∙ worn_is) (made_of id first.0 (mover_for first.0) first.1 refl))

  -- ---- no two where they may not be

  before_apart : AreCreepsApart part
  before_apart id key one other h g differ creep = false_from_ne_true (is_creep_on one.x one.y other) (λ on.
      let parts = and_parts (is_creep other.kind && (other.x == one.x)) (other.y == one.y) on in
      let first = and_parts (is_creep other.kind) (other.x == one.x) parts.0 in
      k.shared id key one other differ h g (sym (eqb-true other.x one.x first.1)) (sym (eqb-true other.y one.y parts.1)) (creeps_clash one.kind other.kind creep first.0))

  after_apart : AreCreepsApart after
  after_apart = moved_apart (fatigue part) (candidates part list) (candidates_once part k.ids list once) part k.ids before_apart

  -- what obstructs stands on no tile to which a creep went
  not_obstructed : (id : ℕ) (q c o : Object) → Went part c o → Holds part id q → q.x ≡ o.x → q.y ≡ o.y → obstructs q.kind ≡ true → ⊥
  not_obstructed id q c o w h x y obstructing =
      let test : Object → Bool = λ p. (p.x == w.x) && (p.y == w.y) && obstructs p.kind in
      let at : q.x ≡ w.x = x ∙ ap (λ (p : Object). p.x) w.is in
      let level : q.y ≡ w.y = y ∙ ap (λ (p : Object). p.y) w.is in
      let stands = found_has (entries part.objects) id q (sym (get-entries part.objects id) ∙ h) in
      let on = both_true ((q.x == w.x) && (q.y == w.y)) (obstructs q.kind) (both_true (q.x == w.x) (q.y == w.y) (eq-eqb q.x w.x at) (eq-eqb q.y w.y level)) obstructing in
      both_ways (is_obstructed w.x w.y c.owner (values part.objects)) (open_parts (slice_get part.grounds (tile w.x w.y)) (is_obstructed w.x w.y c.owner (values part.objects)) w.open_to).1 (has_any test (values part.objects) q stands on)

  -- a creep that went shares its tile with nothing that it may not
  went_alone : (one other : ℕ) (first second c : Object) → one ≢ other → Holds after one first → Holds after other second → Went part c first → first.x ≡ second.x → first.y ≡ second.y → clash first.kind second.kind ≡ true → ⊥
  went_alone one other first second c differ h g w x y clashes =
      let kind : first.kind ≡ Creep = ap (λ (p : Object). p.kind) w.is ∙ w.kind in
      let creep : is_creep first.kind ≡ true = ap is_creep kind in
      elim (clash_creep second.kind (ap (λ (q : Kind). clash q second.kind) (sym kind) ∙ clashes)) [
        | inl also ↦ both_ways (is_creep_on first.x first.y second) (after_apart one other first second h g differ creep)
            (both_true (is_creep second.kind && (second.x == first.x)) (second.y == first.y) (both_true (is_creep second.kind) (second.x == first.x) also (eq-eqb second.x first.x (sym x))) (eq-eqb second.y first.y (sym y)))
        | inr obstructing ↦
            let was = came_of other second g in
            let same = (made_still part was.0 second was.2).kind in
            elim (made_place part was.0 second was.2) [
              | inl stays ↦ not_obstructed other was.0 c first w was.1 (sym stays.0 ∙ sym x) (sym stays.1 ∙ sym y) (ap obstructs (sym same) ∙ obstructing.1)
              | inr went ↦ both_ways (is_creep second.kind) obstructing.0 (ap is_creep (same ∙ went.kind))
            ]
      ]

  shares : (one other : ℕ) (first second : Object) → one ≢ other → Holds after one first → Holds after other second → first.x ≡ second.x → first.y ≡ second.y → clash first.kind second.kind ≡ true → ⊥
  shares one other first second differ h g x y clashes =
      let a = came_of one first h in
      let b = came_of other second g in
      elim (made_place part a.0 first a.2) [
        | inr went ↦ went_alone one other first second a.0 differ h g went x y clashes
        | inl stays ↦ elim (made_place part b.0 second b.2) [
          | inr went ↦ went_alone other one second first b.0 (λ e. differ (sym e)) g h went (sym x) (sym y) (clash_turned second.kind first.kind ∙ clashes)
          | inl also ↦ k.shared one other a.0 b.0 differ a.1 b.1 (sym stays.0 ∙ x ∙ also.0) (sym stays.1 ∙ y ∙ also.1)
              ((λ i. clash (sym (made_still part a.0 first a.2).kind i) (sym (made_still part b.0 second b.2).kind i)) ∙ clashes)
        ]
      ]

  -- ---- tiles and owners

  on_tile : (q o : Object) → IsOnTile q → StaysOrGoes part q o → IsOnTile o
  on_tile q o on (inl stays) = record { column = omega (arith, stays.0, on.column); row = omega (arith, stays.1, on.row) }
  on_tile q o on (inr went) = (let x : o.x ≡ went.x = ap (λ (p : Object). p.x) went.is in let y : o.y ≡ went.y = ap (λ (p : Object). p.y) went.is in record { column = omega (arith, x, went.column); row = omega (arith, y, went.row) })

  right_tile : (q o : Object) → (IsOnWrongTile part.grounds q → ⊥) → o.kind ≡ q.kind → StaysOrGoes part q o → IsOnWrongTile part.grounds o → ⊥
  right_tile q o right kind (inl stays) wrong =
      let as_kind = subst (λ (one : Kind). IsOnWrongTile part.grounds (record o { kind = one })) kind wrong in
      let x = subst (λ (n : ℕ). IsOnWrongTile part.grounds (record o { kind = q.kind; x = n })) stays.0 as_kind in
      right (subst (λ (n : ℕ). IsOnWrongTile part.grounds (record o { kind = q.kind; x = q.x; y = n })) stays.1 x)
  right_tile q o right kind (inr went) (inl h) =
      let x : o.x ≡ went.x = ap (λ (p : Object). p.x) went.is in
      let y : o.y ≡ went.y = ap (λ (p : Object). p.y) went.is in
      (open_parts (slice_get part.grounds (tile went.x went.y)) (is_obstructed went.x went.y q.owner (values part.objects)) went.open_to).0
      (ap (slice_get part.grounds) (λ i. tile (sym x i) (sym y i)) ∙ h.2)
  right_tile q o right kind (inr went) (inr h) = both_ways (is_creep o.kind) h.0 (ap is_creep (kind ∙ went.kind))

  right_owner : (q o : Object) → IsStill q o → HasRightOwner players q → HasRightOwner players o
  right_owner q o same right = record {
    owner = λ some. (let r = right.owner (λ none. some (same.owner ∙ none)) in (ap players same.owner ∙ r.0, ap may_have_owner same.kind ∙ r.1));
    other = λ some. (let r = right.other (λ none. some (same.other ∙ none)) in (ap players same.other ∙ r.0, ap is_controller same.kind ∙ r.1));
  }

  -- Movement keeps the rules of a room within a tick.
  pub keeps_moved : KeepsRoomRules players within after
  keeps_moved =
      let next : after.next ≡ part.next = ap (λ (p : RoomPart). p.next) rest in
      let index : after.index ≡ part.index = ap (λ (p : RoomPart). p.index) rest in
      let grounds : after.grounds ≡ part.grounds = ap (λ (p : RoomPart). p.grounds) rest in
      record {
        begun = let first : 1 ≤ part.next = k.begun in omega (arith, next, first);
        ids = λ id o h. (let was = came_of id o h in (made_still part was.0 o was.2).id ∙ k.ids id was.0 was.1);
        born = λ id o h at. (let was = came_of id o h in let b = k.born id was.0 was.1 (at ∙ index) in (b.0, omega (arith, b.1, next)));
        inside = λ id o h. (let was = came_of id o h in on_tile was.0 o (k.inside id was.0 was.1) (made_place part was.0 o was.2));
        tiles = λ id o h wrong. (let was = came_of id o h in right_tile was.0 o (k.tiles id was.0 was.1) (made_still part was.0 o was.2).kind (made_place part was.0 o was.2) (subst (λ (g : List Ground). IsOnWrongTile g o) grounds wrong));
        shared = shares;
        owners = λ id o h. (let was = came_of id o h in right_owner was.0 o (made_still part was.0 o was.2) (k.owners id was.0 was.1));
        controllers = λ one other first second differ h g a b. (
            let w = came_of one first h in
            let v = came_of other second g in
            k.controllers one other w.0 v.0 differ w.1 v.1 (ap is_controller (sym (made_still part w.0 first w.2).kind) ∙ a) (ap is_controller (sym (made_still part v.0 second v.2).kind) ∙ b));
        ranges = λ id o h out. (
            let was = came_of id o h in
            k.ranges id was.0 was.1 (λ r. out (subst (λ (q : Kind). IsInRangeIn q within o) (sym (made_still part was.0 o was.2).kind) (made_range part was.0 o was.2 r))));
      }
