-- Movement puts no creep onto the tile of another.
use Rattle.std.proofs.Common.{◌≡◌, ◌≢◌, inl, inr, ℕ, ◌-◌, max, length, ◌==◌, ◌&&◌, Bool, true, false, cond, List, [], ◌∷◌, Option, Some, None, option_and_then, refl, sym, ap, ◌∙◌}
use Rattle.std.specs.Cmp.{nat_cmp_total}
use Rattle.std.specs.List.{Contains, filter, list_any, find as first_that}
use Rattle.std.specs.FinMap.{get, values, entries, entries_sorted, get-entries, get-from_entries}
use Rattle.std.proofs.lemmas.Bool.{eqb-true, eq-eqb, and_parts, or_from, false_from_ne_true}
use Rattle.game_tables.specs.declared.kind.Kind.{Kind}
use Rattle.game_tables.specs.declared.kind.Kind.TheVariants.{Road}
use Rattle.room_table.specs.declared.object.Object.{Object}
use Rattle.game_tables.specs.Kinds.{is_creep}
use Rattle.world_rules.specs.RoomParts.{RoomPart}
use Rattle.world_rules.specs.Steps.{each}
use Rattle.world_rules.specs.Movement.{Mover, meet, winners, has_mover, is_creep_on, movers, stepped, worn_as, moved_by}
use Rattle.world_rules.proofs.Keys.{once_of_sorted, find_left}
use Rattle.world_rules.proofs.Each.{kept, each_is_at_once}
use Rattle.room_commutes.specs.Allowed.{AreCreepsOnce}
use Rattle.room_commutes.specs.Standing.{AreKeyed, KeepsIds, AreCreepsApart}
use Rattle.room_commutes.proofs.Members.{Has, has_contained, all_has, filter_has, found_has, has_found, map_has}
use Rattle.room_commutes.proofs.Greatest.{winners_apart, free_for, movers_allowed}

-- ---- what is found

pub first_has : {A : Type 0} (test : A → Bool) (list : List A) (x : A) → first_that test list ≡ Some x → Has list x × (test x ≡ true)
first_has test [] x is = absurd (cc)
first_has test (y ∷ list) x is = elim (test y) as (λ b. test y ≡ b → cond b (Some y) (first_that test list) ≡ Some x → Has (y ∷ list) x × (test x ≡ true)) [
  | true ↦ λ passes got. let same : y ≡ x = cc in (inl same, ap test (sym same) ∙ passes)
  | false ↦ λ fails got. let rest = first_has test list x got in (inr rest.0, rest.1)
] refl is

first_none : {A : Type 0} (test : A → Bool) (list : List A) → first_that test list ≡ None → list_any test list ≡ false
first_none test [] is = refl
first_none test (y ∷ list) is = elim (test y) as (λ b. test y ≡ b → cond b (Some y) (first_that test list) ≡ None → list_any test (y ∷ list) ≡ false) [
  | true ↦ λ passes got. absurd (cc)
  | false ↦ λ fails got. or_from (test y) (list_any test list) fails (first_none test list got)
] refl is

-- what stands in a part is among its values, and each of these stands in it
pub stands_has : (part : RoomPart) (id : ℕ) (object : Object) → get part.objects id ≡ Some object → Has (values part.objects) object
stands_has part id object is = found_has (entries part.objects) id object (sym (get-entries part.objects id) ∙ is)

pub has_stands : (part : RoomPart) (object : Object) → Has (values part.objects) object → (id : ℕ) × (get part.objects id ≡ Some object)
has_stands part object has =
    let entry = map_has (λ (e : ℕ × Object). e.1) (entries part.objects) object has in
    (entry.0.0, get-entries part.objects entry.0.0 ∙ has_found (entries part.objects) (once_of_sorted (entries part.objects) (entries_sorted part.objects)) entry.0 entry.1 ∙ ap Some entry.2)

-- ---- what a step leaves of an object

pub each_get : (change : Object → Option Object) → KeepsIds change → (part : RoomPart) → AreKeyed part → (id : ℕ) → get (each change part).objects id ≡ option_and_then change (get part.objects id)
each_get change keeps part keyed id =
    ap (λ (p : RoomPart). get p.objects id) (each_is_at_once change keeps part keyed)
    ∙ get-from_entries nat_cmp_total (kept change (entries part.objects)) id
    ∙ find_left change id (entries part.objects) (once_of_sorted (entries part.objects) (entries_sorted part.objects))
    ∙ ap (option_and_then change) (sym (get-entries part.objects id))

pub each_rest : (change : Object → Option Object) → KeepsIds change → (part : RoomPart) → AreKeyed part → record (each change part) { objects = part.objects } ≡ part
each_rest change keeps part keyed = ap (λ (p : RoomPart). record p { objects = part.objects }) (each_is_at_once change keeps part keyed)

module _ (change : Object → Object) (keeps : (object : Object) → (change object).id ≡ object.id) where
  abbrev leaves : Object → Option Object
  leaves object = Some (change object)

  keeps_id : KeepsIds leaves
  keeps_id object after is = let same : change object ≡ after = cc in ap (λ (o : Object). o.id) (sym same) ∙ keeps object

  left_from : (found : Option Object) (after : Object) → option_and_then leaves found ≡ Some after → (object : Object) × (found ≡ Some object) × (change object ≡ after)
  left_from None after is = absurd (cc)
  left_from (Some object) after is = (object, refl, cc)

  -- what stands after the step comes of what stood
  each_from : (part : RoomPart) → AreKeyed part → (id : ℕ) (after : Object) → get (each leaves part).objects id ≡ Some after → (object : Object) × (get part.objects id ≡ Some object) × (change object ≡ after)
  each_from part keyed id after is = left_from (get part.objects id) after (sym (each_get leaves keeps_id part keyed id) ∙ is)

  each_keyed : (part : RoomPart) → AreKeyed part → AreKeyed (each leaves part)
  each_keyed part keyed id after is =
      let from = each_from part keyed id after is in
      ap (λ (o : Object). o.id) (sym from.2) ∙ keeps from.0 ∙ keyed id from.0 from.1

-- ---- what wear leaves

-- The objects are alike but for what wears.
record IsWornOf (object after : Object) : Type 0 where
  id : after.id ≡ object.id
  kind : after.kind ≡ object.kind
  x : after.x ≡ object.x
  y : after.y ≡ object.y

worn_is : (kind : Kind) (creeps : List Object) (object : Object) → IsWornOf object (worn_as kind creeps object)
worn_is Road creeps object = elim (first_that (is_creep_on object.x object.y) creeps) as (λ found. IsWornOf object (elim found as (λ f. Object) [ None ↦ object | Some creep ↦ record object { timer = max 1 (object.timer - length creep.body) } ])) [
  | None ↦ record { id = refl; kind = refl; x = refl; y = refl }
  | Some creep ↦ record { id = refl; kind = refl; x = refl; y = refl }
]
worn_is _ creeps object = record { id = refl; kind = refl; x = refl; y = refl }

-- ---- movement

module _ (fatigue : Object → Mover → ℕ) (list : List Mover) (once : AreCreepsOnce list) (part : RoomPart) (keyed : AreKeyed part) (apart : AreCreepsApart part) where
  abbrev objects : List Object
  objects = values part.objects

  abbrev set : List Mover
  set = movers objects list

  abbrev mover_of : Object → Option Mover
  mover_of object = first_that (λ one. one.creep == object.id) set

  abbrev step : Object → Object
  step object = stepped fatigue object (mover_of object)

  stepped_id : (object : Object) (found : Option Mover) → (stepped fatigue object found).id ≡ object.id
  stepped_id object None = refl
  stepped_id object (Some one) = refl

  stepped_kind : (object : Object) (found : Option Mover) → (stepped fatigue object found).kind ≡ object.kind
  stepped_kind object None = refl
  stepped_kind object (Some one) = refl

  abbrev after : RoomPart
  after = each (λ object. Some (step object)) part

  abbrev creeps : List Object
  creeps = filter (λ object. has_mover set object.id) (values after.objects)

  -- the objects before movement, of those after it
  record CameFrom (id : ℕ) (object : Object) : Type 0 where
    from : Object
    stood : get part.objects id ≡ Some from
    kind : object.kind ≡ from.kind
    x : object.x ≡ (step from).x
    y : object.y ≡ (step from).y

  came : (id : ℕ) (object : Object) → get (moved_by fatigue list part).objects id ≡ Some object → CameFrom id object
  came id object is =
      let step_keeps : (o : Object) → (step o).id ≡ o.id = λ o. stepped_id o (mover_of o) in
      let wear : Object → Object = λ o. worn_as o.kind creeps o in
      let second = each_from wear (λ o. (worn_is o.kind creeps o).id) after (each_keyed step step_keeps part keyed) id object is in
      let first = each_from step step_keeps part keyed id second.0 second.1 in
      let worn = worn_is second.0.kind creeps second.0 in
      record {
        from = first.0;
        stood = first.1;
        kind = ap (λ (o : Object). o.kind) (sym second.2) ∙ worn.kind ∙ ap (λ (o : Object). o.kind) (sym first.2) ∙ stepped_kind first.0 (mover_of first.0);
        x = ap (λ (o : Object). o.x) (sym second.2) ∙ worn.x ∙ ap (λ (o : Object). o.x) (sym first.2);
        y = ap (λ (o : Object). o.y) (sym second.2) ∙ worn.y ∙ ap (λ (o : Object). o.y) (sym first.2);
      }

  on_tile : (x y : ℕ) (object : Object) → is_creep object.kind ≡ true → object.x ≡ x → object.y ≡ y → is_creep_on x y object ≡ true
  on_tile x y object creep at level = λ i. creep i && eq-eqb object.x x at i && eq-eqb object.y y level i

  -- no creep that stays stands where one steps
  not_onto : (one : Mover) (object : Object) → Has set one → Has objects object → is_creep object.kind ≡ true → mover_of object ≡ None → object.x ≡ one.x → object.y ≡ one.y → ⊥
  not_onto one object moves there creep stays at level =
      let allowed = movers_allowed objects list once in
      let free : free_for objects set one ≡ true = all_has (free_for objects set) set one allowed.moves moves in
      let here : Has (filter (is_creep_on one.x one.y) objects) object = filter_has (is_creep_on one.x one.y) objects object there (on_tile one.x one.y object creep at level) in
      let goes : has_mover set object.id ≡ true = all_has (λ other. has_mover set other.id) (filter (is_creep_on one.x one.y) objects) object free here in
      let fails : has_mover set object.id ≡ false = first_none (λ mover. mover.creep == object.id) set stays in
      absurd (cc)

  winner : (one : Mover) → Has set one → Contains (winners list) one
  winner one has = (movers_allowed objects list once).winners one (has_contained set one has)

  not_both : (one other : Mover) → Has set one → Has set other → one.creep ≢ other.creep → one.x ≡ other.x → one.y ≡ other.y → ⊥
  not_both one other moves also differ at level =
      let meets : meet one other ≡ true = λ i. eq-eqb one.x other.x at i && eq-eqb one.y other.y level i in
      let fails : meet one other ≡ false = winners_apart list one other (winner one moves) (winner other also) differ in
      absurd (cc)

  module _ (id key : ℕ) (one other : Object) (stands : get part.objects id ≡ Some one) (also : get part.objects key ≡ Some other) (differ : id ≢ key) (creep : is_creep one.kind ≡ true) (mate : is_creep other.kind ≡ true) where
    mover_for : (object : Object) (mover : Mover) → mover_of object ≡ Some mover → Has set mover × (mover.creep ≡ object.id)
    mover_for object mover is = let found = first_has (λ m. m.creep == object.id) set mover is in (found.0, eqb-true mover.creep object.id found.1)

    clash : (first second : Option Mover) → mover_of one ≡ first → mover_of other ≡ second → (stepped fatigue other second).x ≡ (stepped fatigue one first).x → (stepped fatigue other second).y ≡ (stepped fatigue one first).y → ⊥
    clash None None is also_is at level =
        let shared : is_creep_on one.x one.y other ≡ true = on_tile one.x one.y other mate at level in
        let fails : is_creep_on one.x one.y other ≡ false = apart id key one other stands also differ creep in
        absurd (cc)
    clash (Some m) None is stays at level = not_onto m other (mover_for one m is).0 (stands_has part key other also) mate stays at level
    clash None (Some n) stays is at level = not_onto n one (mover_for other n is).0 (stands_has part id one stands) creep stays (sym at) (sym level)
    clash (Some m) (Some n) is also_is at level =
        let first = mover_for one m is in
        let second = mover_for other n also_is in
        not_both m n first.0 second.0 (λ same. differ (sym (keyed id one stands) ∙ sym first.1 ∙ same ∙ second.1 ∙ keyed key other also)) (sym at) (sym level)

  pub moved_apart : AreCreepsApart (moved_by fatigue list part)
  moved_apart id key one other is also differ creep = false_from_ne_true (is_creep_on one.x one.y other) (λ on.
      let first = came id one is in
      let second = came key other also in
      let parts = and_parts (is_creep other.kind && (other.x == one.x)) (other.y == one.y) on in
      let first_parts = and_parts (is_creep other.kind) (other.x == one.x) parts.0 in
      clash id key first.from second.from first.stood second.stood differ
      (ap is_creep (sym first.kind) ∙ creep) (ap is_creep (sym second.kind) ∙ first_parts.0)
      (mover_of first.from) (mover_of second.from) refl refl
      (sym second.x ∙ eqb-true other.x one.x first_parts.1 ∙ first.x) (sym second.y ∙ eqb-true other.y one.y parts.1 ∙ first.y))
