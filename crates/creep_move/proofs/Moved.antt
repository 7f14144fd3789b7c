-- What stands after all steps is what movement makes of the room.
use Rattle.std.proofs.Common.{◌≡◌, inl, inr, ℕ, ◌-◌, ◌*◌, ◌/◌, ◌%◌, ◌<◌, ◌==◌, ◌&&◌, max, Bool, true, List, length, get_or, slice_get, Option, Some, None, option_and_then, refl, sym, ap, subst, ◌∙◌, arith}
use Rattle.std.specs.List.{filter, find}
use Rattle.std.specs.Option.{is_some}
use Rattle.std.specs.Cmp.{nat_cmp_total}
use Rattle.std.specs.FinMap.{get, values, same_map, nat_cmp-IsAntisymmetric}
use Rattle.std.proofs.lemmas.Bool.{eq-eqb, eqb-true, cases_eq, and_from, and_parts}
use Rattle.game_tables.specs.Kinds.{is_creep}
use Rattle.game_tables.specs.Numbers.{kind_number}
use Rattle.game_tables.specs.declared.kind.Kind.{Kind}
use Rattle.game_tables.specs.declared.action.Action.TheVariants.{Move}
use Rattle.game_tables.specs.declared.kind.Kind.TheVariants.{Road}
use Rattle.room_terrain.specs.Tiles.{tile}
use Rattle.room_terrain.specs.declared.terrain.Ground.{Ground}
use Rattle.room_table.specs.declared.object.Object.{Object}
use Rattle.room_table.specs.Tables.{Table, IsRising, find_object, first_on}
use Rattle.intent_book.specs.declared.intent.Intent.{Intent}
use Rattle.world_rules.specs.RoomParts.{RoomPart, table_part}
use Rattle.world_rules.specs.Steps.{each}
use Rattle.world_rules.specs.Movement.{Mover, has_mover, is_creep_on, movers, stepped, winners, worn_as}
use Rattle.world_rules.specs.Moves.{candidates, fatigue, mover_of, moved, pace, weight}
use Rattle.world_rules.proofs.Checked.{creep_acts}
use Rattle.world_rules.proofs.TableParts.{all_found, get_table_part, has_the_id, part_values}
use Rattle.room_rules.specs.Calls.{AreActorsOnce, IsLoadWithin, IsMovable}
use Rattle.room_commutes.specs.Allowed.{AreCreepsOnce}
use Rattle.creep_move.specs.inner.Decided.{IsDecided, IsGoing}
use Rattle.creep_move.specs.inner.Landing.{AreAfter, AreGoers, IsAfter, steps, wears, stays, IsGoer, stepped_to, tired_on, worn_by}
use Rattle.room_commutes.proofs.Members.{Has, any_has, contains_has, has_contained, filter_has, has_filter}
use Rattle.room_commutes.proofs.Greatest.{one_of_creep, creep_has}
use Rattle.creep_move.proofs.Stored.{first_has, has_made, tile_column, tile_row}
use Rattle.creep_move.proofs.Candidates.{moves_of}
use Rattle.creep_move.proofs.Deciding.{creeps_once}
use Rattle.creep_move.proofs.Landed.{found_some, no_road, road_is, row_tile, same_found}
use Rattle.room_commutes.specs.Standing.{AreKeyed}
use Rattle.creep_move.proofs.Eached.{each_from, each_get, each_keyed, each_rest, has_stands, stands_has}

-- ---- one object

stepped_id : (rate : Object → Mover → ℕ) (object : Object) (found : Option Mover) → (stepped rate object found).id ≡ object.id
stepped_id rate object None = refl
stepped_id rate object (Some one) = refl

stepped_body : (rate : Object → Mover → ℕ) (object : Object) (found : Option Mover) → (stepped rate object found).body ≡ object.body
stepped_body rate object None = refl
stepped_body rate object (Some one) = refl

worn_id : (kind : Kind) (creeps : List Object) (object : Object) → (worn_as kind creeps object).id ≡ object.id
worn_id Road creeps object = elim (find (is_creep_on object.x object.y) creeps) as (λ found. (elim found as (λ f. Object) [ None ↦ object | Some creep ↦ record object { timer = max 1 (object.timer - length creep.body) } ]).id ≡ object.id) [ None ↦ refl | Some creep ↦ refl ]
worn_id _ creeps object = refl

worn_other : (kind : Kind) (creeps : List Object) (object : Object) → (kind_number kind ≡ kind_number Road → ⊥) → worn_as kind creeps object ≡ object
worn_other Road creeps object other = absurd (other refl)
worn_other _ creeps object other = refl

-- what a creep on its tile makes of a road
abbrev worn_found : Object → Option Object → Object
worn_found road None = road
worn_found road (Some creep) = worn_by (length creep.body) road

worn_road : (creeps : List Object) (road : Object) → worn_as Road creeps road ≡ worn_found road (find (is_creep_on road.x road.y) creeps)
worn_road creeps road = elim (find (is_creep_on road.x road.y) creeps) as (λ found. (elim found as (λ f. Object) [ None ↦ road | Some creep ↦ record road { timer = max 1 (road.timer - length creep.body) } ]) ≡ worn_found road found) [ None ↦ refl | Some creep ↦ refl ]

-- ---- a room

module _ (grounds : List Ground) (table : Table) (rise : IsRising table.objects) (movable : IsMovable table) (moves : List Intent) (actors : AreActorsOnce moves) (comes best : List ℕ) (held : List Bool)
    (decided : IsDecided (movers (values (table_part grounds table).objects) (candidates (table_part grounds table) moves)) comes best held) where
  abbrev part : RoomPart
  part = table_part grounds table

  abbrev list : List Mover
  list = candidates part moves

  abbrev set : List Mover
  set = movers (values part.objects) list

  once : AreCreepsOnce list
  once = creeps_once grounds table moves actors

  listed : (one : Mover) → Has set one → Has list one
  listed one has = (has_filter _ list one (has_filter _ (winners list) one has).0).0

  same_mover : (one other : Mover) → Has set one → Has set other → one.creep ≡ other.creep → one ≡ other
  same_mover one other has also = one_of_creep list one other once (listed one has) (listed other also)

  goes : (t : ℕ) → t < 2500 → IsGoing comes held t → Has set (record { creep = get_or best t 0; x = t % 50; y = t / 50 })
  goes t low going =
      let has = contains_has set _ (decided.goes (t % 50) (t / 50) (omega arith) (omega (arith, low)) (subst (IsGoing comes held) (sym (row_tile t)) going)) in
      subst (λ n. Has set (record { creep = get_or best n 0; x = t % 50; y = t / 50 })) (row_tile t) has

  goer_of : (one : Mover) → Has set one → IsGoer table.objects one.creep
  goer_of one has =
      let made = has_made (mover_of part) moves one (listed one has) in
      let m = moves_of part made.0 one made.2 in
      let found = sym (get_table_part grounds table made.0.actor) ∙ m.stands in
      let its = has_the_id made.0.actor table.objects m.object found in
      let kind = creep_acts Move made.0 part m.object m.stands m.takes in
      record {
        creep = m.object;
        found = ap (λ n. find_object n table.objects) (m.its ∙ its) ∙ found;
        kind = kind;
        load = all_found IsLoadWithin (λ o. o.id == made.0.actor) table.objects m.object movable.loads found kind;
      }

  pub goers : AreGoers table.objects comes best held
  goers = record {
    goer = λ t low going. goer_of (record { creep = get_or best t 0; x = t % 50; y = t / 50 }) (goes t low going);
    once = λ t u low short going also same.
        let e = same_mover (record { creep = get_or best t 0; x = t % 50; y = t / 50 }) (record { creep = get_or best u 0; x = u % 50; y = u / 50 }) (goes t low going) (goes u short also) same in
        sym (row_tile t) ∙ ap (λ (m : Mover). tile m.x m.y) e ∙ row_tile u;
  }

  mover_low : (one : Mover) → Has set one → tile one.x one.y < 2500
  mover_low one has =
      let low = decided.inside_x one (has_contained set one has) in
      let short = decided.inside_y one (has_contained set one has) in
      omega (arith, low, short)

  -- ---- the two steps of the definition

  abbrev mover_for : Object → Option Mover
  mover_for object = find (λ one. one.creep == object.id) set

  abbrev step : Object → Object
  step object = stepped (fatigue part) object (mover_for object)

  step_id : (object : Object) → (step object).id ≡ object.id
  step_id object = stepped_id (fatigue part) object (mover_for object)

  keyed : AreKeyed part
  keyed id object is = has_the_id id table.objects object (sym (get_table_part grounds table id) ∙ is)

  abbrev after : RoomPart
  after = each (λ object. Some (step object)) part

  after_keyed : AreKeyed after
  after_keyed = each_keyed step step_id part keyed

  abbrev creeps : List Object
  creeps = filter (λ object. has_mover set object.id) (values after.objects)

  abbrev wear : Object → Object
  wear object = worn_as object.kind creeps object

  wear_id : (object : Object) → (wear object).id ≡ object.id
  wear_id object = worn_id object.kind creeps object

  moved_get : (id : ℕ) → get (moved moves part).objects id ≡ option_and_then (λ o. Some (wear o)) (option_and_then (λ o. Some (step o)) (find_object id table.objects))
  moved_get id = each_get wear wear_id after after_keyed id ∙ ap (option_and_then (λ o. Some (wear o))) (each_get step step_id part keyed id ∙ ap (option_and_then (λ o. Some (step o))) (get_table_part grounds table id))

  -- the mover of a creep that goes to a tile
  its_mover : (t : ℕ) (object : Object) → t < 2500 → IsGoing comes held t → get_or best t 0 ≡ object.id → mover_for object ≡ Some (record { creep = get_or best t 0; x = t % 50; y = t / 50 })
  its_mover t object low going its =
      let one : Mover = record { creep = get_or best t 0; x = t % 50; y = t / 50 } in
      let has = goes t low going in
      let found = found_some (λ (m : Mover). m.creep == object.id) set one has (eq-eqb one.creep object.id its) in
      let is = first_has (λ (m : Mover). m.creep == object.id) set found.0 found.1 in
      found.1 ∙ ap Some (same_mover found.0 one is.0 has (eqb-true found.0.creep object.id is.1 ∙ sym its))

  no_mover : (object : Object) → ((one : Mover) → Has set one → one.creep ≡ object.id → ⊥) → mover_for object ≡ None
  no_mover object none = go (mover_for object) refl
    where
      go : (found : Option Mover) → mover_for object ≡ found → found ≡ None
      go None is = refl
      go (Some one) is = let first = first_has (λ (m : Mover). m.creep == object.id) set one is in absurd (none one first.0 (eqb-true one.creep object.id first.1))

  -- where a creep that is found on a tile after the steps came from
  record CameTo (x y : ℕ) (creep : Object) : Type 0 where
    from : Object
    stood : find_object from.id table.objects ≡ Some from
    body : creep.body ≡ from.body
    going : IsGoing comes held (tile x y)
    its : get_or best (tile x y) 0 ≡ from.id

  came_by : (x y : ℕ) (creep from : Object) → find_object from.id table.objects ≡ Some from → (found : Option Mover) → mover_for from ≡ found → has_mover set from.id ≡ true → stepped (fatigue part) from found ≡ creep → creep.x ≡ x → creep.y ≡ y → CameTo x y creep
  came_by x y creep from stood None none among is at_x at_y =
      let any = any_has (λ (m : Mover). m.creep == from.id) set among in
      let one = found_some (λ (m : Mover). m.creep == from.id) set any.0 any.1 any.2 in
      let e : ◌≡◌ {A = Option Mover} None (Some one.0) = sym none ∙ one.1 in absurd (cc)
  came_by x y creep from stood (Some one) found among is at_x at_y =
      let first = first_has (λ (m : Mover). m.creep == from.id) set one found in
      let has = has_contained set one first.0 in
      let at : tile one.x one.y ≡ tile x y = λ i. tile ((ap (λ (o : Object). o.x) is ∙ at_x) i) ((ap (λ (o : Object). o.y) is ∙ at_y) i) in
      record {
        from = from;
        stood = stood;
        body = ap (λ (o : Object). o.body) (sym is);
        going = subst (IsGoing comes held) at (decided.going one has);
        its = ap (λ n. get_or best n 0) (sym at) ∙ decided.its one has ∙ eqb-true one.creep from.id first.1;
      }

  came_to : (x y : ℕ) (creep : Object) → find (is_creep_on x y) creeps ≡ Some creep → CameTo x y creep
  came_to x y creep found =
      let first = first_has (is_creep_on x y) creeps creep found in
      let chosen = has_filter (λ (o : Object). has_mover set o.id) (values after.objects) creep first.0 in
      let stands = has_stands after creep chosen.0 in
      let was = each_from step step_id part keyed stands.0 creep stands.1 in
      let old = sym (get_table_part grounds table stands.0) ∙ was.1 in
      let its = has_the_id stands.0 table.objects was.0 old in
      let parts = and_parts (is_creep creep.kind && (creep.x == x)) (creep.y == y) first.1 in
      let column = and_parts (is_creep creep.kind) (creep.x == x) parts.0 in
      came_by x y creep was.0 (ap (λ n. find_object n table.objects) its ∙ old) (mover_for was.0) refl
      (ap (has_mover set) (sym (step_id was.0) ∙ ap (λ (o : Object). o.id) was.2) ∙ chosen.1) was.2 (eqb-true creep.x x column.1) (eqb-true creep.y y parts.1)

  -- ---- each object

  creep_of : (t : ℕ) (object : Object) → t < 2500 → IsGoing comes held t → find_object object.id table.objects ≡ Some object → get_or best t 0 ≡ object.id → is_creep object.kind ≡ true
  creep_of t object low going found its =
      let goer = goers.goer t low going in
      ap (λ (o : Object). is_creep o.kind) (sym (same_found object.id table.objects goer.creep object (ap (λ n. find_object n table.objects) (sym its) ∙ goer.found) found)) ∙ goer.kind

  -- a creep that goes to a tile is found on it
  found_on : (road creep : Object) → tile road.x road.y < 2500 → road.x < 50 → IsGoing comes held (tile road.x road.y) → find_object (get_or best (tile road.x road.y) 0) table.objects ≡ Some creep → (other : Object) × (find (is_creep_on road.x road.y) creeps ≡ Some other)
  found_on road creep low narrow going found =
      let t = tile road.x road.y in
      let id = has_the_id (get_or best t 0) table.objects creep found in
      let there = ap (λ n. find_object n table.objects) id ∙ found in
      let one : Mover = record { creep = get_or best t 0; x = t % 50; y = t / 50 } in
      let is : step creep ≡ stepped (fatigue part) creep (Some one) = ap (stepped (fatigue part) creep) (its_mover t creep low going (sym id)) in
      let stood : get after.objects creep.id ≡ Some (step creep) = each_get step step_id part keyed creep.id ∙ ap (option_and_then (λ o. Some (step o))) (get_table_part grounds table creep.id ∙ there) in
      let kind = creep_of t creep low going there (sym id) in
      let wide : t % 50 < 50 = omega arith in
      let at_x : t % 50 ≡ road.x = tile_column (t % 50) (t / 50) road.x road.y wide narrow (row_tile t) in
      let at_y : t / 50 ≡ road.y = tile_row (t % 50) (t / 50) road.x road.y wide narrow (row_tile t) in
      let on : is_creep_on road.x road.y (step creep) ≡ true =
      and_from (is_creep (step creep).kind && ((step creep).x == road.x)) ((step creep).y == road.y)
      (and_from (is_creep (step creep).kind) ((step creep).x == road.x) (ap (λ (o : Object). is_creep o.kind) is ∙ kind) (eq-eqb (step creep).x road.x (ap (λ (o : Object). o.x) is ∙ at_x)))
      (eq-eqb (step creep).y road.y (ap (λ (o : Object). o.y) is ∙ at_y)) in
      let among : has_mover set (step creep).id ≡ true = ap (has_mover set) (step_id creep ∙ id) ∙ creep_has set one (goes t low going) in
      found_some (is_creep_on road.x road.y) creeps (step creep) (filter_has (λ (o : Object). has_mover set o.id) (values after.objects) (step creep) (stands_has after creep.id (step creep) stood) among) on

  each_is : (object last : Object) → find_object object.id table.objects ≡ Some object → object.x < 50 → object.y < 50 → IsAfter grounds table.objects comes best held 2500 object last → last ≡ wear (step object)
  each_is object last found narrow low_y (steps t low going its same) =
      let one : Mover = record { creep = get_or best t 0; x = t % 50; y = t / 50 } in
      let is : step object ≡ stepped (fatigue part) object (Some one) = ap (stepped (fatigue part) object) (its_mover t object low going its) in
      let kind = creep_of t object low going found its in
      let tired : tired_on grounds table.objects (t % 50) (t / 50) object ≡ fatigue part object one =
      ap (λ (os : List Object). weight object * pace (is_some (first_on (t % 50) (t / 50) Road os)) (slice_get grounds (tile (t % 50) (t / 50)))) (sym (part_values grounds table rise)) in
      same ∙ (λ i. stepped_to (t % 50) (t / 50) (tired i) object) ∙ sym is
      ∙ sym (worn_other (step object).kind creeps (step object) (λ road. no_road object.kind kind (ap (λ (o : Object). kind_number o.kind) (sym is) ∙ road)))
  each_is object last found narrow low_y (wears creep road low going its same) =
      let t = tile object.x object.y in
      let is : step object ≡ object = ap (stepped (fatigue part) object) (no_mover object (λ one has mine.
      let contained = has_contained set one has in
      no_road object.kind (creep_of (tile one.x one.y) object (mover_low one has) (decided.going one contained) found (decided.its one contained ∙ mine)) road)) in
      let on = found_on object creep low narrow going its in
      let from = came_to object.x object.y on.0 on.1 in
      let who : from.from ≡ creep = same_found (get_or best t 0) table.objects from.from creep (ap (λ n. find_object n table.objects) from.its ∙ from.stood) its in
      let body : creep.body ≡ on.0.body = ap (λ (o : Object). o.body) (sym who) ∙ sym from.body in
      same ∙ (λ i. worn_by (length (body i)) object) ∙ ap (worn_found object) (sym on.1) ∙ sym (worn_road creeps object)
      ∙ ap (λ (k : Kind). worn_as k creeps object) (sym (road_is object.kind road)) ∙ ap wear (sym is)
  each_is object last found narrow low_y (stays none clear same) =
      let is : step object ≡ object = ap (stepped (fatigue part) object) (no_mover object (λ one has mine.
      let contained = has_contained set one has in
      none (tile one.x one.y) (mover_low one has) (decided.going one contained) (decided.its one contained ∙ mine))) in
      let on : tile object.x object.y < 2500 = omega (arith, narrow, low_y) in
      same ∙ sym (elim (cases_eq (kind_number object.kind) (kind_number Road)) as (λ c. wear object ≡ object) [
        | inl road ↦
            ap (λ (k : Kind). worn_as k creeps object) (road_is object.kind road) ∙ worn_road creeps object
            ∙ nobody object (find (is_creep_on object.x object.y) creeps) (λ creep some. clear road on (came_to object.x object.y creep some).going)
        | inr other ↦ worn_other object.kind creeps object other
      ]) ∙ ap wear (sym is)
    where
      nobody : (object : Object) (found : Option Object) → ((creep : Object) → found ≡ Some creep → ⊥) → worn_found object found ≡ object
      nobody object None none = refl
      nobody object (Some creep) none = absurd (none creep refl)

  module _ (new : Table) (index : new.index ≡ table.index) (next : new.next ≡ table.next) (all : AreAfter grounds table.objects comes best held 2500 new.objects) where
    same_get : (id : ℕ) (found : Option Object) → find_object id table.objects ≡ found → find_object id new.objects ≡ option_and_then (λ o. Some (wear o)) (option_and_then (λ o. Some (step o)) found)
    same_get id None none = all.absent id none
    same_get id (Some object) is =
        let now = all.present id object is in
        let its = has_the_id id table.objects object is in
        let on = all_found _ (λ o. o.id == id) table.objects object movable.tiles is in
        now.1 ∙ ap Some (each_is object now.0 (ap (λ n. find_object n table.objects) its ∙ is) (omega (arith, on.column)) (omega (arith, on.row)) now.2)

    pub is_moved : table_part grounds new ≡ moved moves part
    is_moved =
        let objects = same_map nat_cmp_total nat_cmp-IsAntisymmetric (table_part grounds new).objects (moved moves part).objects (λ id.
        get_table_part grounds new id ∙ same_get id (find_object id table.objects) refl ∙ sym (moved_get id)) in
        let first : record after { objects = part.objects } ≡ part = each_rest step step_id part keyed in
        let second : record (moved moves part) { objects = after.objects } ≡ after = each_rest wear wear_id after after_keyed in
        let rules : 1 ≡ (moved moves part).rules = sym (ap (λ (p : RoomPart). p.rules) second ∙ ap (λ (p : RoomPart). p.rules) first) in
        let place : new.index ≡ (moved moves part).index = index ∙ sym (ap (λ (p : RoomPart). p.index) second ∙ ap (λ (p : RoomPart). p.index) first) in
        let ground_same : grounds ≡ (moved moves part).grounds = sym (ap (λ (p : RoomPart). p.grounds) second ∙ ap (λ (p : RoomPart). p.grounds) first) in
        let serial : new.next ≡ (moved moves part).next = next ∙ sym (ap (λ (p : RoomPart). p.next) second ∙ ap (λ (p : RoomPart). p.next) first) in
        λ i. record { rules = rules i; index = place i; grounds = ground_same i; next = serial i; objects = objects i }
