-- What stands after a creep's step, and after those onto all tiles so far.
use Rattle.std.proofs.Common.{◌≡◌, ◌≢◌, ◌⊎◌, inl, inr, ℕ, ◌+◌, ◌*◌, ◌/◌, ◌%◌, ◌<◌, ◌≤◌, ◌==◌, ◌&&◌, Bool, true, false, cond, List, [], ◌∷◌, length, get_or, slice_get, Option, Some, None, option_map, refl, sym, ap, subst, ◌∙◌, arith}
use Rattle.std.specs.List.{AllByRecursion, find}
use Rattle.std.specs.Option.{is_some}
use Rattle.std.proofs.lemmas.Bool.{eq-eqb, eqb-true, ne_eqb, cases_eq, and_from, and_parts, true≢false}
use Rattle.game_tables.specs.Kinds.{clash, is_creep}
use Rattle.game_tables.specs.Numbers.{kind_number}
use Rattle.game_tables.specs.declared.kind.Kind.{Kind}
use Rattle.game_tables.specs.declared.kind.Kind.TheVariants.{Road}
use Rattle.room_terrain.specs.Tiles.{tile}
use Rattle.room_terrain.specs.declared.terrain.Ground.{Ground}
use Rattle.room_table.specs.declared.object.Object.{Object}
use Rattle.room_table.specs.Tables.{IsOnTile, IsRising, find_object, first_on, with_object}
use Rattle.world_rules.specs.Moves.{pace, weight}
use Rattle.world_rules.proofs.TableParts.{found_by_id, has_the_id}
use Rattle.room_rules.specs.Calls.{AreApart}
use Rattle.creep_move.specs.inner.Decided.{IsGoing}
use Rattle.creep_move.specs.inner.Landing.{AreAfter, AreGoers, IsAfter, steps, wears, stays, IsGoer, IsLanded, IsRoad, stepped_to, tired_on, worn_by}
use Rattle.room_commutes.proofs.Members.{Has, all_of_has}
use Rattle.creep_move.proofs.Stored.{first_has, found_has, lone_by, tile_column, tile_row}

-- ---- kinds

pub road_is : (kind : Kind) → kind_number kind ≡ kind_number Road → kind ≡ Road
road_is Road same = refl
road_is _ same = absurd (omega (arith, same))

pub no_road : (kind : Kind) → is_creep kind ≡ true → kind_number kind ≡ kind_number Road → ⊥
no_road kind creep same = true≢false (sym creep ∙ ap is_creep (road_is kind same))

-- ---- one object in the place of another

abbrev instead : Bool → Object → Option Object → Option Object
instead b object found = cond b (option_map (λ o. object) found) found

nothing : (b : Bool) (object : Object) → None ≡ instead b object None
nothing true object = refl
nothing false object = refl

same_id : (b : Bool) (object first : Object) (after before : Option Object) → after ≡ instead b object before → cond b (Some object) after ≡ instead b object (cond b (Some first) before)
same_id true object first after before rest = refl
same_id false object first after before rest = rest

replaced : (q : ℕ) (object : Object) (objects : List Object) → find_object q (with_object object objects) ≡ instead (object.id == q) object (find_object q objects)
replaced q object [] = nothing (object.id == q) object
replaced q object (first ∷ objects) =
    let rest = replaced q object objects in
    let after = find_object q (with_object object objects) in
    let before = find_object q objects in
    elim (cases_eq first.id object.id) as (λ c. find_object q (with_object object (first ∷ objects)) ≡ instead (object.id == q) object (find_object q (first ∷ objects))) [
      | inl same ↦ rw (eq-eqb first.id object.id same, ap (λ (n : ℕ). n == q) same) (same_id (object.id == q) object first after before rest)
      | inr other ↦ rw (ne_eqb first.id object.id other) (elim (cases_eq first.id q) as (λ c. cond (first.id == q) (Some first) after ≡ instead (object.id == q) object (cond (first.id == q) (Some first) before)) [
        | inl here ↦ rw (eq-eqb first.id q here, ne_eqb object.id q (λ e. other (here ∙ sym e))) refl
        | inr apart ↦ rw (ne_eqb first.id q apart) rest
      ])
    ]

pub found_other : (q : ℕ) (object : Object) (objects : List Object) → q ≢ object.id → find_object q (with_object object objects) ≡ find_object q objects
found_other q object objects other = replaced q object objects ∙ ap (λ (b : Bool). instead b object (find_object q objects)) (ne_eqb object.id q (λ e. other (sym e)))

pub found_set : (object was : Object) (objects : List Object) → find_object object.id objects ≡ Some was → find_object object.id (with_object object objects) ≡ Some object
found_set object was objects is = replaced object.id object objects ∙ ap (λ (b : Bool). instead b object (find_object object.id objects)) (eq-eqb object.id object.id refl) ∙ ap (option_map (λ o. object)) is

-- ---- one step

abbrev pub is_road_on : ℕ → ℕ → Object → Bool
is_road_on x y o = (o.x == x) && (o.y == y) && (kind_number o.kind == kind_number Road)

-- a road that is found on a tile
pub record RoadOn (objects : List Object) (x y : ℕ) (road : Object) : Type 0 where
  pub has : Has objects road
  pub found : find_object road.id objects ≡ Some road
  pub kind : IsRoad road
  pub column : road.x ≡ x
  pub row : road.y ≡ y

pub road_found : (objects : List Object) (x y : ℕ) (road : Object) → IsRising objects → first_on x y Road objects ≡ Some road → RoadOn objects x y road
road_found objects x y road rise is =
    let is_first = first_has (is_road_on x y) objects road is in
    let parts = and_parts ((road.x == x) && (road.y == y)) (kind_number road.kind == kind_number Road) is_first.1 in
    let places = and_parts (road.x == x) (road.y == y) parts.0 in
    record {
      has = is_first.0;
      found = found_by_id (is_road_on x y) objects road rise is;
      kind = eqb-true (kind_number road.kind) (kind_number Road) parts.1;
      column = eqb-true road.x x places.0;
      row = eqb-true road.y y places.1;
    }

pub found_some : {A : Type 0} (test : A → Bool) (list : List A) (x : A) → Has list x → test x ≡ true → (y : A) × (find test list ≡ Some y)
found_some test [] x has is = absurd has
found_some test (first ∷ later) x (inl same) is = (first, ap (λ (b : Bool). cond b (Some first) (find test later)) (ap test same ∙ is))
found_some test (first ∷ later) x (inr has) is =
    let rest = found_some test later x has is in
    elim (test first) as (λ b. (y : _) × (cond b (Some first) (find test later) ≡ Some y)) [ true ↦ (first, refl) | false ↦ rest ]

pub road_there : (objects : List Object) (x y : ℕ) (road : Object) → Has objects road → IsRoad road → road.x ≡ x → road.y ≡ y → (other : Object) × (first_on x y Road objects ≡ Some other)
road_there objects x y road has kind column row =
    found_some (is_road_on x y) objects road has (and_from ((road.x == x) && (road.y == y)) (kind_number road.kind == kind_number Road) (and_from (road.x == x) (road.y == y) (eq-eqb road.x x column) (eq-eqb road.y y row)) (eq-eqb (kind_number road.kind) (kind_number Road) kind))

pub same_found : (id : ℕ) (objects : List Object) (one other : Object) → find_object id objects ≡ Some one → find_object id objects ≡ Some other → one ≡ other
same_found id objects one other is also = let e : Some one ≡ Some other = sym is ∙ also in cc

module _ (x y tired : ℕ) (creep : Object) (objects : List Object) (rise : IsRising objects) (there : find_object creep.id objects ≡ Some creep) (is : is_creep creep.kind ≡ true) where
  abbrev stepped_in : List Object
  stepped_in = with_object (stepped_to x y tired creep) objects

  road_other : (road : Object) → RoadOn objects x y road → road.id ≢ creep.id
  road_other road on same =
      let e : road ≡ creep = same_found creep.id objects road creep (ap (λ n. find_object n objects) (sym same) ∙ on.found) there in
      no_road creep.kind is (ap (λ (o : Object). kind_number o.kind) (sym e) ∙ on.kind)

  pub road_still : (road : Object) → first_on x y Road objects ≡ Some road → find_object road.id stepped_in ≡ Some road
  road_still road is = let on = road_found objects x y road rise is in found_other road.id (stepped_to x y tired creep) objects (road_other road on) ∙ on.found

  pub landed_plain : first_on x y Road objects ≡ None → IsLanded x y tired creep objects stepped_in
  landed_plain none = record {
    its = found_set (stepped_to x y tired creep) creep objects there;
    road = λ road some. let e : ◌≡◌ {A = Option Object} None (Some road) = sym none ∙ some in absurd (cc);
    others = λ id other apart. found_other id (stepped_to x y tired creep) objects other;
  }

  pub landed_road : (road : Object) → first_on x y Road objects ≡ Some road → IsLanded x y tired creep objects (with_object (worn_by (length creep.body) road) stepped_in)
  landed_road road is =
      let on = road_found objects x y road rise is in
      let worn = worn_by (length creep.body) road in
      record {
        its = found_other creep.id worn stepped_in (λ e. road_other road on (sym e)) ∙ found_set (stepped_to x y tired creep) creep objects there;
        road = λ other also.
            let e : Some road ≡ Some other = sym is ∙ also in
            let same : road ≡ other = cc in
            subst (λ (o : Object). find_object o.id (with_object worn stepped_in) ≡ Some (worn_by (length creep.body) o)) same (found_set worn road stepped_in (road_still road is));
        others = λ id other apart. found_other id worn stepped_in (apart road is) ∙ found_other id (stepped_to x y tired creep) objects other;
      }

pub id_road : (found : Option Object) (id : ℕ) → Some id ≡ option_map (λ (o : Object). o.id) found → (road : Object) × (found ≡ Some road) × (road.id ≡ id)
id_road None id is = absurd (cc)
id_road (Some road) id is = (road, refl, let same : id ≡ road.id = cc in sym same)

pub none_road : (found : Option Object) → None ≡ option_map (λ (o : Object). o.id) found → found ≡ None
none_road None is = refl
none_road (Some road) is = absurd (cc)

pub some_road : (found : Option Object) → is_some (option_map (λ (o : Object). o.id) found) ≡ is_some found
some_road None = refl
some_road (Some road) = refl

-- ---- the steps onto all tiles so far

pub row_tile : (i : ℕ) → tile (i % 50) (i / 50) ≡ i
row_tile i = omega arith

module _ (grounds : List Ground) (objects : List Object) (rise : IsRising objects) (apart : AreApart objects) (tiles : AllByRecursion IsOnTile objects) (comes best : List ℕ) (held : List Bool) (goers : AreGoers objects comes best held) where
  abbrev After : ℕ → List Object → Type 0
  After next now = AreAfter grounds objects comes best held next now

  abbrev Is : ℕ → Object → Object → Type 0
  Is next object after = IsAfter grounds objects comes best held next object after

  pub after_none : After 0 objects
  after_none = record {
    absent = λ id none. none;
    present = λ id object found. (object, found, stays (λ t low going same. absurd (omega (arith, low))) (λ road low going. absurd (omega (arith, low))) refl);
  }

  column : (object : Object) → Has objects object → object.x < 50
  column object has = let on : IsOnTile object = all_of_has IsOnTile objects object tiles has in omega (arith, on.column)

  -- the same one tile further
  more : (next : ℕ) (object after : Object) → (IsGoing comes held next → get_or best next 0 ≡ object.id → ⊥) → (IsGoing comes held next → IsRoad object → tile object.x object.y ≡ next → ⊥) → Is next object after → Is (next + 1) object after
  more next object after mine under (steps t low going its same) = steps t (omega (arith, low)) going its same
  more next object after mine under (wears creep road low going its same) = wears creep road (omega (arith, low)) going its same
  more next object after mine under (stays none clear same) = stays
      (λ t low going its. elim (cases_eq t next) [
        | inl e ↦ mine (subst (IsGoing comes held) e going) (ap (λ n. get_or best n 0) (sym e) ∙ its)
        | inr other ↦ none t (omega (arith, low, other)) going its
      ])
      (λ road low going. elim (cases_eq (tile object.x object.y) next) [
        | inl e ↦ under (subst (IsGoing comes held) e going) road e
        | inr other ↦ clear road (omega (arith, low, other)) going
      ])
      same

  pub after_skip : (next : ℕ) (now : List Object) → (IsGoing comes held next → ⊥) → After next now → After (next + 1) now
  after_skip next now none before = record {
    absent = before.absent;
    present = λ id object found.
        let was = before.present id object found in
        (was.0, was.1, more next object was.0 (λ going its. none going) (λ going road at. none going) was.2);
  }

  goer_is : (t : ℕ) (object : Object) → t < 2500 → IsGoing comes held t → find_object object.id objects ≡ Some object → get_or best t 0 ≡ object.id → is_creep object.kind ≡ true
  goer_is t object low going found its =
      let goer = goers.goer t low going in
      let same : goer.creep ≡ object = same_found object.id objects goer.creep object (ap (λ n. find_object n objects) (sym its) ∙ goer.found) found in
      ap (λ (o : Object). is_creep o.kind) (sym same) ∙ goer.kind

  -- a road stays a road on its tile
  record Alike (object after : Object) : Type 0 where
    kind : after.kind ≡ object.kind
    x : after.x ≡ object.x
    y : after.y ≡ object.y

  road_alike : (next : ℕ) (object after : Object) → next ≤ 2500 → find_object object.id objects ≡ Some object → kind_number after.kind ≡ kind_number Road ⊎ IsRoad object → Is next object after → Alike object after
  road_alike next object after low found road (steps t less going its same) =
      let creep = goer_is t object (omega (arith, low, less)) going found its in
      absurd (elim road [
        | inl r ↦ no_road object.kind creep (sym (ap (λ (o : Object). kind_number o.kind) same) ∙ r)
        | inr r ↦ no_road object.kind creep r
      ])
  road_alike next object after low found road (wears creep is less going its same) = record { kind = ap (λ (o : Object). o.kind) same; x = ap (λ (o : Object). o.x) same; y = ap (λ (o : Object). o.y) same }
  road_alike next object after low found road (stays none clear same) = record { kind = ap (λ (o : Object). o.kind) same; x = ap (λ (o : Object). o.x) same; y = ap (λ (o : Object). o.y) same }

  module _ (next : ℕ) (short : next ≤ 2500) (now : List Object) (rise_now : IsRising now) (before : After next now) where
    -- the road that a road now was
    record WasRoad (x y : ℕ) (after : Object) : Type 0 where
      road : Object
      found : find_object road.id objects ≡ Some road
      id : road.id ≡ after.id
      kind : IsRoad road
      at_x : road.x ≡ x
      at_y : road.y ≡ y
      is : Is next road after

    road_was : (x y : ℕ) (after : Object) → first_on x y Road now ≡ Some after → WasRoad x y after
    road_was x y after some = go (find_object after.id objects) refl
      where
        on : RoadOn now x y after
        on = road_found now x y after rise_now some

        go : (found : Option Object) → find_object after.id objects ≡ found → WasRoad x y after
        go None none = let e : ◌≡◌ {A = Option Object} None (Some after) = sym (before.absent after.id none) ∙ on.found in absurd (cc)
        go (Some road) is =
            let was = before.present after.id road is in
            let same : was.0 ≡ after = same_found after.id now was.0 after was.1 on.found in
            let its = has_the_id after.id objects road is in
            let found = ap (λ n. find_object n objects) its ∙ is in
            let kept : Is next road after = subst (Is next road) same was.2 in
            let alike = road_alike next road after short found (inl on.kind) kept in
            record {
              road = road;
              found = found;
              id = its;
              kind = ap kind_number (sym alike.kind) ∙ on.kind;
              at_x = sym alike.x ∙ on.column;
              at_y = sym alike.y ∙ on.row;
              is = kept;
            }

    road_now : (x y : ℕ) (road : Object) → find_object road.id objects ≡ Some road → IsRoad road → road.x ≡ x → road.y ≡ y → (after : Object) × (first_on x y Road now ≡ Some after)
    road_now x y road found kind at_x at_y =
        let was = before.present road.id road found in
        let alike = road_alike next road was.0 short found (inr kind) was.2 in
        road_there now x y was.0 (found_has road.id now was.0 was.1) (ap kind_number alike.kind ∙ kind) (alike.x ∙ at_x) (alike.y ∙ at_y)

    same_some : (x y : ℕ) → is_some (first_on x y Road now) ≡ is_some (first_on x y Road objects)
    same_some x y = go (first_on x y Road now) (first_on x y Road objects) refl refl
      where
        go : (one other : Option Object) → first_on x y Road now ≡ one → first_on x y Road objects ≡ other → is_some one ≡ is_some other
        go None None is also = refl
        go (Some one) (Some other) is also = refl
        go None (Some other) is also =
            let on = road_found objects x y other rise also in
            let there = road_now x y other on.found on.kind on.column on.row in
            let e : ◌≡◌ {A = Option Object} None (Some there.0) = sym is ∙ there.1 in absurd (cc)
        go (Some one) None is also =
            let was = road_was x y one is in
            let there = road_there objects x y was.road (found_has was.road.id objects was.road was.found) was.kind was.at_x was.at_y in
            let e : ◌≡◌ {A = Option Object} None (Some there.0) = sym also ∙ there.1 in absurd (cc)

    module _ (low : next < 2500) (going : IsGoing comes held next) where
      abbrev goer : IsGoer objects (get_or best next 0)
      goer = goers.goer next low going

      abbrev creep : Object
      creep = goer.creep

      creep_id : creep.id ≡ get_or best next 0
      creep_id = has_the_id (get_or best next 0) objects creep goer.found

      creep_now : find_object (get_or best next 0) now ≡ Some creep
      creep_now = was_creep was.2
        where
          was : (after : Object) × (find_object (get_or best next 0) now ≡ Some after) × Is next creep after
          was = before.present (get_or best next 0) creep goer.found

          was_creep : Is next creep was.0 → find_object (get_or best next 0) now ≡ Some creep
          was_creep (steps t less goes its same) = let e : t ≡ next = goers.once t next (omega (arith, less, low)) low goes going (its ∙ creep_id) in absurd (omega (arith, e, less))
          was_creep (wears other road less goes its same) = absurd (no_road creep.kind goer.kind road)
          was_creep (stays none clear same) = was.1 ∙ ap Some same

      pub goer_now : IsGoer now (get_or best next 0)
      goer_now = record { creep = creep; found = creep_now; kind = goer.kind; load = goer.load }

      abbrev x : ℕ
      x = next % 50

      abbrev y : ℕ
      y = next / 50

      tired_same : tired_on grounds now x y creep ≡ tired_on grounds objects x y creep
      tired_same = ap (λ b. weight creep * pace b (slice_get grounds (tile x y))) (same_some x y)

      same_road : (one other : Object) → find_object one.id objects ≡ Some one → find_object other.id objects ≡ Some other → IsRoad one → IsRoad other → tile one.x one.y ≡ next → other.x ≡ x → other.y ≡ y → one ≡ other
      same_road one other found also road second at at_x at_y =
          let has = found_has one.id objects one found in
          let low_x : x < 50 = omega arith in
          let e = road_is one.kind road in
          let f = road_is other.kind second in
          lone_by objects one other apart has (found_has other.id objects other also)
          (tile_column one.x one.y x y (column one has) low_x (at ∙ sym (row_tile next)) ∙ sym at_x)
          (tile_row one.x one.y x y (column one has) low_x (at ∙ sym (row_tile next)) ∙ sym at_y)
          (λ i. clash (e i) (f i)) (λ i. clash (f i) (e i))

      module _ (new : List Object) (landed_by : (one : Object) → find_object (get_or best next 0) now ≡ Some one → IsLanded x y (tired_on grounds now x y one) one now new) where
        landed : IsLanded x y (tired_on grounds now x y creep) creep now new
        landed = landed_by creep creep_now

        kept : (id : ℕ) → id ≢ creep.id → ((road : Object) → first_on x y Road now ≡ Some road → id ≢ road.id) → find_object id new ≡ find_object id now
        kept = landed.others

        other_found : (id : ℕ) (object : Object) → find_object id objects ≡ Some object → object.id ≢ creep.id → (found : Option Object) → first_on x y Road now ≡ found → (after : Object) × (find_object id new ≡ Some after) × Is (next + 1) object after
        other_found id object found other None none =
            let was = before.present id object found in
            let its = has_the_id id objects object found in (
              was.0,
              kept id (λ e. other (its ∙ e)) (λ road some. let e : ◌≡◌ {A = Option Object} None (Some road) = sym none ∙ some in absurd (cc)) ∙ was.1,
              more next object was.0 (λ goes mine. other (sym mine ∙ sym creep_id)) (λ goes road at.
                  let has = found_has id objects object found in
                  let low_x : x < 50 = omega arith in
                  let there = road_now x y object (ap (λ n. find_object n objects) its ∙ found) road (tile_column object.x object.y x y (column object has) low_x (at ∙ sym (row_tile next))) (tile_row object.x object.y x y (column object has) low_x (at ∙ sym (row_tile next))) in
                  let e : ◌≡◌ {A = Option Object} None (Some there.0) = sym none ∙ there.1 in absurd (cc)) was.2,
            )
        other_found id object found other (Some after) some =
            let was_road = road_was x y after some in
            let its = has_the_id id objects object found in
            let its_found = ap (λ n. find_object n objects) its ∙ found in
            elim (cases_eq object.id was_road.road.id) [
              | inl same ↦
                  let e : was_road.road ≡ object = same_found object.id objects was_road.road object (ap (λ n. find_object n objects) same ∙ was_road.found) its_found in
                  road_worn id object after found some (sym its ∙ same ∙ was_road.id) (subst (λ (o : Object). IsRoad o × (o.x ≡ x) × (o.y ≡ y) × Is next o after) e (was_road.kind, was_road.at_x, was_road.at_y, was_road.is))
              | inr differ ↦
                  let was = before.present id object found in (
                    was.0,
                    kept id (λ e. other (its ∙ e)) (λ road also. let e : Some after ≡ Some road = sym some ∙ also in let same : after ≡ road = cc in λ f. differ (its ∙ f ∙ ap (λ (o : Object). o.id) (sym same) ∙ sym was_road.id)) ∙ was.1,
                    more next object was.0 (λ goes mine. other (sym mine ∙ sym creep_id)) (λ goes road at.
                        differ (ap (λ (o : Object). o.id) (same_road object was_road.road its_found was_road.found road was_road.kind at was_road.at_x was_road.at_y))) was.2,
                  )
            ]
          where
            road_worn : (id : ℕ) (object after : Object) → find_object id objects ≡ Some object → first_on x y Road now ≡ Some after → id ≡ after.id → IsRoad object × (object.x ≡ x) × (object.y ≡ y) × Is next object after
                → (last : Object) × (find_object id new ≡ Some last) × Is (next + 1) object last
            road_worn id object after found some same (road, at_x, at_y, steps t less goes its is) =
                let own = has_the_id id objects object found in
                absurd (no_road object.kind (goer_is t object (omega (arith, less, low)) goes (ap (λ n. find_object n objects) own ∙ found) its) road)
            road_worn id object after found some same (road, at_x, at_y, wears other is less goes its alike) =
                let at : tile object.x object.y ≡ next = (λ i. tile (at_x i) (at_y i)) ∙ row_tile next in absurd (omega (arith, at, less))
            road_worn id object after found some same (road, at_x, at_y, stays none clear is) =
                let at : tile object.x object.y ≡ next = (λ i. tile (at_x i) (at_y i)) ∙ row_tile next in (
                  worn_by (length creep.body) after,
                  ap (λ n. find_object n new) same ∙ landed.road after some,
                  wears creep road (omega (arith, at)) (subst (IsGoing comes held) (sym at) going) (ap (λ n. find_object (get_or best n 0) objects) at ∙ goer.found) (ap (worn_by (length creep.body)) is),
                )

        pub after_land : After (next + 1) new
        after_land = record {
          absent = λ id none.
              let was = before.absent id none in
              kept id (λ e. let f : ◌≡◌ {A = Option Object} None (Some creep) = sym none ∙ ap (λ n. find_object n objects) (e ∙ creep_id) ∙ goer.found in absurd (cc)) (λ road some e.
              let was_road = road_was x y road some in
              let f : ◌≡◌ {A = Option Object} None (Some was_road.road) = sym none ∙ ap (λ n. find_object n objects) (e ∙ sym was_road.id) ∙ was_road.found in absurd (cc))
              ∙ was;
          present = λ id object found. elim (cases_eq object.id creep.id) [
            | inl same ↦
                let its = has_the_id id objects object found in
                let e : creep ≡ object = same_found id objects creep object (ap (λ n. find_object n objects) (sym its ∙ same ∙ creep_id) ∙ goer.found) found in (
                  stepped_to x y (tired_on grounds now x y creep) creep,
                  ap (λ n. find_object n new) (sym its ∙ same) ∙ landed.its,
                  steps next (omega arith) going (sym creep_id ∙ sym same) ((λ i. stepped_to x y (tired_same i) creep) ∙ ap (λ (o : Object). stepped_to x y (tired_on grounds objects x y o) o) e),
                )
            | inr other ↦ other_found id object found other (first_on x y Road now) refl
          ];
        }
