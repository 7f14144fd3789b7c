-- The winners that are not held back are the movers.
use Rattle.std.proofs.Common.{◌≡◌, ◌↔◌, inl, inr, ℕ, ◌<◌, ◌≤◌, ◌==◌, ◌&&◌, not, Bool, true, false, List, length, get_or, Some, refl, sym, ap, subst, ◌∙◌, arith}
use Rattle.std.specs.FinMap.{get}
use Rattle.std.specs.List.{Contains, filter}
use Rattle.std.proofs.lemmas.Bool.{eqb-true, eq-eqb, and_from, and_parts, both_ways, false_from_ne_true, not-true, not_from_false}
use Rattle.game_tables.specs.Kinds.{is_creep}
use Rattle.room_terrain.specs.Tiles.{tile}
use Rattle.room_table.specs.declared.object.Object.{Object}
use Rattle.room_terrain.specs.declared.terrain.Ground.{Ground}
use Rattle.room_table.specs.Tables.{Table, IsOnTile, IsRising}
use Rattle.room_rules.specs.Calls.{AreActorsOnce, IsMovable}
use Rattle.world_rules.proofs.TableParts.{get_table_part, has_the_id}
use Rattle.intent_book.specs.declared.intent.Intent.{Intent}
use Rattle.world_rules.specs.RoomParts.{RoomPart, table_part}
use Rattle.world_rules.specs.Movement.{Mover, meet, has_mover, is_creep_on, movers}
use Rattle.world_rules.specs.Moves.{candidates, mover_of}
use Rattle.room_commutes.specs.Allowed.{AreCreepsOnce, IsLeast, IsAllowed, StepsActor}
use Rattle.creep_move.specs.inner.Arrivals.{Arrives, ComesFrom, Would, Wins}
use Rattle.creep_move.specs.inner.Walk.{IsStoodOn, Stuck, here, behind, IsLeft}
use Rattle.creep_move.specs.inner.Decided.{IsDecided}
use Rattle.room_commutes.proofs.Members.{Has, all_of_has, has_contained, contains_has, all_has, has_all, filter_has, has_filter}
use Rattle.room_commutes.proofs.Greatest.{winner_is, one_of_creep, has_creep, creep_has, free_for, movers_allowed, movers_greatest}
use Rattle.creep_move.proofs.Stored.{tile_column, tile_row, made_has, has_made, found_has, has_found, lone_creep}
use Rattle.room_commutes.proofs.ActorsOnce.{steps_once}
use Rattle.creep_move.proofs.Candidates.{moves_of, mover_inside}

-- a room and its tables: `first` has the tiles of all creeps, `start` those of the creeps that win nothing, and
-- `held` those of the creeps that stay
pub record Tables (part : RoomPart) (objects : List Object) (moves : List Intent) (comes best : List ℕ) (first start held : List Bool) : Type 0 where
  pub columns : (object : Object) → Has objects object → object.x < 50
  pub rows : (object : Object) → Has objects object → object.y < 50
  pub lone : (one other : Object) → Has objects one → Has objects other → is_creep one.kind ≡ true → is_creep other.kind ≡ true → one.x ≡ other.x → one.y ≡ other.y → one ≡ other
  pub known : (id : ℕ) (object : Object) → get part.objects id ≡ Some object → Has objects object × (object.id ≡ id)
  pub stands : (object : Object) → Has objects object → get part.objects object.id ≡ Some object
  pub once : AreCreepsOnce (candidates part moves)
  pub long : length start ≡ 2500
  pub wide : length comes ≡ 2500
  pub arrives : (t : ℕ) → t < 2500 → Arrives part moves t (get_or comes t 0) (get_or best t 0)
  pub stood : (t : ℕ) → get_or first t false ≡ true ↔ IsStoodOn objects t
  pub kept : (t : ℕ) → get_or start t false ≡ true → get_or first t false ≡ true
  pub left : (t : ℕ) → get_or first t false ≡ true → (get_or start t false ≡ false ↔ IsLeft comes t)
  pub stuck : (t : ℕ) → get_or held t false ≡ true ↔ Stuck comes start t

module _ (part : RoomPart) (objects : List Object) (moves : List Intent) (comes best : List ℕ) (first start held : List Bool) (tables : Tables part objects moves comes best first start held) where
  abbrev list : List Mover
  list = candidates part moves

  would : (one : Mover) → Has list one → Would part moves one
  would one has = let made = has_made (mover_of part) moves one has in (made.0, has_contained moves made.0 made.1, made.2)

  listed : (one : Mover) → Would part moves one → Has list one
  listed one h = made_has (mover_of part) moves h.0 one (contains_has moves h.0 h.1) h.2

  inside : (one : Mover) → Has list one → (one.x < 50) × (one.y < 50)
  inside one has = let made = has_made (mover_of part) moves one has in mover_inside part made.0 one made.2

  tile_low : (x y : ℕ) → x < 50 → y < 50 → tile x y < 2500
  tile_low x y low short = omega (arith, low, short)

  to_low : (one : Mover) → Has list one → tile one.x one.y < 2500
  to_low one has = let low = inside one has in tile_low one.x one.y low.0 low.1

  same_to : (one other : Mover) → Has list one → Has list other → tile one.x one.y ≡ tile other.x other.y → meet one other ≡ true
  same_to one other has also same =
      let low = inside one has in
      let short = inside other also in
      and_from (one.x == other.x) (one.y == other.y) (eq-eqb one.x other.x (tile_column one.x one.y other.x other.y low.0 short.0 same)) (eq-eqb one.y other.y (tile_row one.x one.y other.x other.y low.0 short.0 same))

  meet_to : (one other : Mover) → meet one other ≡ true → tile one.x one.y ≡ tile other.x other.y
  meet_to one other is =
      let parts = and_parts (one.x == other.x) (one.y == other.y) is in
      λ i. tile (eqb-true one.x other.x parts.0 i) (eqb-true one.y other.y parts.1 i)

  same_creep : (one other : Mover) → Has list one → Has list other → one.creep ≡ other.creep → one ≡ other
  same_creep one other has also = one_of_creep list one other tables.once has also

  -- ---- winners

  wins_least : (t from id : ℕ) (wins : Wins part moves t from id) → IsLeast list wins.one
  wins_least t from id wins = record {
    listed = has_contained list wins.one (listed wins.one wins.would);
    least = λ other there meets.
        let low : id ≤ other.creep = wins.least other (would other (contains_has list other there)) (sym (meet_to wins.one other meets) ∙ wins.there) in
        subst (λ n. n ≤ other.creep) (sym wins.its) low;
  }

  -- what the tables say of a tile that has a candidate
  winning : (one : Mover) → Has list one → (t : ℕ) → tile one.x one.y ≡ t → Wins part moves t (get_or comes t 0) (get_or best t 0)
  winning one has t at = elim (tables.arrives t (subst (λ n. n < 2500) at (to_low one has))) [
    | inl none ↦ absurd (none.1 one (would one has) at)
    | inr wins ↦ wins
  ]

  coming : (t : ℕ) → t < 2500 → get_or comes t 0 < 2500 → Wins part moves t (get_or comes t 0) (get_or best t 0)
  coming t low short = elim (tables.arrives t low) [
    | inl none ↦ absurd (omega (arith, none.0, short))
    | inr wins ↦ wins
  ]

  least_is : (one : Mover) (has : Has list one) → IsLeast list one → (winning one has (tile one.x one.y) refl).one ≡ one
  least_is one has least =
      let wins = winning one has (tile one.x one.y) refl in
      let other = listed wins.one wins.would in
      let low : wins.one.creep ≤ one.creep = subst (λ n. n ≤ one.creep) (sym wins.its) (wins.least one (would one has) refl) in
      let high : one.creep ≤ wins.one.creep = least.least wins.one (has_contained list wins.one other) (same_to one wins.one has other (sym wins.there)) in
      same_creep wins.one one other has (omega arith)

  -- a creep that comes from where a creep stands is that creep
  from_is : (one : Mover) (from : ℕ) (object : Object) → ComesFrom part one from → Has objects object → is_creep object.kind ≡ true → tile object.x object.y ≡ from → object.id ≡ one.creep
  from_is one from object comes_from has is at =
      let other = tables.known one.creep comes_from.object comes_from.stands in
      let same : object ≡ comes_from.object = tables.lone object comes_from.object has other.0 is comes_from.creep
      (tile_column object.x object.y comes_from.object.x comes_from.object.y (tables.columns object has) (tables.columns comes_from.object other.0) (at ∙ sym comes_from.at))
      (tile_row object.x object.y comes_from.object.x comes_from.object.y (tables.columns object has) (tables.columns comes_from.object other.0) (at ∙ sym comes_from.at)) in
      ap (λ (o : Object). o.id) same ∙ other.1

  -- ---- who stays

  stuck_stood : (t : ℕ) → Stuck comes start t → IsStoodOn objects t
  stuck_stood t (here h) = (tables.stood t).0 (tables.kept t h)
  stuck_stood t (behind {t = s} st e low) =
      let before = stuck_stood s st in
      let on = contains_has objects before.0 before.1 in
      let within : s < 2500 = subst (λ n. n < 2500) before.3 (tile_low before.0.x before.0.y (tables.columns before.0 on) (tables.rows before.0 on)) in
      let short : get_or comes s 0 < 2500 = omega (arith, low, tables.long, e) in
      let wins = coming s within short in
      let other = tables.known wins.one.creep wins.comes.object wins.comes.stands in
      (wins.comes.object, has_contained objects wins.comes.object other.0, wins.comes.creep, wins.comes.at ∙ e)

  stuck_low : (t : ℕ) → Stuck comes start t → t < 2500
  stuck_low t st =
      let before = stuck_stood t st in
      let on = contains_has objects before.0 before.1 in
      subst (λ n. n < 2500) before.3 (tile_low before.0.x before.0.y (tables.columns before.0 on) (tables.rows before.0 on))

  abbrev set : List Mover
  set = movers objects list

  allowed : IsAllowed objects list set
  allowed = movers_allowed objects list tables.once

  won : (one : Mover) → Has set one → IsLeast list one
  won one has = (winner_is list one).0 (allowed.winners one (has_contained set one has))

  among : (one : Mover) → Has set one → Has list one
  among one has = contains_has list one (won one has).listed

  is_winner : (one : Mover) (has : Has set one) → (winning one (among one has) (tile one.x one.y) refl).one ≡ one
  is_winner one has = least_is one (among one has) (won one has)

  mover_comes : (one : Mover) → Has set one → ComesFrom part one (get_or comes (tile one.x one.y) 0)
  mover_comes one has = let wins = winning one (among one has) (tile one.x one.y) refl in subst (λ (m : Mover). ComesFrom part m (get_or comes (tile one.x one.y) 0)) (is_winner one has) wins.comes

  mover_best : (one : Mover) → Has set one → get_or best (tile one.x one.y) 0 ≡ one.creep
  mover_best one has = let wins = winning one (among one has) (tile one.x one.y) refl in sym wins.its ∙ ap (λ (m : Mover). m.creep) (is_winner one has)

  on_tile : (one : Mover) (object : Object) → Has list one → Has objects object → is_creep object.kind ≡ true → tile object.x object.y ≡ tile one.x one.y → is_creep_on one.x one.y object ≡ true
  on_tile one object has there creep at =
      let low = inside one has in
      let column = eq-eqb object.x one.x (tile_column object.x object.y one.x one.y (tables.columns object there) low.0 at) in
      let row = eq-eqb object.y one.y (tile_row object.x object.y one.x one.y (tables.columns object there) low.0 at) in
      λ i. creep i && column i && row i

  -- no mover is stuck
  stuck_out : (t : ℕ) → Stuck comes start t → (one : Mover) → Has set one → get_or comes (tile one.x one.y) 0 ≡ t → ⊥
  stuck_out t (here h) one has at =
      let low : tile one.x one.y < length comes = omega (arith, to_low one (among one has), tables.wide) in
      both_ways (get_or start t false) ((tables.left t (tables.kept t h)).1 (tile one.x one.y, low, at)) h
  stuck_out t (behind {t = s} st e low) one has at =
      let within = stuck_low s st in
      let wins = coming s within (omega (arith, low, tables.long, e)) in
      let from = mover_comes one has in
      let other = tables.known one.creep from.object from.stands in
      let id : from.object.id ≡ wins.one.creep = from_is wins.one (get_or comes s 0) from.object wins.comes other.0 from.creep (from.at ∙ at ∙ sym e) in
      let same : wins.one ≡ one = same_creep wins.one one (listed wins.one wins.would) (among one has) (sym id ∙ other.1) in
      let there : tile one.x one.y ≡ s = sym (ap (λ (m : Mover). tile m.x m.y) same) ∙ wins.there in
      let stood = stuck_stood s st in
      let ahead = contains_has objects stood.0 stood.1 in
      let free : free_for objects set one ≡ true = all_has (free_for objects set) set one allowed.moves has in
      let on : Has (filter (is_creep_on one.x one.y) objects) stood.0 = filter_has (is_creep_on one.x one.y) objects stood.0 ahead (on_tile one stood.0 (among one has) ahead stood.2 (stood.3 ∙ sym there)) in
      let mate = has_creep set stood.0.id (all_has (λ creep. has_mover set creep.id) (filter (is_creep_on one.x one.y) objects) stood.0 free on) in
      let next = mover_comes mate.0 mate.1 in
      let object : Some next.object ≡ Some stood.0 = sym next.stands ∙ ap (get part.objects) mate.2 ∙ tables.stands stood.0 ahead in
      let is : next.object ≡ stood.0 = cc in
      stuck_out s st mate.0 mate.1 (sym next.at ∙ ap (λ (o : Object). tile o.x o.y) is ∙ stood.3)

  -- ---- who goes

  abbrev goes_by : Mover → Bool
  goes_by one = (get_or best (tile one.x one.y) 0 == one.creep) && not (get_or held (get_or comes (tile one.x one.y) 0) false)

  abbrev free_set : List Mover
  free_set = filter goes_by list

  free_won : (one : Mover) → Has free_set one → IsLeast list one
  free_won one has =
      let chosen = has_filter goes_by list one has in
      let parts = and_parts (get_or best (tile one.x one.y) 0 == one.creep) (not (get_or held (get_or comes (tile one.x one.y) 0) false)) chosen.1 in
      let wins = winning one chosen.0 (tile one.x one.y) refl in
      let same : wins.one ≡ one = same_creep wins.one one (listed wins.one wins.would) chosen.0 (wins.its ∙ eqb-true (get_or best (tile one.x one.y) 0) one.creep parts.0) in
      subst (IsLeast list) same (wins_least (tile one.x one.y) (get_or comes (tile one.x one.y) 0) (get_or best (tile one.x one.y) 0) wins)

  -- the winner of a tile goes where it is not held
  goes_free : (t : ℕ) (wins : Wins part moves t (get_or comes t 0) (get_or best t 0)) → get_or held (get_or comes t 0) false ≡ false → Has free_set wins.one
  goes_free t wins free = filter_has goes_by list wins.one (listed wins.one wins.would)
      (and_from (get_or best (tile wins.one.x wins.one.y) 0 == wins.one.creep) (not (get_or held (get_or comes (tile wins.one.x wins.one.y) 0) false))
      (eq-eqb (get_or best (tile wins.one.x wins.one.y) 0) wins.one.creep (ap (λ n. get_or best n 0) wins.there ∙ sym wins.its))
      (not_from_false (get_or held (get_or comes (tile wins.one.x wins.one.y) 0) false) (ap (λ n. get_or held (get_or comes n 0) false) wins.there ∙ free)))

  -- the creep on the tile of one that goes goes too
  ahead_goes : (one : Mover) → Has free_set one → (object : Object) → Has objects object → is_creep_on one.x one.y object ≡ true → has_mover free_set object.id ≡ true
  ahead_goes one has object there on =
      let chosen = has_filter goes_by list one has in
      let t = tile one.x one.y in
      let low = to_low one chosen.0 in
      let wins = winning one chosen.0 t refl in
      let parts = and_parts (get_or best t 0 == one.creep) (not (get_or held (get_or comes t 0) false)) chosen.1 in
      let free : get_or held (get_or comes t 0) false ≡ false = not-true (get_or held (get_or comes t 0) false) parts.1 in
      let split = and_parts (is_creep object.kind && (object.x == one.x)) (object.y == one.y) on in
      let split_more = and_parts (is_creep object.kind) (object.x == one.x) split.0 in
      let at : tile object.x object.y ≡ t = λ i. tile (eqb-true object.x one.x split_more.1 i) (eqb-true object.y one.y split.1 i) in
      let loose : Stuck comes start t → ⊥ = λ st.
      both_ways (get_or held (get_or comes t 0) false) free ((tables.stuck (get_or comes t 0)).1 (behind st refl (let short : get_or comes t 0 < 2500 = wins.comes.inside in omega (arith, short, tables.long)))) in
      let open_start : get_or start t false ≡ false = false_from_ne_true (get_or start t false) (λ h. loose (here h)) in
      let open_held : get_or held t false ≡ false = false_from_ne_true (get_or held t false) (λ h. loose ((tables.stuck t).0 h)) in
      let leaves = (tables.left t ((tables.stood t).1 (object, has_contained objects object there, split_more.0, at))).0 open_start in
      let within : leaves.0 < 2500 = omega (arith, leaves.1, tables.wide) in
      let mate = coming leaves.0 within (subst (λ n. n < 2500) (sym leaves.2) low) in
      let id : object.id ≡ mate.one.creep = from_is mate.one (get_or comes leaves.0 0) object mate.comes there split_more.0 (at ∙ sym leaves.2) in
      subst (λ n. has_mover free_set n ≡ true) (sym id) (creep_has free_set mate.one (goes_free leaves.0 mate (ap (λ n. get_or held n false) leaves.2 ∙ open_held)))

  free_allowed : IsAllowed objects list free_set
  free_allowed = record {
    winners = λ one contained. (winner_is list one).1 (free_won one (contains_has free_set one contained));
    moves = has_all (free_for objects free_set) free_set (λ one has.
        has_all (λ creep. has_mover free_set creep.id) (filter (is_creep_on one.x one.y) objects) (λ creep on.
        let stood = has_filter (is_creep_on one.x one.y) objects creep on in
        ahead_goes one has creep stood.0 stood.1));
  }

  mover_free : (one : Mover) → Has set one → get_or held (get_or comes (tile one.x one.y) 0) false ≡ false
  mover_free one has = false_from_ne_true (get_or held (get_or comes (tile one.x one.y) 0) false) (λ h. stuck_out (get_or comes (tile one.x one.y) 0) ((tables.stuck (get_or comes (tile one.x one.y) 0)).0 h) one has refl)

  pub decided : IsDecided set comes best held
  decided = record {
    inside_x = λ one contained. (inside one (among one (contains_has set one contained))).0;
    inside_y = λ one contained. (inside one (among one (contains_has set one contained))).1;
    going = λ one contained. let has = contains_has set one contained in ((mover_comes one has).inside, mover_free one has);
    its = λ one contained. mover_best one (contains_has set one contained);
    goes = λ x y low short going.
        let wins = coming (tile x y) (tile_low x y low short) going.0 in
        let has = goes_free (tile x y) wins going.1 in
        let bounds = inside wins.one (listed wins.one wins.would) in
        let column : wins.one.x ≡ x = tile_column wins.one.x wins.one.y x y bounds.0 low wins.there in
        let row : wins.one.y ≡ y = tile_row wins.one.x wins.one.y x y bounds.0 low wins.there in
        let same : wins.one ≡ record { creep = get_or best (tile x y) 0; x = x; y = y } = λ i. record { creep = wins.its i; x = column i; y = row i } in
        subst (Contains set) same (movers_greatest objects list tables.once free_set free_allowed wins.one (has_contained free_set wins.one has));
  }

-- ---- the tables of a room

actor_of : (grounds : List Ground) (table : Table) → StepsActor (mover_of (table_part grounds table))
actor_of grounds table entry one is =
    let m = moves_of (table_part grounds table) entry one is in
    m.its ∙ has_the_id entry.actor table.objects m.object (sym (get_table_part grounds table entry.actor) ∙ m.stands)

pub tables_of : (grounds : List Ground) (table : Table) → IsRising table.objects → IsMovable table → (moves : List Intent) → AreActorsOnce moves → (comes best : List ℕ) (first start held : List Bool) → length start ≡ 2500 → length comes ≡ 2500
    → ((t : ℕ) → t < 2500 → Arrives (table_part grounds table) moves t (get_or comes t 0) (get_or best t 0)) → ((t : ℕ) → get_or first t false ≡ true ↔ IsStoodOn table.objects t)
    → ((t : ℕ) → get_or start t false ≡ true → get_or first t false ≡ true) → ((t : ℕ) → get_or first t false ≡ true → (get_or start t false ≡ false ↔ IsLeft comes t))
    → ((t : ℕ) → get_or held t false ≡ true ↔ Stuck comes start t) → Tables (table_part grounds table) table.objects moves comes best first start held
tables_of grounds table rise movable moves actors comes best first start held long wide arrives stood kept left stuck = record {
  columns = λ object has. let on : IsOnTile object = all_of_has IsOnTile table.objects object movable.tiles has in omega (arith, on.column);
  rows = λ object has. let on : IsOnTile object = all_of_has IsOnTile table.objects object movable.tiles has in omega (arith, on.row);
  lone = λ one other. lone_creep table.objects one other movable.apart;
  known = λ id object is. let found = sym (get_table_part grounds table id) ∙ is in (found_has id table.objects object found, has_the_id id table.objects object found);
  stands = λ object has. get_table_part grounds table object.id ∙ has_found table.objects object rise has;
  once = steps_once (mover_of (table_part grounds table)) (actor_of grounds table) moves actors;
  long = long;
  wide = wide;
  arrives = arrives;
  stood = stood;
  kept = kept;
  left = left;
  stuck = stuck;
}

pub creeps_once : (grounds : List Ground) (table : Table) (moves : List Intent) → AreActorsOnce moves → AreCreepsOnce (candidates (table_part grounds table) moves)
creeps_once grounds table moves actors = steps_once (mover_of (table_part grounds table)) (actor_of grounds table) moves actors
