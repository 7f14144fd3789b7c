-- What a crossing makes of the stored world is what it makes of the world.
use Rattle.std.proofs.Common.{◌≡◌, ℕ, ◌<◌, ◌==◌, not, if◌then◌else◌, Bool, true, false, cond, Option, Some, None, refl, sym, ap, subst, ◌∙◌, option_map, option_and_then, arith, slice_get}
use Rattle.std.specs.List.{AllByRecursion}
use Rattle.std.specs.Cmp.{nat_cmp_total, unsigned_tied}
use Rattle.std.specs.FinMap.{get, insert, get-insert, same_map, nat_cmp-IsAntisymmetric}
use Rattle.std.proofs.lemmas.Bool.{eqb-true, eqb-false, and_parts, and_from, not_from_false, both_ways}
use Rattle.game_tables.specs.declared.kind.Kind.TheVariants.{Creep}
use Rattle.room_terrain.specs.Geometry.{Mirrors}
use Rattle.room_table.specs.declared.object.Object.{Object}
use Rattle.object_store.specs.declared.world.Room.{Room}
use Rattle.object_store.specs.Stored.{Stored, HaveRisingTables, IsRoomNamed}
use Rattle.room_table.specs.Tables.{IsRising, IsOnTile, find_object, first_on}
use Rattle.world_rules.specs.World.{Placed, Frame, World, listed_room, world_of}
use Rattle.world_rules.specs.Crossings.{Place, NamedTile, mirrored, place_of, beyond, is_taken, is_open_in, may_enter, with_place, with_object_on, crossed_to, crossed_by, room_named}
use Rattle.world_rules.proofs.Lifting.{frame_stored}
use Rattle.world_rules.proofs.TableParts.{all_found, found_by_id}
use Rattle.exit_crossing.specs.Crossing.{AreIdsApart}
use Rattle.exit_crossing.specs.declared.leaving.Crosser.{Crosser}
use Rattle.exit_crossing.specs.declared.crossing.Landing.{Landing}
use Rattle.exit_crossing.specs.inner.Landings.{Lands, rooms_gone}
use Rattle.exit_crossing.proofs.Rooms.{all_get}
use Rattle.exit_crossing.proofs.Mirrored.{mirrors_to, mirrors_from}
use Rattle.exit_crossing.proofs.Landed.{the_room}
use Rattle.exit_crossing.proofs.Named.{room_first, first_room}
use Rattle.exit_crossing.proofs.Found.{object_at, stands, stands_nowhere, is_placed}
use Rattle.exit_crossing.proofs.Taken.{first_creep, free_of, taken_by, is_taken_by}
use Rattle.exit_crossing.proofs.Going.{at_from, at_to, at_other, which, arrived, room_there, room_here, room_elsewhere, others_stay, it_arrives, ids_then}

abbrev pub frame_of : Option Room → Option Frame
frame_of found = option_map (λ (room : Room). (listed_room room).frame) found

abbrev tile_from : Object → Frame → Option NamedTile
tile_from object frame = mirrored frame.name object.x object.y

-- what lies beyond the tile of an object that stands in a room
beyond_stored : (stored : Stored) (k : ℕ) (object : Object) → beyond (world_of stored) (record { room = k; object = object }) ≡ option_and_then (place_of (world_of stored)) (option_and_then (tile_from object) (frame_of (slice_get stored.rooms k)))
beyond_stored stored k object = ap (λ (found : Option Frame). option_and_then (place_of (world_of stored)) (option_and_then (tile_from object) found)) (frame_stored stored k)

-- ---- it goes

module _ (stored : Stored) (crosser : Crosser) (at : Landing) (lands : Lands stored.rooms crosser at) (ids : AreIdsApart stored.rooms) where
  abbrev world : World
  world = world_of stored

  abbrev place : Place
  place = record { room = at.room; x = at.x; y = at.y }

  abbrev after : Stored
  after = record stored { rooms = rooms_gone stored.rooms crosser at lands }

  abbrev placed : Placed
  placed = record { room = crosser.room; object = lands.creep }

  it_stands : get world.objects crosser.id ≡ Some placed
  it_stands = is_placed stored ids crosser.id crosser.room lands.creep (ap (option_and_then (λ (room : Room). find_object crosser.id room.table.objects)) lands.left ∙ lands.stood)

  it_lies_beyond : beyond world placed ≡ Some place
  it_lies_beyond =
      beyond_stored stored crosser.room lands.creep
      ∙ ap (λ (found : Option Room). option_and_then (place_of world) (option_and_then (tile_from lands.creep) (frame_of found))) lands.left
      ∙ ap (option_and_then (place_of world)) (mirrors_to lands.was.name lands.creep.x lands.creep.y lands.name at.x at.y lands.mirrors)
      ∙ ap (option_map (λ (room : ℕ). let here : Place = record { room = room; x = at.x; y = at.y } in here)) (room_first stored lands.name at.room lands.named lands.least)

  not_taken : is_taken world place ≡ false
  not_taken = elim (is_taken world place) as (λ b. is_taken world place ≡ b → b ≡ false) [
    | true ↦ λ is.
        let taker = taken_by world place is in
        let there : object_at stored.rooms at.room taker.id ≡ Some taker.placed.object = ap (λ (n : ℕ). object_at stored.rooms n taker.id) (sym taker.room) ∙ stands stored taker.id taker.placed taker.stands in
        absurd (free_of at.x at.y taker.id lands.other.table.objects taker.placed.object lands.free
        (sym (ap (option_and_then (λ (room : Room). find_object taker.id room.table.objects)) lands.entered) ∙ there) taker.creep)
    | false ↦ λ is. refl
  ] refl

  it_may_enter : may_enter world place ≡ true
  it_may_enter =
      and_from (is_open_in place (get world.rooms at.room)) (not (is_taken world place))
      (ap (is_open_in place) (frame_stored stored at.room ∙ ap frame_of lands.entered) ∙ lands.passable)
      (not_from_false (is_taken world place) not_taken)

  frames_then : (k : ℕ) → frame_of (slice_get stored.rooms k) ≡ frame_of (slice_get after.rooms k)
  frames_then k = elim (which k crosser.room at.room) [
    | at_from is ↦ ap (λ (n : ℕ). frame_of (slice_get stored.rooms n)) is ∙ ap frame_of lands.left ∙ sym (ap frame_of (room_here stored.rooms crosser at lands)) ∙ ap (λ (n : ℕ). frame_of (slice_get after.rooms n)) (sym is)
    | at_to is ↦ ap (λ (n : ℕ). frame_of (slice_get stored.rooms n)) is ∙ ap frame_of lands.entered ∙ sym (ap frame_of (room_there stored.rooms crosser at lands)) ∙ ap (λ (n : ℕ). frame_of (slice_get after.rooms n)) (sym is)
    | at_other one other ↦ sym (ap frame_of (room_elsewhere stored.rooms crosser at lands k one other))
  ]

  others_same : (q : ℕ) → (q ≡ crosser.id → ⊥) → get world.objects q ≡ get (world_of after).objects q
  others_same q apart = elim (get world.objects q) as (λ found. get world.objects q ≡ found → found ≡ get (world_of after).objects q) [
    | Some p ↦ λ some. sym (is_placed after (ids_then stored.rooms crosser at lands ids) q p.room p.object (others_stay stored.rooms crosser at lands p.room q apart ∙ stands stored q p some))
    | None ↦ λ none. elim (get (world_of after).objects q) as (λ found. get (world_of after).objects q ≡ found → None ≡ found) [
      | None ↦ λ same. refl
      | Some p ↦ λ some.
          let both : None ≡ Some p.object = sym (stands_nowhere stored q none p.room) ∙ sym (others_stay stored.rooms crosser at lands p.room q apart) ∙ stands after q p some in
          absurd cc
    ] refl
  ] refl

  found_then : (q : ℕ) → get (insert world.objects crosser.id (with_place lands.creep place)) q ≡ get (world_of after).objects q
  found_then q =
      get-insert nat_cmp_total world.objects crosser.id (with_place lands.creep place) q
      ∙ ap (λ (b : Bool). cond b (Some (with_place lands.creep place)) (get world.objects q)) (unsigned_tied q crosser.id)
      ∙ elim (q == crosser.id) as (λ b. (q == crosser.id) ≡ b → cond b (Some (with_place lands.creep place)) (get world.objects q) ≡ get (world_of after).objects q) [
        | true ↦ λ is.
            let same = eqb-true q crosser.id is in
            sym (is_placed after (ids_then stored.rooms crosser at lands ids) crosser.id at.room (arrived stored.rooms crosser at lands) (it_arrives stored.rooms crosser at lands))
            ∙ ap (λ (n : ℕ). get (world_of after).objects n) (sym same)
        | false ↦ λ is. others_same q (eqb-false q crosser.id is)
      ] refl

  world_then : with_object_on world crosser.id lands.creep place ≡ world_of after
  world_then =
      let rooms = same_map nat_cmp_total nat_cmp-IsAntisymmetric world.rooms (world_of after).rooms (λ k. frame_stored stored k ∙ frames_then k ∙ sym (frame_stored after k)) in
      let objects = same_map nat_cmp_total nat_cmp-IsAntisymmetric (insert world.objects crosser.id (with_place lands.creep place)) (world_of after).objects found_then in
      λ i. record { rules = 1; tick = stored.tick; rooms = rooms i; objects = objects i; accounts = world.accounts }

  pub it_goes : crossed_by (world_of stored) crosser.id (get (world_of stored).objects crosser.id) ≡ world_of (record stored { rooms = rooms_gone stored.rooms crosser at lands })
  it_goes =
      ap (crossed_by world crosser.id) it_stands
      ∙ ap (crossed_to world crosser.id lands.creep) it_lies_beyond
      ∙ ap (λ (b : Bool). if b then with_object_on world crosser.id lands.creep place else world) it_may_enter
      ∙ world_then

-- ---- it stays

module _ (stored : Stored) (crosser : Crosser) (was : Room) (creep : Object) (left : slice_get stored.rooms crosser.room ≡ Some was) (stood : find_object crosser.id was.table.objects ≡ Some creep)
    (ids : AreIdsApart stored.rooms) (tiles : AllByRecursion (λ (room : Room). AllByRecursion IsOnTile room.table.objects) stored.rooms) (rise : HaveRisingTables stored.rooms)
    (nowhere : (at : Landing) → Lands stored.rooms crosser at → ⊥) where
  record Beyond (place : Place) : Type 0 where
    pub named : NamedTile
    pub across : mirrored was.name creep.x creep.y ≡ Some named
    pub room_is : room_named (world_of stored) named.name ≡ Some place.room
    pub x_is : named.x ≡ place.x
    pub y_is : named.y ≡ place.y

  placed_at : (found : NamedTile) (room : Option ℕ) (place : Place) → room_named (world_of stored) found.name ≡ room → mirrored was.name creep.x creep.y ≡ Some found
      → option_map (λ (n : ℕ). let here : Place = record { room = n; x = found.x; y = found.y } in here) room ≡ Some place → Beyond place
  placed_at found None place is across got = absurd cc
  placed_at found (Some n) place is across got =
      let same : ◌≡◌ {A = Place} (record { room = n; x = found.x; y = found.y }) place = cc in
      record { named = found; across = across; room_is = is ∙ ap (λ (p : Place). Some p.room) same; x_is = ap (λ (p : Place). p.x) same; y_is = ap (λ (p : Place). p.y) same }

  beyond_by : (found : Option NamedTile) (place : Place) → mirrored was.name creep.x creep.y ≡ found → option_and_then (place_of (world_of stored)) found ≡ Some place → Beyond place
  beyond_by None place is got = absurd cc
  beyond_by (Some found) place is got = placed_at found (room_named (world_of stored) found.name) place refl is got

  lies_beyond : (place : Place) → beyond (world_of stored) (record { room = crosser.room; object = creep }) ≡ Some place → Beyond place
  lies_beyond place is =
      beyond_by (mirrored was.name creep.x creep.y) place refl
      (sym (ap (λ (found : Option Room). option_and_then (place_of (world_of stored)) (option_and_then (tile_from creep) (frame_of found))) left) ∙ sym (beyond_stored stored crosser.room creep) ∙ is)

  creep_tile : IsOnTile creep
  creep_tile = all_found IsOnTile (λ o. o.id == crosser.id) was.table.objects creep (all_get (λ (room : Room). AllByRecursion IsOnTile room.table.objects) stored.rooms crosser.room was tiles left) stood

  free_there : (place : Place) (other : Room) → slice_get stored.rooms place.room ≡ Some other → is_taken (world_of stored) place ≡ false → first_on place.x place.y Creep other.table.objects ≡ None
  free_there place other is free = elim (first_on place.x place.y Creep other.table.objects) as (λ found. first_on place.x place.y Creep other.table.objects ≡ found → found ≡ None) [
    | None ↦ λ none. refl
    | Some object ↦ λ some.
        let mine = found_by_id _ other.table.objects object (all_get (λ (room : Room). IsRising room.table.objects) stored.rooms place.room other rise is) some in
        let there = is_placed stored ids object.id place.room object (ap (option_and_then (λ (room : Room). find_object object.id room.table.objects)) is ∙ mine) in
        absurd (both_ways (is_taken (world_of stored) place) free (is_taken_by (world_of stored) place object.id (record { room = place.room; object = object }) there refl (first_creep place.x place.y other.table.objects object some)))
  ] refl

  lands_on : (place : Place) → Beyond place → may_enter (world_of stored) place ≡ true → Lands stored.rooms crosser (record { room = place.room; x = place.x; y = place.y })
  lands_on place is may =
      let first = first_room stored is.named.name place.room is.room_is in
      let at : first.place ≡ place.room = omega (arith, first.at) in
      let named : IsRoomNamed is.named.name stored.rooms place.room = subst (λ (n : ℕ). IsRoomNamed is.named.name stored.rooms n) at first.named in
      let other = the_room (λ room. room.name) (slice_get stored.rooms place.room) is.named.name named in
      let parts = and_parts (is_open_in place (get (world_of stored).rooms place.room)) (not (is_taken (world_of stored) place)) may in
      let mirrors = mirrors_from was.name creep.x creep.y is.named creep_tile.column creep_tile.row is.across in
      record {
        was = was;
        other = other.0;
        creep = creep;
        name = is.named.name;
        left = left;
        stood = stood;
        mirrors = (subst (λ (y : ℕ). Mirrors was.name creep.x creep.y is.named.name place.x y) is.y_is (subst (λ (x : ℕ). Mirrors was.name creep.x creep.y is.named.name x is.named.y) is.x_is mirrors));
        named = named;
        least = subst (λ (n : ℕ). (j : ℕ) → j < n → ¬ IsRoomNamed is.named.name stored.rooms j) at first.least;
        entered = other.1;
        passable = sym (ap (is_open_in place) (frame_stored stored place.room ∙ ap frame_of other.1)) ∙ parts.0;
        free = free_there place other.0 other.1 (opposite (is_taken (world_of stored) place) parts.1);
      }
    where
      opposite : (b : Bool) → not b ≡ true → b ≡ false
      opposite true is = absurd cc
      opposite false is = refl

  stays_at : (found : Option Place) → beyond (world_of stored) (record { room = crosser.room; object = creep }) ≡ found → crossed_to (world_of stored) crosser.id creep found ≡ world_of stored
  stays_at None is = refl
  stays_at (Some place) is = elim (may_enter (world_of stored) place) as (λ b. may_enter (world_of stored) place ≡ b → (if b then with_object_on (world_of stored) crosser.id creep place else world_of stored) ≡ world_of stored) [
    | true ↦ λ may. absurd (nowhere (record { room = place.room; x = place.x; y = place.y }) (lands_on place (lies_beyond place is) may))
    | false ↦ λ may. refl
  ] refl

  pub it_stays : crossed_by (world_of stored) crosser.id (get (world_of stored).objects crosser.id) ≡ world_of stored
  it_stays =
      ap (crossed_by (world_of stored) crosser.id) (is_placed stored ids crosser.id crosser.room creep (ap (option_and_then (λ (room : Room). find_object crosser.id room.table.objects)) left ∙ stood))
      ∙ stays_at (beyond (world_of stored) (record { room = crosser.room; object = creep })) refl
