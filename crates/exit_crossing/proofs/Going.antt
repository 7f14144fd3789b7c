-- The rooms once a creep went to a tile of another.
use Rattle.std.proofs.Common.{◌≡◌, ℕ, ◌==◌, Bool, true, false, cond, List, Option, Some, None, refl, sym, ap, ◌∙◌, option_and_then, slice_get}
use Rattle.std.specs.List.{AllByRecursion}
use Rattle.std.specs.Ordering.{nat_cmp, eq_by_cmp}
use Rattle.std.specs.Cmp.{unsigned_tied}
use Rattle.std.proofs.lemmas.Bool.{eq-eqb, eqb-true, eqb-false, ne_eqb}
use Rattle.room_table.specs.declared.object.Object.{Object}
use Rattle.object_store.specs.declared.world.Room.{Room}
use Rattle.object_store.specs.Stored.{HaveRisingTables}
use Rattle.room_table.specs.Tables.{IsRising, IsOnTile, find_object, HasId}
use Rattle.world_rules.proofs.TableParts.{tiles_new, tiles_filter}
use Rattle.room_rules.specs.Crossed.{left_by, entered_by}
use Rattle.exit_crossing.specs.Crossing.{AreIdsApart}
use Rattle.exit_crossing.specs.declared.leaving.Crosser.{Crosser}
use Rattle.exit_crossing.specs.declared.crossing.Landing.{Landing}
use Rattle.exit_crossing.specs.inner.Landings.{Lands, rooms_left, rooms_gone}
use Rattle.exit_crossing.proofs.Rooms.{get_set_same, get_set_other, all_set, all_get, rising_new, rising_without, found_new, found_without}
use Rattle.exit_crossing.proofs.Gone.{rooms_apart, other_stays, id_of_creep, on_tile}
use Rattle.exit_crossing.proofs.Found.{object_at}

-- one of the two, or neither
pub data Which (k from to : ℕ) : Type 0 where
  at_from : k ≡ from → Which k from to
  at_to : k ≡ to → Which k from to
  at_other : (k ≡ from → ⊥) → (k ≡ to → ⊥) → Which k from to

pub which : (k from to : ℕ) → Which k from to
which k from to = elim (k == from) as (λ b. (k == from) ≡ b → Which k from to) [
  | true ↦ λ is. at_from (eqb-true k from is)
  | false ↦ λ apart. elim (k == to) as (λ b. (k == to) ≡ b → Which k from to) [
    | true ↦ λ is. at_to (eqb-true k to is)
    | false ↦ λ other. at_other (eqb-false k from apart) (eqb-false k to other)
  ] refl
] refl

module _ (rooms : List Room) (crosser : Crosser) (at : Landing) (lands : Lands rooms crosser at) where
  abbrev pub gone : List Room
  gone = rooms_gone rooms crosser at lands

  -- the creep on its new tile
  abbrev pub arrived : Object
  arrived = record lands.creep { x = at.x; y = at.y }

  abbrev pub was_then : Room
  was_then = left_by crosser.id lands.was

  abbrev pub other_then : Room
  other_then = entered_by arrived lands.other

  pub room_there : slice_get gone at.room ≡ Some other_then
  room_there = get_set_same (rooms_left rooms crosser.room crosser.id lands.was) at.room lands.other other_then (other_stays rooms crosser at lands)

  pub room_here : slice_get gone crosser.room ≡ Some was_then
  room_here =
      get_set_other (rooms_left rooms crosser.room crosser.id lands.was) at.room crosser.room other_then (λ same. rooms_apart rooms crosser at lands (sym same))
      ∙ get_set_same rooms crosser.room lands.was was_then lands.left

  pub room_elsewhere : (k : ℕ) → (k ≡ crosser.room → ⊥) → (k ≡ at.room → ⊥) → slice_get gone k ≡ slice_get rooms k
  room_elsewhere k apart other =
      get_set_other (rooms_left rooms crosser.room crosser.id lands.was) at.room k other_then other
      ∙ get_set_other rooms crosser.room k was_then apart

  -- ---- what stands there

  abbrev inside : ℕ → Option Room → Option Object
  inside q found = option_and_then (λ (room : Room). find_object q room.table.objects) found

  other_id : (q : ℕ) → (q ≡ crosser.id → ⊥) → eq_by_cmp nat_cmp q lands.creep.id ≡ false
  other_id q apart = unsigned_tied q lands.creep.id ∙ ne_eqb q lands.creep.id (λ same. apart (same ∙ id_of_creep rooms crosser at lands))

  -- other objects stand where they stood
  pub others_stay : (k q : ℕ) → (q ≡ crosser.id → ⊥) → object_at gone k q ≡ object_at rooms k q
  others_stay k q apart = elim (which k crosser.room at.room) [
    | at_from is ↦
        ap (λ (n : ℕ). object_at gone n q) is ∙ ap (inside q) room_here
        ∙ found_without crosser.id lands.was.table.objects q
        ∙ ap (λ (b : Bool). cond b None (find_object q lands.was.table.objects)) (unsigned_tied q crosser.id ∙ ne_eqb q crosser.id apart)
        ∙ sym (ap (inside q) lands.left) ∙ ap (λ (n : ℕ). object_at rooms n q) (sym is)
    | at_to is ↦
        ap (λ (n : ℕ). object_at gone n q) is ∙ ap (inside q) room_there
        ∙ found_new arrived lands.other.table.objects q
        ∙ ap (λ (b : Bool). cond b (Some arrived) (find_object q lands.other.table.objects)) (other_id q apart)
        ∙ sym (ap (inside q) lands.entered) ∙ ap (λ (n : ℕ). object_at rooms n q) (sym is)
    | at_other one other ↦ ap (inside q) (room_elsewhere k one other)
  ]

  -- the creep stands there
  pub it_arrives : object_at gone at.room crosser.id ≡ Some arrived
  it_arrives =
      ap (inside crosser.id) room_there
      ∙ found_new arrived lands.other.table.objects crosser.id
      ∙ ap (λ (b : Bool). cond b (Some arrived) (find_object crosser.id lands.other.table.objects)) (unsigned_tied crosser.id lands.creep.id ∙ eq-eqb crosser.id lands.creep.id (sym (id_of_creep rooms crosser at lands)))

  stood_at : object_at rooms crosser.room crosser.id ≡ Some lands.creep
  stood_at = ap (inside crosser.id) lands.left ∙ lands.stood

  module _ (ids : AreIdsApart rooms) where
    held_in : (k id : ℕ) (object : Object) (found : Option Room) → slice_get rooms k ≡ found → inside id found ≡ Some object → (room : Room) × (slice_get rooms k ≡ Some room) × HasId id room.table.objects
    held_in k id object None is holds = absurd cc
    held_in k id object (Some room) is holds = (room, is, (object, holds))

    one_place : (k j id : ℕ) (one other : Object) → object_at rooms k id ≡ Some one → object_at rooms j id ≡ Some other → k ≡ j
    one_place k j id one other here there =
        let first = held_in k id one (slice_get rooms k) refl here in
        let second = held_in j id other (slice_get rooms j) refl there in
        ids k j id first.0 second.0 first.1 second.1 first.2 second.2

    -- and nowhere else
    pub only_there : (k : ℕ) (object : Object) → object_at gone k crosser.id ≡ Some object → k ≡ at.room
    only_there k object is = elim (which k crosser.room at.room) [
      | at_from here ↦ (
          let none : object_at gone k crosser.id ≡ None =
          ap (λ (n : ℕ). object_at gone n crosser.id) here ∙ ap (inside crosser.id) room_here
          ∙ found_without crosser.id lands.was.table.objects crosser.id
          ∙ ap (λ (b : Bool). cond b None (find_object crosser.id lands.was.table.objects)) (unsigned_tied crosser.id crosser.id ∙ eq-eqb crosser.id crosser.id refl) in
          absurd (cc)
          )
      | at_to there ↦ there
      | at_other one other ↦ absurd (one (one_place k crosser.room crosser.id object lands.creep (sym (ap (inside crosser.id) (room_elsewhere k one other)) ∙ is) stood_at))
    ]

    object_in : (k id : ℕ) (room : Room) (object : Object) → slice_get gone k ≡ Some room → find_object id room.table.objects ≡ Some object → object_at gone k id ≡ Some object
    object_in k id room object is found = ap (inside id) is ∙ found

    pub ids_then : AreIdsApart gone
    ids_then one other id first second here there has had =
        let left = object_in one id first has.0 here has.1 in
        let right = object_in other id second had.0 there had.1 in
        elim (id == crosser.id) as (λ b. (id == crosser.id) ≡ b → one ≡ other) [
          | true ↦ λ is.
              let same = eqb-true id crosser.id is in
              only_there one has.0 (ap (object_at gone one) (sym same) ∙ left)
              ∙ sym (only_there other had.0 (ap (object_at gone other) (sym same) ∙ right))
          | false ↦ λ is.
              let apart = eqb-false id crosser.id is in
              one_place one other id has.0 had.0 (sym (others_stay one id apart) ∙ left) (sym (others_stay other id apart) ∙ right)
        ] refl

  -- ---- what tables keep

  pub rising_then : HaveRisingTables rooms → HaveRisingTables gone
  rising_then rise =
      all_set (λ (room : Room). IsRising room.table.objects) (rooms_left rooms crosser.room crosser.id lands.was) at.room other_then
      (all_set (λ (room : Room). IsRising room.table.objects) rooms crosser.room was_then rise (rising_without crosser.id lands.was.table.objects (all_get (λ (room : Room). IsRising room.table.objects) rooms crosser.room lands.was rise lands.left)))
      (rising_new arrived lands.other.table.objects (all_get (λ (room : Room). IsRising room.table.objects) rooms at.room lands.other rise lands.entered))

  pub tiles_then : AllByRecursion (λ (room : Room). AllByRecursion IsOnTile room.table.objects) rooms → AllByRecursion (λ (room : Room). AllByRecursion IsOnTile room.table.objects) gone
  tiles_then tiles =
      all_set (λ (room : Room). AllByRecursion IsOnTile room.table.objects) (rooms_left rooms crosser.room crosser.id lands.was) at.room other_then
      (all_set (λ (room : Room). AllByRecursion IsOnTile room.table.objects) rooms crosser.room was_then tiles (tiles_filter _ lands.was.table.objects (all_get (λ (room : Room). AllByRecursion IsOnTile room.table.objects) rooms crosser.room lands.was tiles lands.left)))
      (tiles_new arrived lands.other.table.objects (on_tile rooms crosser at lands) (all_get (λ (room : Room). AllByRecursion IsOnTile room.table.objects) rooms at.room lands.other tiles lands.entered))
