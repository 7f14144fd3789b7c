-- What movement makes of a room in a worked example.
use Rattle.std.proofs.Common.{◌≡◌, ℕ, ◌==◌, T, List, [], ◌∷◌, map, Option, None, Some, refl, ap, ◌∙◌}
use Rattle.std.specs.Ordering.{nat_cmp}
use Rattle.std.specs.Cmp.{nat_cmp_total}
use Rattle.std.specs.List.{filter, find as first_that}
use Rattle.std.specs.FinMap.{find, put, values, from_entries, get-from_entries, is_sorted}
use Rattle.room_table.specs.declared.object.Object.{Object}
use Rattle.world_rules.specs.RoomParts.{RoomPart}
use Rattle.world_rules.specs.Changes.{put as put_object, with_object}
use Rattle.world_rules.specs.Steps.{by_object, over_ids, over_objects}
use Rattle.world_rules.specs.Movement.{Mover, has_mover, movers, stepped, worn_as, moved_by}
use Rattle.world_rules.specs.FrameExamples.{by_id, mover, walker, tired, tired_by, road_on}
use Rattle.world_rules.proofs.Keys.{entries_of_sorted}
use Rattle.world_rules.proofs.Listed.{insert_listed}
use Rattle.world_rules.proofs.framed.movement_examples.Goals as goal

-- a room of these entries
abbrev room : List (ℕ × Object) → RoomPart
room es = record { rules = 1; index = 0; grounds = []; next = 9; objects = from_entries es }

-- the entries with an object in the place of another
abbrev put_at : Object → Option Object → List (ℕ × Object) → List (ℕ × Object)
put_at object None es = es
put_at object (Some old) es = put nat_cmp object.id object es

-- ---- a step in which each object changes by itself

module _ (change : Object → Object) where
  abbrev step : Object → RoomPart → RoomPart
  step object part = with_object (change object) part

  abbrev changed_at : Option Object → List (ℕ × Object) → List (ℕ × Object)
  changed_at None es = es
  changed_at (Some object) es = put_at (change object) (find nat_cmp (change object).id es) es

  abbrev changed : List ℕ → List (ℕ × Object) → List (ℕ × Object)
  changed [] es = es
  changed (id ∷ later) es = changed later (changed_at (find nat_cmp id es) es)

  put_is : (object : Object) (found : Option Object) (es : List (ℕ × Object)) → put_object object (room es) found ≡ room (put_at object found es)
  put_is object None es = refl
  put_is object (Some old) es = λ i. record (room es) { objects = insert_listed es object.id object i }

  one_is : (found : Option Object) (es : List (ℕ × Object)) → by_object step (room es) found ≡ room (changed_at found es)
  one_is None es = refl
  one_is (Some object) es =
      ap (put_object (change object) (room es)) (get-from_entries nat_cmp_total es (change object).id)
      ∙ put_is (change object) (find nat_cmp (change object).id es) es

  ids_are : (ids : List ℕ) (es : List (ℕ × Object)) → over_ids step ids (room es) ≡ room (changed ids es)
  ids_are [] es = refl
  ids_are (id ∷ later) es =
      ap (λ found. over_ids step later (by_object step (room es) found)) (get-from_entries nat_cmp_total es id)
      ∙ ap (over_ids step later) (one_is (find nat_cmp id es) es)
      ∙ ids_are later (changed_at (find nat_cmp id es) es)

  over_is : (es : List (ℕ × Object)) → T (is_sorted nat_cmp es) → over_objects step (room es) ≡ room (changed (map (λ e. e.0) es) es)
  over_is es rise =
      ap (λ (list : List (ℕ × Object)). over_ids step (map (λ e. e.0) list) (room es)) (entries_of_sorted es rise)
      ∙ ids_are (map (λ e. e.0) es) es

-- ---- movement

module _ (list : List Mover) where
  abbrev step_in : List Mover → Object → Object
  step_in set object = stepped tired_by object (first_that (λ one. one.creep == object.id) set)

  abbrev wear_in : List Mover → List Object → Object → Object
  wear_in set objects object = worn_as object.kind (filter (λ creep. has_mover set creep.id) objects) object

  abbrev worn : List Mover → RoomPart → RoomPart
  worn set part = over_objects (step (wear_in set (values part.objects))) part

  abbrev set_of : List (ℕ × Object) → List Mover
  set_of es = movers (map (λ e. e.1) es) list

  moved_is : (es after : List (ℕ × Object)) → T (is_sorted nat_cmp es) → T (is_sorted nat_cmp after) → changed (step_in (set_of es)) (map (λ e. e.0) es) es ≡ after
      → moved_by tired_by list (room es) ≡ room (changed (wear_in (set_of es) (map (λ e. e.1) after)) (map (λ e. e.0) after) after)
  moved_is es after rise also is =
      (λ i. worn (set_of (entries_of_sorted es rise i)) (over_objects (step (step_in (set_of (entries_of_sorted es rise i)))) (room es)))
      ∙ ap (worn (set_of es)) (over_is (step_in (set_of es)) es rise ∙ ap room is)
      ∙ (λ i. over_objects (step (wear_in (set_of es) (map (λ e. e.1) (entries_of_sorted after also i)))) (room after))
      ∙ over_is (wear_in (set_of es) (map (λ e. e.1) after)) after also

pub returns : goal.returns
returns c =
    let es : List (ℕ × Object) = by_id (walker 1 3 5 5 ∷ walker 2 2 6 5 ∷ walker 3 4 8 8 ∷ road_on 4 100 6 5 ∷ road_on 5 2 5 5 ∷ road_on 6 100 8 8 ∷ road_on 7 100 9 9 ∷ []) in
    let after : List (ℕ × Object) = by_id (tired (walker 1 3 6 5) ∷ tired (walker 2 2 5 5) ∷ walker 3 4 8 8 ∷ road_on 4 100 6 5 ∷ road_on 5 2 5 5 ∷ road_on 6 100 8 8 ∷ road_on 7 100 9 9 ∷ []) in
    moved_is (mover 1 6 5 ∷ mover 2 5 5 ∷ []) es after tt tt refl
