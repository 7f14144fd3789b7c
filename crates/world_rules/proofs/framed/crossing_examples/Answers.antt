-- Where creeps go that moved onto border tiles in worked examples.
use Rattle.std.proofs.Common.{◌≡◌, ℕ, ◌==◌, ◌&&◌, not, if◌then◌else◌, Bool, true, false, T, List, [], ◌∷◌, map, Option, Some, None, option_map, option_and_then, refl, ap, ◌∙◌}
use Rattle.std.specs.Ordering.{nat_cmp}
use Rattle.std.specs.Cmp.{nat_cmp_total}
use Rattle.std.specs.List.{filter, find as first_that, list_any}
use Rattle.std.specs.FinMap.{find, put, get-from_entries, is_sorted}
use Rattle.room_terrain.specs.declared.terrain.Ground.TheVariants.{Plain, Swamp, Wall}
use Rattle.room_table.specs.declared.object.Object.{Object}
use Rattle.world_rules.specs.World.{Placed, Frame}
use Rattle.game_tables.specs.Kinds.{is_creep}
use Rattle.world_rules.specs.Crossings.{Place, NamedTile, mirrored, same_name, place_of, beyond, is_open_in, may_enter, with_place, with_object_on, crossed_to, crossed_by, crossed_over, is_crosser, rested, all_rested, crossed}
use Rattle.world_rules.specs.FrameExamples.{west_room, both_rooms, world_with, moved_to, resting_at, container_at}
use Rattle.world_rules.proofs.Keys.{entries_of_sorted}
use Rattle.world_rules.proofs.Listed.{insert_listed}
use Rattle.world_rules.proofs.framed.crossing_examples.Goals as goal

-- A creep of the list stands on the place.
abbrev taken_in : List (ℕ × Placed) → Place → Bool
taken_in es place =
    let stands : Placed → Bool = λ placed. (placed.room == place.room) && is_creep placed.object.kind && (placed.object.x == place.x) && (placed.object.y == place.y) in
    list_any stands (map (λ e. e.1) es)

module _ (rooms : List (ℕ × Frame)) (sorted : T (is_sorted nat_cmp rooms)) where
  -- the place of a named tile, and the one beyond the tile of an object
  abbrev place_in : NamedTile → Option Place
  place_in found =
      option_map (λ room. record { room = room; x = found.x; y = found.y }) (option_map (λ entry. entry.0) (first_that (λ entry. same_name entry.1.name found.name) rooms))

  abbrev beyond_in : Placed → Option Place
  beyond_in placed =
      option_and_then place_in (option_and_then (λ frame. mirrored frame.name placed.object.x placed.object.y) (find nat_cmp placed.room rooms))

  place_is : (es : List (ℕ × Placed)) (found : NamedTile) → place_of (world_with rooms es) found ≡ place_in found
  place_is es found = λ i. option_map (λ room. record { room = room; x = found.x; y = found.y }) (option_map (λ entry. entry.0) (first_that (λ (entry : ℕ × Frame). same_name entry.1.name found.name) (entries_of_sorted rooms sorted i)))

  beyond_is : (es : List (ℕ × Placed)) (placed : Placed) → beyond (world_with rooms es) placed ≡ beyond_in placed
  beyond_is es placed = λ i. option_and_then (λ found. place_is es found i) (option_and_then (λ frame. mirrored frame.name placed.object.x placed.object.y) (get-from_entries nat_cmp_total rooms placed.room i))

  abbrev enters : List (ℕ × Placed) → Place → Bool
  enters es place = is_open_in place (find nat_cmp place.room rooms) && not (taken_in es place)

  -- the list after an object goes to a place, where there is one that it may enter
  abbrev gone_to : List (ℕ × Placed) → ℕ → Object → Option Place → List (ℕ × Placed)
  gone_to es id object None = es
  gone_to es id object (Some place) = if enters es place then put nat_cmp id (with_place object place) es else es

  abbrev gone_by : List (ℕ × Placed) → ℕ → Option Placed → List (ℕ × Placed)
  gone_by es id None = es
  gone_by es id (Some placed) = gone_to es id placed.object (beyond_in placed)

  may_enter_is : (es : List (ℕ × Placed)) (place : Place) → T (is_sorted nat_cmp es) → may_enter (world_with rooms es) place ≡ enters es place
  may_enter_is es place rise = λ i. is_open_in place (get-from_entries nat_cmp_total rooms place.room i) && not (taken_in (entries_of_sorted es rise i) place)

  to_is : (es : List (ℕ × Placed)) (id : ℕ) (object : Object) (place : Option Place) → T (is_sorted nat_cmp es) → crossed_to (world_with rooms es) id object place ≡ world_with rooms (gone_to es id object place)
  to_is es id object None rise = refl
  to_is es id object (Some place) rise =
      ap (λ (b : Bool). if b then with_object_on (world_with rooms es) id object place else world_with rooms es) (may_enter_is es place rise)
      ∙ elim (enters es place) as (λ b. (if b then with_object_on (world_with rooms es) id object place else world_with rooms es) ≡ world_with rooms (if b then put nat_cmp id (with_place object place) es else es)) [
        | true ↦ λ i. record (world_with rooms es) { objects = insert_listed es id (with_place object place) i }
        | false ↦ refl
      ]

  by_is : (es : List (ℕ × Placed)) (id : ℕ) (found : Option Placed) → T (is_sorted nat_cmp es) → crossed_by (world_with rooms es) id found ≡ world_with rooms (gone_by es id found)
  by_is es id None rise = refl
  by_is es id (Some placed) rise = ap (crossed_to (world_with rooms es) id placed.object) (beyond_is es placed) ∙ to_is es id placed.object (beyond_in placed) rise

  -- the turn of an id
  turn : (es : List (ℕ × Placed)) (id : ℕ) (later : List ℕ) → T (is_sorted nat_cmp es) → crossed_over (id ∷ later) (world_with rooms es) ≡ crossed_over later (world_with rooms (gone_by es id (find nat_cmp id es)))
  turn es id later rise =
      ap (λ found. crossed_over later (crossed_by (world_with rooms es) id found)) (get-from_entries nat_cmp_total es id)
      ∙ ap (crossed_over later) (by_is es id (find nat_cmp id es) rise)

  -- then all rest
  rest_is : (es : List (ℕ × Placed)) → T (is_sorted nat_cmp es) → all_rested (world_with rooms es) ≡ world_with rooms (map (λ e. (e.0, rested e.1)) es)
  rest_is es rise = λ i. world_with rooms (map (λ (e : ℕ × Placed). (e.0, rested e.1)) (entries_of_sorted es rise i))

  abbrev crossers_in : List (ℕ × Placed) → List ℕ
  crossers_in es = map (λ e. e.0) (filter (λ e. is_crosser e.1.object) es)

  crossed_is : (es : List (ℕ × Placed)) → T (is_sorted nat_cmp es) → crossed (world_with rooms es) ≡ all_rested (crossed_over (crossers_in es) (world_with rooms es))
  crossed_is es rise = ap (λ (list : List (ℕ × Placed)). all_rested (crossed_over (crossers_in list) (world_with rooms es))) (entries_of_sorted es rise)

  -- worlds of no crosser, of one, and of two
  of_none : (es : List (ℕ × Placed)) → T (is_sorted nat_cmp es) → crossers_in es ≡ [] → crossed (world_with rooms es) ≡ world_with rooms (map (λ e. (e.0, rested e.1)) es)
  of_none es rise none = crossed_is es rise ∙ ap (λ ids. all_rested (crossed_over ids (world_with rooms es))) none ∙ rest_is es rise

  of_one : (es after : List (ℕ × Placed)) (id : ℕ) → T (is_sorted nat_cmp es) → T (is_sorted nat_cmp after) → crossers_in es ≡ id ∷ [] → gone_by es id (find nat_cmp id es) ≡ after → crossed (world_with rooms es) ≡ world_with rooms (map (λ e. (e.0, rested e.1)) after)
  of_one es after id rise also one is =
      crossed_is es rise
      ∙ ap (λ ids. all_rested (crossed_over ids (world_with rooms es))) one
      ∙ ap all_rested (turn es id [] rise ∙ ap (world_with rooms) is)
      ∙ rest_is after also

  of_two : (es next after : List (ℕ × Placed)) (id other : ℕ) → T (is_sorted nat_cmp es) → T (is_sorted nat_cmp next) → T (is_sorted nat_cmp after) → crossers_in es ≡ id ∷ other ∷ []
      → gone_by es id (find nat_cmp id es) ≡ next → gone_by next other (find nat_cmp other next) ≡ after
      → crossed (world_with rooms es) ≡ world_with rooms (map (λ e. (e.0, rested e.1)) after)
  of_two es next after id other rise also last two is then_is =
      crossed_is es rise
      ∙ ap (λ ids. all_rested (crossed_over ids (world_with rooms es))) two
      ∙ ap all_rested (turn es id (other ∷ []) rise ∙ ap (λ list. crossed_over (other ∷ []) (world_with rooms list)) is ∙ turn next other [] also ∙ ap (world_with rooms) then_is)
      ∙ rest_is after last

-- ---- the examples

pub returns-clause-goes : goal.returns-clause-goes
returns-clause-goes c = of_one (both_rooms Plain) tt (moved_to 1 0 49 10 ∷ []) (moved_to 1 1 0 10 ∷ []) 1 tt tt refl refl

pub returns-clause-rests : goal.returns-clause-rests
returns-clause-rests c = of_none (both_rooms Plain) tt (resting_at 1 0 49 10 ∷ []) tt refl

pub returns-clause-inside : goal.returns-clause-inside
returns-clause-inside c = of_none (both_rooms Plain) tt (moved_to 1 0 48 10 ∷ []) tt refl

pub returns-clause-faced : goal.returns-clause-faced
returns-clause-faced c =
    let es : List (ℕ × Placed) = moved_to 1 0 49 10 ∷ resting_at 2 1 0 10 ∷ [] in
    of_one (both_rooms Plain) tt es es 1 tt tt refl refl

pub returns-clause-both : goal.returns-clause-both
returns-clause-both c =
    let es : List (ℕ × Placed) = moved_to 1 0 49 10 ∷ moved_to 2 1 0 10 ∷ [] in
    of_two (both_rooms Plain) tt es es es 1 2 tt tt tt refl refl refl

pub returns-clause-walled : goal.returns-clause-walled
returns-clause-walled c = of_one (both_rooms Wall) tt (moved_to 1 0 49 10 ∷ []) (moved_to 1 0 49 10 ∷ []) 1 tt tt refl refl

pub returns-clause-outside : goal.returns-clause-outside
returns-clause-outside c = of_one west_room tt (moved_to 1 0 49 10 ∷ []) (moved_to 1 0 49 10 ∷ []) 1 tt tt refl refl

pub returns-clause-swamp : goal.returns-clause-swamp
returns-clause-swamp c = of_one (both_rooms Swamp) tt (moved_to 1 0 49 10 ∷ []) (moved_to 1 1 0 10 ∷ []) 1 tt tt refl refl

pub returns-clause-container : goal.returns-clause-container
returns-clause-container c =
    let before : List (ℕ × Placed) = moved_to 1 0 49 10 ∷ container_at 2 1 0 10 ∷ [] in
    let after : List (ℕ × Placed) = moved_to 1 1 0 10 ∷ container_at 2 1 0 10 ∷ [] in
    of_one (both_rooms Plain) tt before after 1 tt tt refl refl

pub returns-clause-west : goal.returns-clause-west
returns-clause-west c = of_one (both_rooms Plain) tt (moved_to 1 1 0 10 ∷ []) (moved_to 1 0 49 10 ∷ []) 1 tt tt refl refl

pub returns-clause-corner : goal.returns-clause-corner
returns-clause-corner c = of_one (both_rooms Plain) tt (moved_to 1 0 49 49 ∷ []) (moved_to 1 0 49 49 ∷ []) 1 tt tt refl refl
