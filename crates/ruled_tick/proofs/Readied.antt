-- Rooms before crossings, and what they come to with them.
use Rattle.std.proofs.Common.{◌≡◌, ◌≢◌, Bool, ℕ, suc, ◌+◌, ◌≤◌, List, [], ◌∷◌, ◌++◌, length, map, get_or, Some, option_map, slice_get, if◌then◌else◌, true, false, refl, sym, ap, ◌∙◌, arith}
use Rattle.std.specs.List.{AllByRecursion, AllPairs}
use Rattle.std.specs.Ordering.{nat_cmp}
use Rattle.std.specs.Cmp.{nat_cmp_total}
use Rattle.std.specs.FinMap.{find, from_entries, get-from_entries, same_map, nat_cmp-IsAntisymmetric}
use Rattle.std.proofs.lemmas.List.{length-map}
use Rattle.std.proofs.lemmas.Option.{slice_get-get_or, slice_get-map, slice_get_within, get_or_from_slice_get}
use Rattle.intent_book.specs.declared.intent.Intent.{Intent}
use Rattle.room_table.specs.declared.object.Object.{Object}
use Rattle.object_store.specs.declared.world.Room.{Room}
use Rattle.room_table.specs.Tables.{IsOnTile}
use Rattle.object_store.specs.Stored.{Stored}
use Rattle.game_tables.specs.Kinds.{is_creep}
use Rattle.world_rules.specs.World.{Placed, Frame, World, framed_from, listed_room, placed_from, world_of}
use Rattle.world_rules.specs.Crossings.{all_rested, crossed, crossed_over, crossers, rested, still}
use Rattle.world_rules.specs.Tick.{book, inner}
use Rattle.world_rules.specs.Sound.{IsSound}
use Rattle.world_rules.specs.declared.rule.Rule.TheVariants.{RoomTwice}
use Rattle.world_rules.proofs.Keys.{find_mapped}
use Rattle.world_rules.proofs.Lifting.{frame_stored}
use Rattle.room_rules.specs.Followed.{FollowsRoom, FollowRooms}
use Rattle.room_rules.specs.Within.{between}
use Rattle.room_rules.proofs.Followed.{came, followed_once}
use Rattle.room_commutes.proofs.Rested.{all_rested_get, rested_first}
use Rattle.exit_crossing.specs.declared.leaving.Crosser.{Crosser}
use Rattle.exit_crossing.specs.Crossing.{AreForgotten, AreCrossers, AreIdsApart, IsReadyToCross, most_arrivals, rested_room}
use Rattle.ruled_tick.specs.inner.Ticked.{IsRuledRooms}
use Rattle.world_rules.proofs.Lifting.{AreIdsOnce}
use Rattle.ruled_tick.proofs.Rested.{ids_apart, once_before_rest, rested_tiles}

-- ---- a stored world at rest

still_id : (object : Object) → (still object).id ≡ object.id
still_id object = elim (is_creep object.kind) as (λ b. (if b then record object { other_ticks = 0 } else object).id ≡ object.id) [ true ↦ refl | false ↦ refl ]

abbrev rest : ℕ × Placed → ℕ × Placed
rest entry = (entry.0, rested entry.1)

rest_objects : (index : ℕ) (objects : List Object) (more : List (ℕ × Placed)) (less : List (ℕ × Placed)) → more ≡ map rest less
    → map (λ (o : Object). (o.id, record { room = index; object = o })) (map still objects) ++ more ≡ map rest (map (λ (o : Object). (o.id, record { room = index; object = o })) objects ++ less)
rest_objects index [] more less same = same
rest_objects index (object ∷ objects) more less same =
    let later = rest_objects index objects more less same in
    λ i. (still_id object i, record { room = index; object = still object }) ∷ later i

rest_placed : (index : ℕ) (rooms : List Room) → placed_from index (map listed_room (map rested_room rooms)) ≡ map rest (placed_from index (map listed_room rooms))
rest_placed index [] = refl
rest_placed index (room ∷ rooms) =
    rest_objects index room.table.objects (placed_from (suc index) (map listed_room (map rested_room rooms))) (placed_from (suc index) (map listed_room rooms)) (rest_placed (suc index) rooms)

rest_frames : (index : ℕ) (rooms : List Room) → framed_from index (map listed_room (map rested_room rooms)) ≡ framed_from index (map listed_room rooms)
rest_frames index [] = refl
rest_frames index (room ∷ rooms) = ap (λ (more : List (ℕ × Frame)). (index, (listed_room room).frame) ∷ more) (rest_frames (suc index) rooms)

pub rested_world : (w : Stored) (rooms : List Room) → world_of (record w { rooms = map rested_room rooms }) ≡ all_rested (world_of (record w { rooms = rooms }))
rested_world w rooms =
    let before : World = world_of (record w { rooms = rooms }) in
    let later : World = world_of (record w { rooms = map rested_room rooms }) in
    let objects = same_map nat_cmp_total nat_cmp-IsAntisymmetric later.objects (all_rested before).objects (λ id.
    get-from_entries nat_cmp_total (placed_from 0 (map listed_room (map rested_room rooms))) id
    ∙ ap (find nat_cmp id) (rest_placed 0 rooms)
    ∙ find_mapped rested id (placed_from 0 (map listed_room rooms))
    ∙ ap (option_map rested) (sym (get-from_entries nat_cmp_total (placed_from 0 (map listed_room rooms)) id))
    ∙ sym (all_rested_get before id)) in
    λ i. record { rules = 1; tick = w.tick; rooms = from_entries (rest_frames 0 rooms i); objects = objects i; accounts = before.accounts }

-- ---- ready for crossings

pub all_of_places : (P : Room → Type 0) (rooms : List Room) → ((k : ℕ) (room : Room) → slice_get rooms k ≡ Some room → P room) → AllByRecursion P rooms
all_of_places P [] each = tt
all_of_places P (room ∷ rooms) each = (each 0 room refl, all_of_places P rooms (λ k mate at. each (suc k) mate at))

all_rest_tiles : (rooms : List Room) → AllByRecursion (λ room. AllByRecursion IsOnTile room.table.objects) rooms → AllByRecursion (λ room. AllByRecursion IsOnTile room.table.objects) (map rested_room rooms)
all_rest_tiles [] all = tt
all_rest_tiles (room ∷ rooms) all = (rested_tiles room.table.objects all.0, all_rest_tiles rooms all.1)

sound_names : (w : Stored) → IsSound w → AllPairs (λ one other. one.name ≢ other.name) w.rooms
sound_names w sound = λ i j d less inside same.
    let first : Room = get_or w.rooms i d in
    let second : Room = get_or w.rooms j d in
    let at = slice_get-get_or w.rooms i d (omega (arith, less, inside)) in
    let there = slice_get-get_or w.rooms j d inside in
    sound.rules RoomTwice j (λ e. cc) (λ e. cc) (
      i,
      (listed_room first).frame,
      (listed_room second).frame,
      less,
      frame_stored w i ∙ ap (option_map (λ (room : Room). (listed_room room).frame)) at,
      frame_stored w j ∙ ap (option_map (λ (room : Room). (listed_room room).frame)) there,
      same,
    )

rested_spare : (rooms : List Room) → AllByRecursion (λ room. most_arrivals ≤ room.table.spare) rooms → AllByRecursion (λ room. most_arrivals ≤ room.table.spare) (map rested_room rooms)
rested_spare [] all = tt
rested_spare (room ∷ rooms) all = (all.0, rested_spare rooms all.1)

-- ---- rooms before crossings

-- Rooms in which creeps still keep whether they moved, that follow those of a sound world once they are at rest.
-- What comes to rest tells no more than before.
rested_forgotten : (rooms : List Room) → AreForgotten rooms → AreForgotten (map rested_room rooms)
rested_forgotten [] forgotten = tt
rested_forgotten (room ∷ rooms) forgotten = (forgotten.0, rested_forgotten rooms forgotten.1)

module _ (stored : Stored) (begins : IsSound stored) (players : ℕ → Bool) (left : List Room) (follow : FollowRooms players between stored (record stored { rooms = map rested_room left }))
    (tiles : AllByRecursion (λ room. AllByRecursion IsOnTile room.table.objects) left) (spare : AllByRecursion (λ room. most_arrivals ≤ room.table.spare) left) where
  abbrev last : Stored
  last = record stored { rooms = map rested_room left }

  -- the room of the world before from which one of these came
  rested_from : (k : ℕ) (room : Room) → slice_get (map rested_room left) k ≡ Some room → (was : Room) × (slice_get stored.rooms k ≡ Some was) × FollowsRoom players between was room
  rested_from k room at = let found = came stored last begins between players follow k room at in (found.0, found.1, found.2)

  rested_places : (k : ℕ) (room : Room) → slice_get (map rested_room left) k ≡ Some room → room.table.index ≡ k
  rested_places k room at = let found = rested_from k room at in found.2.index ∙ begins.places k found.0 found.1

  rested_names : AllPairs (λ one other. one.name ≢ other.name) (map rested_room left)
  rested_names = λ i j d less inside same.
      let at = slice_get-get_or (map rested_room left) i d (omega (arith, less, inside)) in
      let there = slice_get-get_or (map rested_room left) j d inside in
      let first = rested_from i (get_or (map rested_room left) i d) at in
      let second = rested_from j (get_or (map rested_room left) j d) there in
      let within_stored = slice_get_within stored.rooms j second.0 second.1 in
      sound_names stored begins i j d less within_stored
      (ap (λ (room : Room). room.name) (get_or_from_slice_get stored.rooms i first.0 d first.1) ∙ sym first.2.name ∙ same ∙ second.2.name ∙ sym (ap (λ (room : Room). room.name) (get_or_from_slice_get stored.rooms j second.0 d second.1)))

  once_last : AreIdsOnce (map rested_room left)
  once_last = followed_once stored last begins between players follow

  pub once_left : AreIdsOnce left
  once_left = once_before_rest left once_last

  pub ready : IsReadyToCross (map rested_room left)
  ready = record {
    places = rested_places;
    spare = rested_spare left spare;
    tiles = all_rest_tiles left tiles;
    names = rested_names;
    ids = ids_apart (map rested_room left) once_last;
  }

  -- what the crossers are found in
  pub left_places : (k : ℕ) (room : Room) → slice_get left k ≡ Some room → room.table.index ≡ k
  left_places k room at = rested_places k (rested_room room) (slice_get-map rested_room left k ∙ ap (option_map rested_room) at)

  pub left_ids : AreIdsApart left
  left_ids = ids_apart left once_left

  -- Where they are what happens inside the rooms, by intents that are told, they are the tick of the rooms with these to cross.
  module _ (Tells : List Intent → Type 0) (sound : IsSound last) (forgotten : AreForgotten left) (many : length left ≡ length stored.rooms)
      (inside : (intents : List Intent) → Tells intents → world_of (record stored { rooms = left }) ≡ (inner book (world_of stored) intents).world)
      (crossing : List Crosser) (ids : (s : Stored) → s.rooms ≡ left → map (λ crosser. crosser.id) crossing ≡ crossers (world_of s)) (found : AreCrossers (map rested_room left) crossing)
      (next : Stored) (is : next ≡ record { tick = stored.tick + 1; rooms = map rested_room left; accounts = [] }) where
    pub rooms_ruled : IsRuledRooms stored Tells next crossing
    rooms_ruled =
        let before : World = world_of (record stored { rooms = left }) in
        let of_list : List ℕ = map (λ (crosser : Crosser). crosser.id) crossing in
        record {
          rested = last;
          tick = refl;
          accounts = refl;
          rooms = length-map left rested_room ∙ many;
          sound = sound;
          forgotten = rested_forgotten left forgotten;
          ready = ready;
          crossers = found;
          same = λ intents told.
              ap (crossed_over of_list) (rested_world stored left)
              ∙ sym (rested_first before of_list)
              ∙ ap (λ (one : List ℕ). all_rested (crossed_over one before)) (ids (record stored { rooms = left }) refl)
              ∙ ap crossed (inside intents told);
          next = is;
        }
