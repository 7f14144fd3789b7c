-- What a change of a room's part makes of the world as it is stored.
use Rattle.std.proofs.Common.{◌≡◌, ℕ, zero, suc, ◌+◌, ◌≤◌, ◌==◌, not, if◌then◌else◌, Bool, true, false, cond, T, Less, List, [], ◌∷◌, ◌++◌, map, length, Option, Some, None, option_map, option_and_then, refl, sym, ap, subst, ◌∙◌, arith, append_assoc}
use Rattle.std.specs.Prelude.{slice_get}
use Rattle.std.specs.List.{count_by, sum_by}
use Rattle.std.specs.Option.{option_or}
use Rattle.std.specs.Ordering.{nat_cmp, is_lt}
use Rattle.std.specs.Cmp.{nat_cmp_is, nat_cmp_total}
use Rattle.std.specs.FinMap.{find, get, entries, keys, from_entries, get-from_entries, same_map, nat_cmp-IsAntisymmetric, is_sorted}
use Rattle.std.specs.FinMap.Entries.{below_all}
use Rattle.std.proofs.lemmas.Bool.{eq-eqb, eqb-true, eqb-false}
use Rattle.std.proofs.lemmas.Option.{slice_get-map}
use Rattle.std.proofs.lemmas.List.Sums.{sum_by-cons, sum_by-append}
use Rattle.room_table.specs.declared.object.Object.{Object}
use Rattle.object_store.specs.declared.account.Account.{Account}
use Rattle.object_store.specs.declared.world.Room.{Room}
use Rattle.room_table.specs.Tables.{Table, IsRising}
use Rattle.object_store.specs.Stored.{Stored, HaveRisingTables}
use Rattle.world_rules.specs.World.{Placed, Frame, World, placed_from, framed_from, listed_room, world_of, listing_of, ListedRoom}
use Rattle.world_rules.specs.RoomParts.{RoomPart, objects_in, part_of, with_part, in_frame, in_room, in_rooms, in_every_room}
use Rattle.world_rules.proofs.Parts.{put_in, only, except, get_objects_in, get_with_room, room_with}
use Rattle.world_rules.proofs.Entries.{times, times_cons, times_append}
use Rattle.world_rules.proofs.Keys.{keyed, joined, entries_of_sorted}
use Rattle.world_rules.proofs.Rooms.{tagged, room_find, past_rooms, frame_listed}

-- what stands in a room, and what stands elsewhere, is what stands
pub here_and_elsewhere : (index : ℕ) (found : Option Placed) → option_or (put_in index (option_and_then (only index) found)) (option_and_then (except index) found) ≡ found
here_and_elsewhere index None = refl
here_and_elsewhere index (Some p) =
    elim (p.room == index) as (λ b. (p.room == index) ≡ b → option_or (put_in index (if b then Some p.object else None)) (cond (not b) (Some p) None) ≡ Some p) [
      | true ↦ λ is. let same = eqb-true p.room index is in λ i. Some (record { room = sym same i; object = p.object })
      | false ↦ λ is. refl
    ] refl

-- ---- ids in stored rooms

-- how often an id stands in a table
abbrev pub times_in : ℕ → List Object → ℕ
times_in id objects = count_by (λ object. object.id == id) objects

-- Each id stands once in these rooms.
abbrev pub AreIdsOnce : List Room → Type 0
AreIdsOnce rooms = (id : ℕ) → times id (placed_from 0 (map listed_room rooms)) ≤ 1

times_tagged : (id index : ℕ) (objects : List Object) → times id (map (tagged index) objects) ≡ times_in id objects
times_tagged id index [] = refl
times_tagged id index (object ∷ objects) =
    times_cons id (tagged index object) (map (tagged index) objects)
    ∙ ap (λ n. cond (object.id == id) 1 0 + n) (times_tagged id index objects)
    ∙ sym (sum_by-cons (λ (o : Object). cond (o.id == id) 1 0) object objects)

abbrev pub times_room : ℕ → Room → ℕ
times_room id room = times_in id room.table.objects

pub times_rooms : (id index : ℕ) (rooms : List Room) → times id (placed_from index (map listed_room rooms)) ≡ sum_by (times_room id) rooms
times_rooms id index [] = refl
times_rooms id index (room ∷ rooms) =
    times_append id (map (tagged index) room.table.objects) (placed_from (suc index) (map listed_room rooms))
    ∙ (λ i. times_tagged id index room.table.objects i + times_rooms id (suc index) rooms i)
    ∙ sym (sum_by-cons (times_room id) room rooms)

pub once_after : (before : List Room) (room other : Room) (after : List Room) → AreIdsOnce (before ++ room ∷ after) → ((id : ℕ) → times_in id other.table.objects ≤ times_in id room.table.objects) → AreIdsOnce (before ++ other ∷ after)
once_after before room other after once fewer id =
    let few = once id in
    let less = fewer id in
    omega (
      arith,
      times_rooms id 0 (before ++ room ∷ after),
      times_rooms id 0 (before ++ other ∷ after),
      sum_by-append (times_room id) before (room ∷ after),
      sum_by-append (times_room id) before (other ∷ after),
      sum_by-cons (times_room id) room after,
      sum_by-cons (times_room id) other after,
    )

fewer_times : (f : Room → Room) (id : ℕ) (rooms : List Room) → ((room : Room) → times_room id (f room) ≤ times_room id room) → sum_by (times_room id) (map f rooms) ≤ sum_by (times_room id) rooms
fewer_times f id [] fewer = omega arith
fewer_times f id (room ∷ rooms) fewer = omega (arith, fewer room, fewer_times f id rooms fewer, sum_by-cons (times_room id) room rooms, sum_by-cons (times_room id) (f room) (map f rooms))

-- ---- what is found in stored rooms

-- the object of an id in a room
abbrev pub found_in_table : ℕ → Room → Option Object
found_in_table id room = find nat_cmp id (keyed (λ object. object.id) room.table.objects)

found_as : (rooms : List Room) (index id : ℕ) (found : Option Room) → AreIdsOnce rooms → slice_get rooms index ≡ found → option_and_then (found_in_table id) found ≡ option_and_then (only index) (find nat_cmp id (placed_from 0 (map listed_room rooms)))
found_as rooms index id None once is = sym (past_rooms index 0 index (map listed_room rooms) id (omega arith) (slice_get-map listed_room rooms index ∙ ap (option_map listed_room) is))
found_as rooms index id (Some room) once is = room_find index 0 index (map listed_room rooms) (listed_room room) id (omega arith) (slice_get-map listed_room rooms index ∙ ap (option_map listed_room) is) (once id)

-- where ids stand once, what is found in a room is what is found among all and stands in that room
pub found_in_room : (rooms : List Room) (index id : ℕ) → AreIdsOnce rooms → option_and_then (found_in_table id) (slice_get rooms index) ≡ option_and_then (only index) (find nat_cmp id (placed_from 0 (map listed_room rooms)))
found_in_room rooms index id once = found_as rooms index id (slice_get rooms index) once refl

-- an object stands in its room
pub stands_in_room : (rooms : List Room) (id : ℕ) (p : Placed) → AreIdsOnce rooms → find nat_cmp id (placed_from 0 (map listed_room rooms)) ≡ Some p → option_and_then (found_in_table id) (slice_get rooms p.room) ≡ Some p.object
stands_in_room rooms id p once is =
    found_in_room rooms p.room id once ∙ ap (option_and_then (only p.room)) is ∙ ap (λ (b : Bool). if b then Some p.object else None) (eq-eqb p.room p.room refl)

placed_as : (index : ℕ) (object : Object) (found : Option Placed) → option_and_then (only index) found ≡ Some object → found ≡ Some (record { room = index; object = object })
placed_as index object None is = absurd (cc)
placed_as index object (Some p) is =
    elim (p.room == index) as (λ b. (p.room == index) ≡ b → (if b then Some p.object else None) ≡ Some object → Some p ≡ Some (record { room = index; object = object })) [
      | true ↦ λ here got. let object : p.object ≡ object = cc in let room = eqb-true p.room index here in λ i. Some (record { room = room i; object = object i })
      | false ↦ λ here got. absurd (cc)
    ] refl is

-- what stands in a room stands in the world
pub stands_placed : (rooms : List Room) (index id : ℕ) (object : Object) → AreIdsOnce rooms → option_and_then (found_in_table id) (slice_get rooms index) ≡ Some object → find nat_cmp id (placed_from 0 (map listed_room rooms)) ≡ Some (record { room = index; object = object })
stands_placed rooms index id object once is = placed_as index object (find nat_cmp id (placed_from 0 (map listed_room rooms))) (sym (found_in_room rooms index id once) ∙ is)

-- whether something stands in another room
abbrev stands_elsewhere : ℕ → Option Placed → Bool
stands_elsewhere index None = false
stands_elsewhere index (Some p) = not (p.room == index)

negated : (b : Bool) → not b ≡ true → b ≡ false
negated true is = absurd (cc)
negated false is = refl

nothing_elsewhere : (index : ℕ) (found : Option Placed) → stands_elsewhere index found ≡ false → option_and_then (except index) found ≡ None
nothing_elsewhere index None is = refl
nothing_elsewhere index (Some p) is = ap (λ (b : Bool). cond b (Some p) None) is

one_room : (p : Placed) (mate : Option Placed) → Some p.object ≡ option_and_then (only p.room) mate → Some p ≡ mate
one_room p None is = absurd (cc)
one_room p (Some q) is =
    elim (q.room == p.room) as (λ b. (q.room == p.room) ≡ b → Some p.object ≡ (if b then Some q.object else None) → Some p ≡ Some q) [
      | true ↦ λ same got. let object : p.object ≡ q.object = cc in let room = eqb-true q.room p.room same in λ i. Some (record { room = sym room i; object = object i })
      | false ↦ λ same got. absurd (cc)
    ] refl is

same_there : (index : ℕ) (one other : Option Placed) → stands_elsewhere index one ≡ true → ((j : ℕ) → (j ≡ index → ⊥) → option_and_then (only j) one ≡ option_and_then (only j) other) → one ≡ other
same_there index None other is same = absurd (cc)
same_there index (Some p) other is same =
    one_room p other
    (sym (ap (λ (b : Bool). if b then Some p.object else None) (eq-eqb p.room p.room refl)) ∙ same p.room (eqb-false p.room index (negated _ is)))

-- the same stands elsewhere, where the same stands in each other room
same_elsewhere : (index : ℕ) (one other : Option Placed) → ((j : ℕ) → (j ≡ index → ⊥) → option_and_then (only j) one ≡ option_and_then (only j) other) → option_and_then (except index) one ≡ option_and_then (except index) other
same_elsewhere index one other same =
    elim (stands_elsewhere index one) as (λ b. stands_elsewhere index one ≡ b → option_and_then (except index) one ≡ option_and_then (except index) other) [
      | true ↦ λ is. ap (option_and_then (except index)) (same_there index one other is same)
      | false ↦ λ is. elim (stands_elsewhere index other) as (λ b. stands_elsewhere index other ≡ b → option_and_then (except index) one ≡ option_and_then (except index) other) [
        | true ↦ λ at. ap (option_and_then (except index)) (sym (same_there index other one at (λ j apart. sym (same j apart))))
        | false ↦ λ at. nothing_elsewhere index one is ∙ sym (nothing_elsewhere index other at)
      ] refl
    ] refl

-- ---- a change of one stored room

-- the part of a stored room with this index
abbrev pub stored_part : ℕ → Room → RoomPart
stored_part index room = record {
  rules = 1;
  index = index;
  grounds = room.terrain;
  next = room.table.next;
  objects = from_entries (keyed (λ object. object.id) room.table.objects);
}

pub get_stored_part : (index : ℕ) (room : Room) (id : ℕ) → get (stored_part index room).objects id ≡ found_in_table id room
get_stored_part index room id = get-from_entries nat_cmp_total (keyed (λ (object : Object). object.id) room.table.objects) id

abbrev stored_with : ℕ → List Account → List Room → Stored
stored_with tick accounts rooms = record { tick = tick; rooms = rooms; accounts = accounts }

pub room_at : (before : List Room) (room : Room) (after : List Room) → slice_get (before ++ room ∷ after) (length before) ≡ Some room
room_at [] room after = refl
room_at (first ∷ before) room after = room_at before room after

abbrev frame_in : Option Room → Option Frame
frame_in found = option_map (λ (room : Room). (listed_room room).frame) found

framed : (found : Option Room) → option_map (λ (room : ListedRoom). room.frame) (option_map listed_room found) ≡ frame_in found
framed None = refl
framed (Some room) = refl

pub frame_stored : (stored : Stored) (k : ℕ) → get (world_of stored).rooms k ≡ frame_in (slice_get stored.rooms k)
frame_stored stored k = frame_listed (listing_of stored) k ∙ slice_get-map (λ (room : ListedRoom). room.frame) (map listed_room stored.rooms) k ∙ ap (option_map (λ (room : ListedRoom). room.frame)) (slice_get-map listed_room stored.rooms k) ∙ framed (slice_get stored.rooms k)

pub other_rooms : (before : List Room) (room other : Room) (after : List Room) (j : ℕ) → (j ≡ length before → ⊥) → slice_get (before ++ room ∷ after) j ≡ slice_get (before ++ other ∷ after) j
other_rooms [] room other after zero apart = absurd (apart refl)
other_rooms [] room other after (suc j) apart = refl
other_rooms (first ∷ before) room other after zero apart = refl
other_rooms (first ∷ before) room other after (suc j) apart = other_rooms before room other after j (λ same. apart (ap suc same))

module _ (tick : ℕ) (accounts : List Account) (before : List Room) (room : Room) (after : List Room) (once : AreIdsOnce (before ++ room ∷ after)) where
  abbrev index : ℕ
  index = length before

  abbrev world : World
  world = world_of (stored_with tick accounts (before ++ room ∷ after))

  all_found : (id : ℕ) → get world.objects id ≡ find nat_cmp id (placed_from 0 (map listed_room (before ++ room ∷ after)))
  all_found id = get-from_entries nat_cmp_total (placed_from 0 (map listed_room (before ++ room ∷ after))) id

  -- a stored room's part
  pub part_of_stored : part_of (world_of (stored_with tick accounts (before ++ room ∷ after))) (length before) (listed_room room).frame ≡ stored_part (length before) room
  part_of_stored =
      let objects = same_map nat_cmp_total nat_cmp-IsAntisymmetric (objects_in world index) (stored_part index room).objects (λ id.
      get_objects_in world index id
      ∙ ap (option_and_then (only index)) (all_found id)
      ∙ sym (found_in_room (before ++ room ∷ after) index id once)
      ∙ ap (option_and_then (found_in_table id)) (room_at before room after)
      ∙ sym (get_stored_part index room id)) in
      λ i. record { rules = 1; index = index; grounds = room.terrain; next = room.table.next; objects = objects i }

  module _ (table : Table) (once_then : AreIdsOnce (before ++ record room { table = table } ∷ after)) where
    abbrev other : Room
    other = record room { table = table }

    abbrev found_then : ℕ → Option Placed
    found_then id = find nat_cmp id (placed_from 0 (map listed_room (before ++ other ∷ after)))

    here_then : (id : ℕ) → get (stored_part index other).objects id ≡ option_and_then (only index) (found_then id)
    here_then id = get_stored_part index other id ∙ ap (option_and_then (found_in_table id)) (sym (room_at before other after)) ∙ found_in_room (before ++ other ∷ after) index id once_then

    elsewhere_then : (id : ℕ) → option_and_then (except index) (get world.objects id) ≡ option_and_then (except index) (found_then id)
    elsewhere_then id =
        same_elsewhere index (get world.objects id) (found_then id) (λ j apart.
        ap (option_and_then (only j)) (all_found id)
        ∙ sym (found_in_room (before ++ room ∷ after) j id once)
        ∙ ap (option_and_then (found_in_table id)) (other_rooms before room other after j apart)
        ∙ found_in_room (before ++ other ∷ after) j id once_then)

    room_then : (k : ℕ) → get (with_part world index (listed_room room).frame (stored_part index other)).rooms k ≡ get (world_of (stored_with tick accounts (before ++ other ∷ after))).rooms k
    room_then k =
        room_with world index (listed_room other).frame (stored_part index other).objects k
        ∙ elim (k == index) as (λ b. (k == index) ≡ b → cond b (Some (listed_room other).frame) (get world.rooms k) ≡ frame_in (slice_get (before ++ other ∷ after) k)) [
          | true ↦ λ at. sym (ap (λ n. frame_in (slice_get (before ++ other ∷ after) n)) (eqb-true k index at) ∙ ap frame_in (room_at before other after))
          | false ↦ λ at. frame_stored (stored_with tick accounts (before ++ room ∷ after)) k ∙ ap frame_in (other_rooms before room other after k (eqb-false k index at))
        ] refl
        ∙ sym (frame_stored (stored_with tick accounts (before ++ other ∷ after)) k)

    put_back : with_part world index (listed_room room).frame (stored_part index other) ≡ world_of (stored_with tick accounts (before ++ other ∷ after))
    put_back =
        let after_change : World = with_part world index (listed_room room).frame (stored_part index other) in
        let rooms = same_map nat_cmp_total nat_cmp-IsAntisymmetric after_change.rooms (world_of (stored_with tick accounts (before ++ other ∷ after))).rooms room_then in
        let objects = same_map nat_cmp_total nat_cmp-IsAntisymmetric after_change.objects (world_of (stored_with tick accounts (before ++ other ∷ after))).objects (λ id.
        get_with_room world index (listed_room other).frame (stored_part index other).objects id
        ∙ (λ i. option_or (put_in index (here_then id i)) (elsewhere_then id i))
        ∙ here_and_elsewhere index (found_then id)
        ∙ sym (get-from_entries nat_cmp_total (placed_from 0 (map listed_room (before ++ other ∷ after))) id)) in
        λ i. record { rules = 1; tick = tick; rooms = rooms i; objects = objects i; accounts = world.accounts }

    -- A change of a room's part is a change of its table, where they say the same of this room, and each id stands once before and after.
    pub in_room-stored : (change : RoomPart → RoomPart) → change (stored_part (length before) room) ≡ stored_part (length before) (record room { table = table })
        → in_room change (length before) (world_of (stored_with tick accounts (before ++ room ∷ after))) ≡ world_of (stored_with tick accounts (before ++ record room { table = table } ∷ after))
    in_room-stored change is =
        ap (in_frame change index world) (frame_stored (stored_with tick accounts (before ++ room ∷ after)) index ∙ ap frame_in (room_at before room after))
        ∙ ap (λ (part : RoomPart). with_part world index (listed_room room).frame (change part)) part_of_stored
        ∙ ap (with_part world index (listed_room room).frame) is
        ∙ put_back

-- ---- a change of every stored room

abbrev pub with_table : (Table → Table) → Room → Room
with_table f room = record room { table = f room.table }

-- The changes of a part and of a table say the same of this room, and no id is new in it.
pub record SaysSame (change : RoomPart → RoomPart) (f : Table → Table) (index : ℕ) (room : Room) : Type 0 where
  pub part : change (stored_part index room) ≡ stored_part index (with_table f room)
  pub ids : (id : ℕ) → times_in id (f room.table).objects ≤ times_in id room.table.objects

length_push : (before : List Room) (room : Room) → length (before ++ room ∷ []) ≡ suc (length before)
length_push [] room = refl
length_push (first ∷ before) room = ap suc (length_push before room)

-- the indices of so many rooms from one on
abbrev indices_from : ℕ → List Room → List ℕ
indices_from first [] = []
indices_from first (room ∷ rooms) = first ∷ indices_from (suc first) rooms

below_framed : (least index : ℕ) (rooms : List Room) → suc least ≤ index → T (below_all nat_cmp least (framed_from index (map listed_room rooms)))
below_framed least index [] less = tt
below_framed least index (room ∷ rooms) less = joined _ _ (subst (λ r. T (is_lt r)) (nat_cmp_is least index Less less) tt) (below_framed least (suc index) rooms (omega arith))

framed_sorted : (index : ℕ) (rooms : List Room) → T (is_sorted nat_cmp (framed_from index (map listed_room rooms)))
framed_sorted index [] = tt
framed_sorted index (room ∷ rooms) = joined _ _ (below_framed index (suc index) rooms (omega arith)) (framed_sorted (suc index) rooms)

framed_indices : (index : ℕ) (rooms : List Room) → map (λ (e : ℕ × Frame). e.0) (framed_from index (map listed_room rooms)) ≡ indices_from index rooms
framed_indices first [] = refl
framed_indices first (room ∷ rooms) = ap (λ rest. first ∷ rest) (framed_indices (suc first) rooms)

-- the frames of a stored world, by their index
pub frames_stored : (stored : Stored) → entries (world_of stored).rooms ≡ framed_from 0 (map listed_room stored.rooms)
frames_stored stored = entries_of_sorted (framed_from 0 (map listed_room stored.rooms)) (framed_sorted 0 stored.rooms)

keys_stored : (stored : Stored) → keys (world_of stored).rooms ≡ indices_from 0 stored.rooms
keys_stored stored = ap (map (λ (e : ℕ × Frame). e.0)) (entries_of_sorted (framed_from 0 (map listed_room stored.rooms)) (framed_sorted 0 stored.rooms)) ∙ framed_indices 0 stored.rooms

module _ (change : ℕ → RoomPart → RoomPart) (f : Table → Table) (tick : ℕ) (accounts : List Account) where
  abbrev world_with : List Room → World
  world_with rooms = world_of (stored_with tick accounts rooms)

  changed_from : (before rest : List Room) → AreIdsOnce (before ++ rest) → ((j : ℕ) (room : Room) → slice_get rest j ≡ Some room → SaysSame (change (length before + j)) f (length before + j) room)
      → in_rooms change (indices_from (length before) rest) (world_with (before ++ rest)) ≡ world_with (before ++ map (with_table f) rest)
  changed_from before [] once says = refl
  changed_from before (room ∷ rest) once says =
      let here : SaysSame (change (length before)) f (length before) room = subst (λ (k : ℕ). SaysSame (change k) f k room) (omega arith) (says 0 room refl) in
      let after : AreIdsOnce (before ++ with_table f room ∷ rest) = once_after before room (with_table f room) rest once here.ids in
      let push : before ++ with_table f room ∷ rest ≡ (before ++ with_table f room ∷ []) ++ rest = sym (append_assoc before (with_table f room ∷ []) rest) in
      let count = length_push before (with_table f room) in
      ap (in_rooms change (indices_from (suc (length before)) rest)) (in_room-stored tick accounts before room rest once (f room.table) after (change (length before)) here.part)
      ∙ (λ i. in_rooms change (indices_from (sym count i) rest) (world_with (push i)))
      ∙ changed_from (before ++ with_table f room ∷ []) rest (subst AreIdsOnce push after) (λ j one is. subst (λ (k : ℕ). SaysSame (change k) f k one) (omega (arith, count)) (says (suc j) one is))
      ∙ ap world_with (append_assoc before (with_table f room ∷ []) (map (with_table f) rest))

-- A change of every room's part is a change of every table.
pub in_every_room-stored : (change : ℕ → RoomPart → RoomPart) (f : Table → Table) (stored : Stored) → AreIdsOnce stored.rooms
    → ((index : ℕ) (room : Room) → slice_get stored.rooms index ≡ Some room → SaysSame (change index) f index room)
    → in_every_room change (world_of stored) ≡ world_of (record stored { rooms = map (with_table f) stored.rooms })
in_every_room-stored change f stored once says =
    ap (λ (ks : List ℕ). in_rooms change ks (world_of stored)) (keys_stored stored)
    ∙ changed_from change f stored.tick stored.accounts [] stored.rooms once (λ j room is. subst (λ (k : ℕ). SaysSame (change k) f k room) (omega arith) (says j room is))

module _ (f : Table → Table) (rooms : List Room) (fewer : (id : ℕ) (room : Room) → times_in id (f room.table).objects ≤ times_in id room.table.objects) where
  -- where no id is new in any table, none stands more often
  pub times_after_all : (id : ℕ) → times id (placed_from 0 (map listed_room (map (with_table f) rooms))) ≤ times id (placed_from 0 (map listed_room rooms))
  times_after_all id = omega (arith, times_rooms id 0 rooms, times_rooms id 0 (map (with_table f) rooms), fewer_times (with_table f) id rooms (fewer id))

  pub once_after_all : AreIdsOnce rooms → AreIdsOnce (map (with_table f) rooms)
  once_after_all once id = omega (arith, once id, times_after_all id)

-- tables rise after a change under which each rises
pub tables_rise : (f : Table → Table) (rooms : List Room) → ((room : Room) → IsRising room.table.objects → IsRising (f room.table).objects) → HaveRisingTables rooms → HaveRisingTables (map (with_table f) rooms)
tables_rise f [] rises rise = tt
tables_rise f (room ∷ rooms) rises rise = (rises room rise.0, tables_rise f rooms rises rise.1)
