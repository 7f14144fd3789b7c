-- What is listed of a stored world, and which of its rooms have used up their serials.
use Rattle.std.proofs.Common.{◌≡◌, ℕ, suc, ◌≤◌, List, [], ◌∷◌, ◌++◌, length, map, Option, Some, None, option_map, refl, sym, ap, subst, ◌∙◌, append_assoc}
use Rattle.std.specs.Prelude.{slice_get}
use Rattle.std.specs.FinMap.{get, values}
use Rattle.object_store.specs.declared.account.Account.{Account}
use Rattle.room_table.specs.declared.object.Object.{Object}
use Rattle.object_store.specs.declared.world.Room.{Room}
use Rattle.room_table.specs.Tallies.{no_tallies}
use Rattle.object_store.specs.Stored.{Stored}
use Rattle.room_table.specs.Tables.{IsRising}
use Rattle.world_rules.specs.World.{Frame, framed_from, world_of}
use Rattle.world_rules.specs.World as worlds
use Rattle.world_rules.specs.RoomParts.{RoomPart, objects_in}
use Rattle.world_rules.specs.Sound.{IsSound, HaveSerials, serials_bound, bare_room, bare}
use Rattle.world_rules.proofs.Keys.{table_sorted, accounts_sorted, values_of, entries_of_sorted}
use Rattle.world_rules.proofs.Same.{once, tables_at}
use Rattle.world_rules.proofs.Lifting.{frames_stored, frame_stored, part_of_stored, room_at}
use Rattle.std.proofs.lemmas.Option.{get_or_from_slice_get, slice_get_within}
use Rattle.tick_journal.specs.BaseForms.{world_as_read}
use Rattle.world_replay.specs.Listed.{listed_room, listed}
use Rattle.world_replay.specs.Serials.{HasRunOut, HasSerials, IsExhausted}

-- ---- what is listed of a stored world is what is stored, but for the room that tables keep

module _ (tick : ℕ) (accounts : List Account) (before : List Room) (room : Room) (after : List Room) (s : IsSound (record { tick = tick; rooms = before ++ room ∷ after; accounts = accounts })) where
  abbrev stored : Stored
  stored = record { tick = tick; rooms = before ++ room ∷ after; accounts = accounts }

  rising : IsRising room.table.objects
  rising = tables_at (before ++ room ∷ after) (length before) room s.tables (room_at before room after)

  objects_here : values (objects_in (world_of stored) (length before)) ≡ room.table.objects
  objects_here =
      ap (λ (part : RoomPart). values part.objects) (part_of_stored tick accounts before room after (once stored s))
      ∙ ap (map (λ (e : ℕ × Object). e.1)) (entries_of_sorted (map (λ (object : Object). (object.id, object)) room.table.objects) (table_sorted room.table.objects rising))
      ∙ values_of (λ (object : Object). object.id) room.table.objects

  room_is : listed_room (world_of stored) (length before, (worlds.listed_room room).frame) ≡ bare_room room
  room_is =
      let place = s.places (length before) room (room_at before room after) in
      λ i. record {
        name = room.name;
        terrain = room.terrain;
        table = record { index = sym place i; next = room.table.next; objects = objects_here i; spare = 0; tallies = no_tallies };
      }

length_push : (before : List Room) (room : Room) → length (before ++ room ∷ []) ≡ suc (length before)
length_push [] room = refl
length_push (first ∷ before) room = ap suc (length_push before room)

rooms_from : (tick : ℕ) (accounts : List Account) (before rest : List Room) (s : IsSound (record { tick = tick; rooms = before ++ rest; accounts = accounts }))
    → map (listed_room (world_of (record { tick = tick; rooms = before ++ rest; accounts = accounts }))) (framed_from (length before) (map worlds.listed_room rest)) ≡ map bare_room rest
rooms_from tick accounts before [] s = refl
rooms_from tick accounts before (room ∷ rest) s =
    let again : List Room = before ++ room ∷ [] in
    let same : again ++ rest ≡ before ++ (room ∷ rest) = append_assoc before (room ∷ []) rest in
    let P : List Room → Type 0 = λ rooms. IsSound (record { tick = tick; rooms = rooms; accounts = accounts }) in
    let later = rooms_from tick accounts again rest (subst P (sym same) s) in
    let many : length again ≡ suc (length before) = length_push before room in
    let first = room_is tick accounts before room rest s in
    let Q : List Room → ℕ → Type 0 = λ rooms n. map (listed_room (world_of (record { tick = tick; rooms = rooms; accounts = accounts }))) (framed_from n (map worlds.listed_room rest)) ≡ map bare_room rest in
    let others : Q (before ++ (room ∷ rest)) (suc (length before)) = subst (λ (n : ℕ). Q (before ++ (room ∷ rest)) n) many (subst (λ (rooms : List Room). Q rooms (length again)) same later) in
    λ i. first i ∷ others i

pub listed_is : (stored : Stored) → IsSound stored → listed (world_of stored) ≡ bare stored
listed_is stored s =
    let rooms = ap (map (listed_room (world_of stored))) (frames_stored stored) ∙ rooms_from stored.tick stored.accounts [] stored.rooms s in
    let accounts = ap (map (λ (e : ℕ × Account). e.1)) (entries_of_sorted (map (λ (account : Account). (account.player, account)) stored.accounts) (accounts_sorted stored.accounts s.accounts)) ∙ values_of (λ (account : Account). account.player) stored.accounts in
    λ i. record { tick = stored.tick; rooms = rooms i; accounts = accounts i }

-- the world of a file, as the journal has it
pub file_listed : (world : Stored) → IsSound world → listed (world_of world) ≡ world_as_read world
file_listed world s = listed_is world s

-- ---- rooms that have used up their serials

next_at : (stored : Stored) (index : ℕ) (frame : Frame) (found : Option Room) → slice_get stored.rooms index ≡ found → option_map (λ (room : Room). (worlds.listed_room room).frame) found ≡ Some frame
    → (room : Room) × (slice_get stored.rooms index ≡ Some room) × (room.table.next ≡ frame.next)
next_at stored index frame None at is = absurd cc
next_at stored index frame (Some room) at is =
    let same : (worlds.listed_room room).frame ≡ frame = cc in
    (room, at, ap (λ (f : Frame). f.next) same)

room_in : (stored : Stored) (index : ℕ) (frame : Frame) → get (world_of stored).rooms index ≡ Some frame → (room : Room) × (slice_get stored.rooms index ≡ Some room) × (room.table.next ≡ frame.next)
room_in stored index frame is = next_at stored index frame (slice_get stored.rooms index) refl (sym (frame_stored stored index) ∙ is)

next_within : (stored : Stored) (index : ℕ) (room : Room) → HaveSerials stored.rooms → slice_get stored.rooms index ≡ Some room → room.table.next ≤ serials_bound
next_within stored index room all is = subst (λ (r : Room). r.table.next ≤ serials_bound) (get_or_from_slice_get stored.rooms index room room is) (all index room (slice_get_within stored.rooms index room is))

pub serials_shown : (stored : Stored) → HaveSerials stored.rooms → HasSerials (world_of stored)
serials_shown stored all index frame is =
    let found = room_in stored index frame is in
    subst (λ (n : ℕ). n ≤ serials_bound) found.2 (next_within stored index found.0 all found.1)

pub exhausted_shown : (stored : Stored) (index : ℕ) → HasRunOut stored index → IsExhausted (world_of stored) index
exhausted_shown stored index e =
    record {
      frame = (worlds.listed_room e.room).frame;
      stands = frame_stored stored index ∙ ap (option_map (λ (room : Room). (worlds.listed_room room).frame)) e.stands;
      above = e.above;
      first = λ earlier other below is.
          let found = room_in stored earlier other is in
          subst (λ (n : ℕ). n ≤ serials_bound) found.2 (e.first earlier found.0 below found.1);
    }
