-- What is seen of a world at a room, and what a change of a room makes of it.
use Rattle.std.proofs.Common.{◌≡◌, ◌≢◌, ℕ, ◌==◌, not, if◌then◌else◌, Bool, true, false, cond, List, ◌++◌, Option, Some, None, option_map, option_and_then, refl, sym, ap, ◌∙◌}
use Rattle.std.specs.List.{filter}
use Rattle.std.specs.Option.{option_or}
use Rattle.std.specs.Ordering.{nat_cmp}
use Rattle.std.specs.Cmp.{nat_cmp_total, unsigned_tied}
use Rattle.std.specs.FinMap.{FinMap, find, get, entries, entries_sorted, get-entries, get-from_entries, get-insert, get-retain_keys, same_map, nat_cmp-IsAntisymmetric}
use Rattle.std.proofs.lemmas.Bool.{eq-eqb, eqb-true, ne_eqb}
use Rattle.room_table.specs.declared.object.Object.{Object}
use Rattle.world_rules.specs.World.{Placed, Frame, World, stands_in, alone}
use Rattle.world_rules.specs.RoomParts.{RoomPart, standing_in, objects_in, part_of, placed_in, with_room, in_frame, in_room}
use Rattle.world_rules.specs.Seen.{Seen, seen}
use Rattle.world_rules.proofs.Keys.{once_of_sorted, find_append, find_mapped, find_left, left_of, filter_map_alike, filter_as_map}

abbrev pub put_in : ℕ → Option Object → Option Placed
put_in room found = option_map (λ object. record { room = room; object = object }) found

-- the object, where it stands in the room
abbrev pub only : ℕ → Placed → Option Object
only room p = if p.room == room then Some p.object else None

-- what is found, where it passes a test
abbrev pub where_test : (Placed → Bool) → Placed → Option Placed
where_test test p = cond (test p) (Some p) None

abbrev pub except : ℕ → Placed → Option Placed
except room p = where_test (λ q. not (q.room == room)) p

-- ---- what is found

standing_left : (room : ℕ) (e : ℕ × Placed) → standing_in room e ≡ left_of (only room) e
standing_left room e = elim (e.1.room == room) as (λ b. ◌≡◌ {A = Option (ℕ × Object)} (if b then Some (e.0, e.1.object) else None) (option_map (λ (o : Object). (e.0, o)) (if b then Some e.1.object else None))) [ true ↦ refl | false ↦ refl ]

pub get_objects_in : (world : World) (room id : ℕ) → get (objects_in world room) id ≡ option_and_then (only room) (get world.objects id)
get_objects_in world room id =
    get-from_entries nat_cmp_total _ id
    ∙ ap (find nat_cmp id) (filter_map_alike (standing_in room) (left_of (only room)) (standing_left room) (entries world.objects))
    ∙ find_left (only room) id (entries world.objects) (once_of_sorted _ (entries_sorted world.objects))
    ∙ ap (option_and_then (only room)) (sym (get-entries world.objects id))

find_where : (test : Placed → Bool) (id : ℕ) (world : World) → find nat_cmp id (filter (λ entry. test entry.1) (entries world.objects)) ≡ option_and_then (where_test test) (get world.objects id)
find_where test id world =
    let passes : ℕ × Placed → Bool = λ entry. test entry.1 in
    let alike : (e : ℕ × Placed) → cond (passes e) (Some e) None ≡ left_of (where_test test) e = λ e. elim (passes e) as (λ b. cond b (Some e) None ≡ option_map (λ (p : Placed). (e.0, p)) (cond b (Some e.1) None)) [ true ↦ refl | false ↦ refl ] in
    ap (find nat_cmp id) (filter_as_map passes (entries world.objects) ∙ filter_map_alike _ (left_of (where_test test)) alike (entries world.objects))
    ∙ find_left (where_test test) id (entries world.objects) (once_of_sorted _ (entries_sorted world.objects))
    ∙ ap (option_and_then (where_test test)) (sym (get-entries world.objects id))

pub get_with_room : (world : World) (room : ℕ) (frame : Frame) (objects : FinMap nat_cmp Object) (id : ℕ)
    → get (with_room world room frame objects).objects id ≡ option_or (put_in room (get objects id)) (option_and_then (except room) (get world.objects id))
get_with_room world room frame objects id =
    let rest : List (ℕ × Placed) = filter (λ entry. not (stands_in room entry)) (entries world.objects) in
    let place : Object → Placed = λ object. record { room = room; object = object } in
    get-from_entries nat_cmp_total (placed_in room (entries objects) ++ rest) id
    ∙ find_append id (placed_in room (entries objects)) rest
    ∙ ap (λ (found : Option Placed). option_or found (find nat_cmp id rest)) (find_mapped place id (entries objects) ∙ ap (put_in room) (sym (get-entries objects id)))
    ∙ ap (option_or (put_in room (get objects id))) (find_where (λ q. not (q.room == room)) id world)

pub get_alone : (world : World) (room id : ℕ) → get (alone world room).objects id ≡ option_and_then (where_test (λ q. q.room == room)) (get world.objects id)
get_alone world room id = get-from_entries nat_cmp_total _ id ∙ find_where (λ q. q.room == room) id world

pub room_alone : (world : World) (room index : ℕ) → get (alone world room).rooms index ≡ cond (index == room) (get world.rooms index) None
room_alone world room index = get-retain_keys world.rooms (λ k. k == room) index (λ x tied. ap (λ k. k == room) (sym (nat_cmp-IsAntisymmetric index x tied)))

pub room_with : (world : World) (room : ℕ) (frame : Frame) (objects : FinMap nat_cmp Object) (index : ℕ) → get (with_room world room frame objects).rooms index ≡ cond (index == room) (Some frame) (get world.rooms index)
room_with world room frame objects index = get-insert nat_cmp_total world.rooms room frame index ∙ ap (λ (b : Bool). cond b (Some frame) (get world.rooms index)) (unsigned_tied index room)

-- ---- the objects of a room

here : (room : ℕ) (found : Option Object) (p : Option Placed) → option_and_then (only room) (option_or (put_in room found) (option_and_then (except room) p)) ≡ found
here room None None = refl
here room None (Some p) =
    elim (p.room == room) as (λ b. (p.room == room) ≡ b → option_and_then (only room) (cond (not b) (Some p) None) ≡ None) [ true ↦ λ is. refl | false ↦ λ is. ap (λ (b : Bool). if b then Some p.object else None) is ] refl
here room (Some object) p = ap (λ (b : Bool). if b then Some object else None) (eq-eqb room room refl)

pub objects_here : (world : World) (room : ℕ) (frame : Frame) (objects : FinMap nat_cmp Object) → objects_in (with_room world room frame objects) room ≡ objects
objects_here world room frame objects =
    same_map nat_cmp_total nat_cmp-IsAntisymmetric (objects_in (with_room world room frame objects) room) objects (λ id.
    get_objects_in (with_room world room frame objects) room id ∙ ap (option_and_then (only room)) (get_with_room world room frame objects id) ∙ here room (get objects id) (get world.objects id))

passed : (room index : ℕ) (p : Placed) → index ≢ room → option_and_then (only index) (except room p) ≡ only index p
passed room index p apart =
    elim (p.room == room) as (λ b. (p.room == room) ≡ b → option_and_then (only index) (cond (not b) (Some p) None) ≡ only index p) [
      | true ↦ λ is. sym (ap (λ (b : Bool). if b then Some p.object else None) (ne_eqb p.room index (λ same. apart (sym same ∙ eqb-true p.room room is))))
      | false ↦ λ is. refl
    ] refl

there : (room index : ℕ) (found : Option Object) (p : Option Placed) → index ≢ room → ((object : Object) → found ≡ Some object → option_and_then (only index) p ≡ None)
    → option_and_then (only index) (option_or (put_in room found) (option_and_then (except room) p)) ≡ option_and_then (only index) p
there room index None None apart free = refl
there room index None (Some p) apart free = passed room index p apart
there room index (Some object) p apart free = ap (λ (b : Bool). if b then Some object else None) (ne_eqb room index (λ same. apart (sym same))) ∙ sym (free object refl)

pub objects_there : (world : World) (room index : ℕ) (frame : Frame) (objects : FinMap nat_cmp Object) → index ≢ room
    → ((id : ℕ) (object : Object) → get objects id ≡ Some object → option_and_then (only index) (get world.objects id) ≡ None)
    → objects_in (with_room world room frame objects) index ≡ objects_in world index
objects_there world room index frame objects apart free =
    same_map nat_cmp_total nat_cmp-IsAntisymmetric (objects_in (with_room world room frame objects) index) (objects_in world index) (λ id.
    get_objects_in (with_room world room frame objects) index id ∙ ap (option_and_then (only index)) (get_with_room world room frame objects id)
    ∙ there room index (get objects id) (get world.objects id) apart (free id) ∙ sym (get_objects_in world index id))

alone_only : (room : ℕ) (p : Option Placed) → option_and_then (only room) (option_and_then (where_test (λ q. q.room == room)) p) ≡ option_and_then (only room) p
alone_only room None = refl
alone_only room (Some p) =
    elim (p.room == room) as (λ b. (p.room == room) ≡ b → option_and_then (only room) (cond b (Some p) None) ≡ only room p) [ true ↦ λ is. refl | false ↦ λ is. sym (ap (λ (b : Bool). if b then Some p.object else None) is) ] refl

-- ---- what is seen

pub seen_here : (world : World) (room : ℕ) (frame : Frame) (objects : FinMap nat_cmp Object) → seen (with_room world room frame objects) room ≡ record { rules = world.rules; frame = Some frame; objects = objects }
seen_here world room frame objects =
    let framed : get (with_room world room frame objects).rooms room ≡ Some frame = room_with world room frame objects room ∙ ap (λ (b : Bool). cond b (Some frame) (get world.rooms room)) (eq-eqb room room refl) in
    λ i. record { rules = world.rules; frame = framed i; objects = objects_here world room frame objects i }

pub seen_there : (world : World) (room index : ℕ) (frame : Frame) (objects : FinMap nat_cmp Object) → index ≢ room
    → ((id : ℕ) (object : Object) → get objects id ≡ Some object → option_and_then (only index) (get world.objects id) ≡ None)
    → seen (with_room world room frame objects) index ≡ seen world index
seen_there world room index frame objects apart free =
    let framed : get (with_room world room frame objects).rooms index ≡ get world.rooms index = room_with world room frame objects index ∙ ap (λ (b : Bool). cond b (Some frame) (get world.rooms index)) (ne_eqb index room apart) in
    λ i. record { rules = world.rules; frame = framed i; objects = objects_there world room index frame objects apart free i }

pub seen_alone : (world : World) (room : ℕ) → seen (alone world room) room ≡ seen world room
seen_alone world room =
    let framed : get (alone world room).rooms room ≡ get world.rooms room = room_alone world room room ∙ ap (λ (b : Bool). cond b (get world.rooms room) None) (eq-eqb room room refl) in
    let objects = same_map nat_cmp_total nat_cmp-IsAntisymmetric (objects_in (alone world room) room) (objects_in world room) (λ id.
    get_objects_in (alone world room) room id ∙ ap (option_and_then (only room)) (get_alone world room id) ∙ alone_only room (get world.objects id) ∙ sym (get_objects_in world room id)) in
    λ i. record { rules = world.rules; frame = framed i; objects = objects i }

-- the part that is seen
abbrev pub seen_part : ℕ → Seen → Option RoomPart
seen_part room s = option_map (λ (frame : Frame). record { rules = s.rules; index = room; grounds = frame.grounds; next = frame.next; objects = s.objects }) s.frame

-- what a change makes of what is seen
abbrev pub changed_as : (RoomPart → RoomPart) → ℕ → Seen → Option Frame → Seen
changed_as change room s None = s
changed_as change room s (Some frame) =
    let part : RoomPart = change (record { rules = s.rules; index = room; grounds = frame.grounds; next = frame.next; objects = s.objects }) in
    record s { frame = Some (record frame { next = part.next }); objects = part.objects }

abbrev pub changed : (RoomPart → RoomPart) → ℕ → Seen → Seen
changed change room s = changed_as change room s s.frame

frame_changed : (change : RoomPart → RoomPart) (room : ℕ) (world : World) (found : Option Frame) → get world.rooms room ≡ found → seen (in_frame change room world found) room ≡ changed_as change room (seen world room) found
frame_changed change room world None is = refl
frame_changed change room world (Some frame) is = seen_here world room (record frame { next = (change (part_of world room frame)).next }) (change (part_of world room frame)).objects

-- a change of a room, seen there
pub seen_changed : (change : RoomPart → RoomPart) (room : ℕ) (world : World) → seen (in_room change room world) room ≡ changed change room (seen world room)
seen_changed change room world = frame_changed change room world (get world.rooms room) refl

-- ---- worlds that are seen alike are equal

one_room : (p : Placed) (mate : Option Placed) → Some p.object ≡ option_and_then (only p.room) mate → Some p ≡ mate
one_room p None is = absurd (cc)
one_room p (Some q) is =
    elim (q.room == p.room) as (λ b. (q.room == p.room) ≡ b → Some p.object ≡ (if b then Some q.object else None) → Some p ≡ Some q) [
      | true ↦ λ same got. let object : p.object ≡ q.object = cc in let room = eqb-true q.room p.room same in λ i. Some (record { room = sym room i; object = object i })
      | false ↦ λ same got. absurd (cc)
    ] refl is

found_alike : (one other : Option Placed) → ((k : ℕ) → option_and_then (only k) one ≡ option_and_then (only k) other) → one ≡ other
found_alike None None same = refl
found_alike None (Some q) same = sym (one_room q None (sym (ap (λ (b : Bool). if b then Some q.object else None) (eq-eqb q.room q.room refl)) ∙ sym (same q.room)))
found_alike (Some p) other same = one_room p other (sym (ap (λ (b : Bool). if b then Some p.object else None) (eq-eqb p.room p.room refl)) ∙ same p.room)

pub same_world : (one other : World) → one.tick ≡ other.tick → one.accounts ≡ other.accounts → ((k : ℕ) → seen one k ≡ seen other k) → one ≡ other
same_world one other tick accounts same =
    let rooms = same_map nat_cmp_total nat_cmp-IsAntisymmetric one.rooms other.rooms (λ k. ap (λ (s : Seen). s.frame) (same k)) in
    let objects = same_map nat_cmp_total nat_cmp-IsAntisymmetric one.objects other.objects (λ id. found_alike (get one.objects id) (get other.objects id) (λ k. sym (get_objects_in one k id) ∙ ap (λ (s : Seen). get s.objects id) (same k) ∙ get_objects_in other k id)) in
    λ i. record { rules = (same 0 i).rules; tick = tick i; rooms = rooms i; objects = objects i; accounts = accounts i }
