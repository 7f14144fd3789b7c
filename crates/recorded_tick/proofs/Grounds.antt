-- A tick leaves the names and the grounds of rooms.
use Rattle.std.proofs.Common.{◌≡◌, ℕ, suc, ◌==◌, Bool, true, false, cond, List, [], ◌∷◌, ◌++◌, map, Option, Some, None, option_map, slice_get, inl, inr, refl, sym, ap, ◌∙◌}
use Rattle.std.specs.Prelude.{if◌then◌else◌}
use Rattle.std.proofs.lemmas.Bool.{cases_Bool, eqb-true}
use Rattle.std.specs.Cmp.{nat_cmp_total, unsigned_tied}
use Rattle.std.specs.FinMap.{FinMap, get, get-insert, keys}
use Rattle.std.specs.Ordering.{nat_cmp}
use Rattle.std.specs.List.{filter_map}
use Rattle.game_tables.specs.declared.action.Action.{Action}
use Rattle.room_terrain.specs.declared.name.RoomName.{RoomName}
use Rattle.room_terrain.specs.declared.terrain.Ground.{Ground}
use Rattle.room_table.specs.declared.object.Object.{Object}
use Rattle.object_store.specs.declared.world.Room.{Room}
use Rattle.object_store.specs.Stored.{Stored}
use Rattle.intent_book.specs.declared.intent.Intent.{Intent}
use Rattle.intent_book.specs.declared.player_run.PlayerRun.{PlayerRun}
use Rattle.world_rules.specs.Crossings.{Place, beyond, crossed_by, crossed_over, crossed_to, crossers, may_enter, with_object_on, crossed}
use Rattle.world_rules.specs.Intents.{all_actions, entries_of, kept, room_of}
use Rattle.world_rules.specs.RoomParts.{RoomPart, in_every_room, in_frame, in_room, in_rooms, part_of}
use Rattle.world_rules.specs.RuleBook.{Step, Sums}
use Rattle.world_rules.specs.Tick.{Course, acted, after_actions, after_kind, after_rule, after_rules, after_steps, begun, book, harm_of, intents_of, movement, next_world, ruled, sums_in}
use Rattle.world_rules.specs.Upkeep.{steps}
use Rattle.world_rules.specs.World.{Frame, Placed, World, world_of}
use Rattle.recorded_tick.specs.Recording.{ground_of}
use Rattle.world_rules.proofs.Lifting.{frame_stored}

-- the name and the grounds of a room
abbrev pub Outline : Type 0
Outline = RoomName × List Ground

abbrev Frames : Type 0
Frames = FinMap nat_cmp Frame

abbrev framed : Frame → Outline
framed frame = (frame.name, frame.grounds)

abbrev at_index : World → ℕ → Option Outline
at_index world k = option_map framed (get world.rooms k)

frame_named : (change : RoomPart → RoomPart) (room : ℕ) (world : World) (found : Option Frame) → get world.rooms room ≡ found → (k : ℕ) → at_index (in_frame change room world found) k ≡ at_index world k
frame_named change room world None is k = refl
frame_named change room world (Some frame) is k =
    let new : Frame = record frame { next = (change (part_of world room frame)).next } in
    let put : Bool → Option Outline = λ b. option_map framed (cond b (Some new) (get world.rooms k)) in
    ap (option_map framed) (get-insert nat_cmp_total world.rooms room new k) ∙ ap put (unsigned_tied k room) ∙ elim (cases_Bool (k == room)) [
      | inl at ↦ ap put at ∙ ap (option_map framed) (sym is ∙ ap (λ (n : ℕ). get world.rooms n) (sym (eqb-true k room at)))
      | inr off ↦ ap put off
    ]

rooms_named : (change : ℕ → RoomPart → RoomPart) (rooms : List ℕ) (world : World) (k : ℕ) → at_index (in_rooms change rooms world) k ≡ at_index world k
rooms_named change [] world k = refl
rooms_named change (room ∷ later) world k = rooms_named change later (in_room (change room) room world) k ∙ frame_named (change room) room world (get world.rooms room) refl k

steps_named : (sums : ℕ → Sums) (list : List Step) (world : World) (k : ℕ) → at_index (after_steps sums list world) k ≡ at_index world k
steps_named sums [] world k = refl
steps_named sums (step ∷ later) world k =
    steps_named sums later (in_every_room (λ room. step (sums room)) world) k ∙ rooms_named (λ room. step (sums room)) (keys world.rooms) world k

rule_named : (before : World) (course : Course) (entry : Intent) (room : Option ℕ) (k : ℕ) → at_index (after_rule book before course entry room).world k ≡ at_index course.world k
rule_named before course entry None k = refl
rule_named before course entry (Some room) k = frame_named (λ part. (book.effect entry part).part) room course.world (get course.world.rooms room) refl k

rules_named : (before : World) (list : List Intent) (course : Course) (k : ℕ) → at_index (after_rules book before list course).world k ≡ at_index course.world k
rules_named before [] course k = refl
rules_named before (entry ∷ later) course k =
    rules_named before later (after_rule book before course entry (room_of before entry)) k ∙ rule_named before course entry (room_of before entry) k

actions_named : (before : World) (actions : List Action) (list : List Intent) (course : Course) (k : ℕ) → at_index (after_actions book before actions list course).world k ≡ at_index course.world k
actions_named before [] list course k = refl
actions_named before (action ∷ later) list course k =
    let harmed : Course = record course { harms = course.harms ++ filter_map (harm_of book before course.world) (entries_of action list) } in
    actions_named before later list (after_kind book before (entries_of action list) course) k ∙ rules_named before (entries_of action list) harmed k

to_named : (world : World) (id : ℕ) (object : Object) (place : Option Place) (k : ℕ) → at_index (crossed_to world id object place) k ≡ at_index world k
to_named world id object None k = refl
to_named world id object (Some place) k =
    elim (may_enter world place) as (λ b. at_index (if b then with_object_on world id object place else world) k ≡ at_index world k) [ true ↦ refl | false ↦ refl ]

by_named : (world : World) (id : ℕ) (found : Option Placed) (k : ℕ) → at_index (crossed_by world id found) k ≡ at_index world k
by_named world id None k = refl
by_named world id (Some placed) k = to_named world id placed.object (beyond world placed) k

over_named : (ids : List ℕ) (world : World) (k : ℕ) → at_index (crossed_over ids world) k ≡ at_index world k
over_named [] world k = refl
over_named (id ∷ later) world k = over_named later (crossed_by world id (get world.objects id)) k ∙ by_named world id (get world.objects id) k

ruled_named : (world : World) (list : List Intent) (k : ℕ) → at_index (ruled book crossed world list) k ≡ at_index world k
ruled_named world list k =
    let after : Course = acted book world list in
    let moved : World = in_every_room (movement book world list) after.world in
    let rested : World = after_steps (sums_in after) steps moved in
    over_named (crossers rested) rested k
    ∙ steps_named (sums_in after) steps moved k
    ∙ rooms_named (movement book world list) (keys after.world.rooms) after.world k
    ∙ actions_named world all_actions (kept world list) (begun world) k

-- ---- stored worlds

stored_at : (found : Option Room) → option_map framed (option_map (λ (room : Room). record { name = room.name; grounds = room.terrain; next = room.table.next }) found) ≡ option_map ground_of found
stored_at None = refl
stored_at (Some room) = refl

ground_at : (stored : Stored) (k : ℕ) → at_index (world_of stored) k ≡ option_map ground_of (slice_get stored.rooms k)
ground_at stored k = ap (option_map framed) (frame_stored stored k) ∙ stored_at (slice_get stored.rooms k)

-- Lists that have the same at each place are the same.
same_mapped : {A B : Type 0} (f : A → B) (xs ys : List A) → ((k : ℕ) → option_map f (slice_get xs k) ≡ option_map f (slice_get ys k)) → map f xs ≡ map f ys
same_mapped f [] [] same = refl
same_mapped f [] (y ∷ ys) same = absurd (let here : None ≡ Some (f y) = same 0 in cc)
same_mapped f (x ∷ xs) [] same = absurd (let here : Some (f x) ≡ None = same 0 in cc)
same_mapped f (x ∷ xs) (y ∷ ys) same =
    let here : Some (f x) ≡ Some (f y) = same 0 in
    let first : f x ≡ f y = cc in
    let rest = same_mapped f xs ys (λ k. same (suc k)) in
    λ i. first i ∷ rest i

-- The rooms after a ruled tick have the names and grounds of those before.
pub grounds_ruled : (before after : Stored) (list : List Intent) → (world_of after).rooms ≡ (ruled book crossed (world_of before) list).rooms → map ground_of before.rooms ≡ map ground_of after.rooms
grounds_ruled before after list is = same_mapped ground_of before.rooms after.rooms (λ k.
    sym (ground_at before k) ∙ sym (ruled_named (world_of before) list k) ∙ sym (ap (λ (rooms : Frames). option_map framed (get rooms k)) is) ∙ ground_at after k)

-- So have those after a tick of a run.
pub grounds_stay : (before after : Stored) (runs : List PlayerRun) → world_of after ≡ next_world (world_of before) runs → map ground_of before.rooms ≡ map ground_of after.rooms
grounds_stay before after runs is = grounds_ruled before after (intents_of runs) (ap (λ (w : World). w.rooms) is)
