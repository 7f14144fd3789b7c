-- A change that changes nothing leaves the world as it is.
use Rattle.std.proofs.Common.{◌≡◌, ℕ, ◌==◌, true, false, cond, List, [], ◌∷◌, Option, Some, None, option_and_then, refl, sym, ap, ◌∙◌}
use Rattle.std.specs.Option.{option_or}
use Rattle.std.specs.Cmp.{nat_cmp_total}
use Rattle.std.specs.FinMap.{get, keys, same_map, nat_cmp-IsAntisymmetric}
use Rattle.std.proofs.lemmas.Bool.{eqb-true}
use Rattle.room_table.specs.declared.object.Object.{Object}
use Rattle.world_rules.specs.World.{Frame, World}
use Rattle.world_rules.specs.RoomParts.{RoomPart, objects_in, part_of, with_part, in_frame, in_room, in_rooms, in_every_room}
use Rattle.world_rules.proofs.Parts.{put_in, except, get_objects_in, get_with_room, room_with}
use Rattle.world_rules.proofs.Lifting.{here_and_elsewhere}

same_frame : (world : World) (room : ℕ) (frame : Frame) → get world.rooms room ≡ Some frame → with_part world room frame (part_of world room frame) ≡ world
same_frame world room frame is =
    let after : World = with_part world room frame (part_of world room frame) in
    let rooms = same_map nat_cmp_total nat_cmp-IsAntisymmetric after.rooms world.rooms (λ k.
    room_with world room frame (objects_in world room) k
    ∙ elim (k == room) as (λ b. (k == room) ≡ b → cond b (Some frame) (get world.rooms k) ≡ get world.rooms k) [
      | true ↦ λ at. sym (ap (get world.rooms) (eqb-true k room at) ∙ is)
      | false ↦ λ at. refl
    ] refl) in
    let objects = same_map nat_cmp_total nat_cmp-IsAntisymmetric after.objects world.objects (λ id.
    get_with_room world room frame (objects_in world room) id
    ∙ ap (λ (found : Option Object). option_or (put_in room found) (option_and_then (except room) (get world.objects id))) (get_objects_in world room id)
    ∙ here_and_elsewhere room (get world.objects id)) in
    λ i. record { rules = world.rules; tick = world.tick; rooms = rooms i; objects = objects i; accounts = world.accounts }

frame_unchanged : (change : RoomPart → RoomPart) → ((part : RoomPart) → change part ≡ part) → (room : ℕ) (world : World) (found : Option Frame) → get world.rooms room ≡ found → in_frame change room world found ≡ world
frame_unchanged change same room world None is = refl
frame_unchanged change same room world (Some frame) is = ap (with_part world room frame) (same (part_of world room frame)) ∙ same_frame world room frame is

-- in one room
pub in_room-unchanged : (change : RoomPart → RoomPart) → ((part : RoomPart) → change part ≡ part) → (room : ℕ) (world : World) → in_room change room world ≡ world
in_room-unchanged change same room world = frame_unchanged change same room world (get world.rooms room) refl

in_rooms-unchanged : (change : ℕ → RoomPart → RoomPart) → ((room : ℕ) (part : RoomPart) → change room part ≡ part) → (rooms : List ℕ) (world : World) → in_rooms change rooms world ≡ world
in_rooms-unchanged change same [] world = refl
in_rooms-unchanged change same (room ∷ later) world = ap (in_rooms change later) (in_room-unchanged (change room) (same room) room world) ∙ in_rooms-unchanged change same later world

-- in every room
pub in_every_room-unchanged : (change : ℕ → RoomPart → RoomPart) → ((room : ℕ) (part : RoomPart) → change room part ≡ part) → (world : World) → in_every_room change world ≡ world
in_every_room-unchanged change same world = in_rooms-unchanged change same (keys world.rooms) world
