-- The changes of a room's part of which all rules are made: an object in the place of one of its id, an
-- object less, and a new object.
use Rattle.std.specs.Prelude.{ℕ, ◌+◌, ◌*◌, ◌^◌, nat_lt, if◌then◌else◌, Option, Some, None}
use Rattle.std.specs.FinMap.{get, insert, remove}
use Rattle.room_table.specs.declared.object.Object.{Object}
use Rattle.world_rules.specs.RoomParts.{RoomPart}

abbrev pub put : Object → RoomPart → Option Object → RoomPart
put object part None = part
put object part (Some old) = record part { objects = insert part.objects object.id object }

-- the part with this object in the place of the one of its id; nothing changes where none stands
abbrev pub with_object : Object → RoomPart → RoomPart
with_object object part = put object part (get part.objects object.id)

-- the part without an object
abbrev pub without : ℕ → RoomPart → RoomPart
without id part = record part { objects = remove part.objects id }

-- the id of a room's next new object
abbrev pub next_id : RoomPart → ℕ
next_id part = part.index * 2 ^ 32 + part.next

-- The part with a new object, made with the room's next id. A room that has used up its serials makes none;
-- no tick begins with fewer than 2 ^ 20 left.
abbrev pub with_new : (ℕ → Object) → RoomPart → RoomPart
with_new make part =
    let more : RoomPart = record part {
      next = part.next + 1;
      objects = insert part.objects (next_id part) (make (next_id part));
    } in
    if nat_lt part.next (2 ^ 32) then more else part
