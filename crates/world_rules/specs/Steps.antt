-- A step over the objects of a room's part in rising id.
use Rattle.std.specs.Prelude.{ℕ, List, [], ◌∷◌, Option, Some, None}
use Rattle.std.specs.FinMap.{get, keys}
use Rattle.room_table.specs.declared.object.Object.{Object}
use Rattle.world_rules.specs.RoomParts.{RoomPart}
use Rattle.world_rules.specs.Changes.{with_object, without}

-- the part after the change that an object makes of it, where the object still stands
abbrev pub by_object : (Object → RoomPart → RoomPart) → RoomPart → Option Object → RoomPart
by_object change part None = part
by_object change part (Some object) = change object part

-- the part after the changes of these ids, one after the other
abbrev pub over_ids : (Object → RoomPart → RoomPart) → List ℕ → RoomPart → RoomPart
over_ids change [] part = part
over_ids change (id ∷ later) part = over_ids change later (by_object change part (get part.objects id))

-- A step: each object that stands as it begins changes the part in its turn, as it then is, in rising id.
abbrev pub over_objects : (Object → RoomPart → RoomPart) → RoomPart → RoomPart
over_objects change part = over_ids change (keys part.objects) part

-- the part with what is left of an object
abbrev pub with_left : ℕ → RoomPart → Option Object → RoomPart
with_left id part None = without id part
with_left id part (Some object) = with_object object part

-- a step in which each object changes by itself, or goes
abbrev pub each : (Object → Option Object) → RoomPart → RoomPart
each change = over_objects (λ object part. with_left object.id part (change object))
