-- The ids of a world and of a room's part, as they are between ticks.
use Rattle.std.specs.Prelude.{◌≡◌, ℕ, ◌+◌, ◌*◌, ◌^◌, ◌<◌, Some}
use Rattle.std.specs.FinMap.{get}
use Rattle.room_table.specs.declared.object.Object.{Object}
use Rattle.world_rules.specs.World.{Placed, Frame, World}
use Rattle.world_rules.specs.RoomParts.{RoomPart}

-- Of each room's own ids, those that stand anywhere in the world have serials below its next one.
abbrev pub AreSerialsUsed : World → Type 0
AreSerialsUsed world =
    (room serial : ℕ) (frame : Frame) (placed : Placed) → get world.rooms room ≡ Some frame → serial < 2 ^ 32
    → get world.objects (room * 2 ^ 32 + serial) ≡ Some placed → serial < frame.next

-- Of a room's own ids, those that stand in its part have serials below its next one.
abbrev pub AreOwnSerialsUsed : RoomPart → Type 0
AreOwnSerialsUsed part =
    (serial : ℕ) (object : Object) → serial < 2 ^ 32
    → get part.objects (part.index * 2 ^ 32 + serial) ≡ Some object → serial < part.next
