-- By which objects a player sees a room.
use Rattle.std.specs.Prelude.{ℕ, ◌==◌, ◌&&◌, ◌||◌, Bool}
use Rattle.std.specs.List.{list_any}
use Rattle.std.specs.FinMap.{values}
use Rattle.game_tables.specs.Kinds.{is_building, is_controller, is_creep}
use Rattle.room_table.specs.declared.object.Object.{Object}
use Rattle.world_rules.specs.RoomParts.{RoomPart}

-- The object is one by which the player sees its room: a creep, a building or a controller of his.
abbrev pub gives_sight : ℕ → Object → Bool
gives_sight player object =
    (object.owner == player) && (is_creep object.kind || is_building object.kind || is_controller object.kind)

-- The player sees the room.
abbrev pub is_visible : ℕ → RoomPart → Bool
is_visible player part = list_any (gives_sight player) (values part.objects)
