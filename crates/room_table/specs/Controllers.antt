-- The controller of a room.
use Rattle.std.specs.Prelude.{ℕ, ◌==◌, ◌&&◌, ◌||◌, not, Bool, false, List, Option, Some, None}
use Rattle.std.specs.List.{find}
use Rattle.game_tables.specs.Kinds.{is_controller}
use Rattle.room_table.specs.declared.object.Object.{Object}

-- the controller among the objects of a room
abbrev pub controller_among : List Object → Option Object
controller_among objects = find (λ object. is_controller object.kind) objects

-- Somebody owns or reserves this controller; nobody does where a room has none.
abbrev pub is_taken : Option Object → Bool
is_taken None = false
is_taken (Some controller) = not (controller.owner == 0) || not (controller.other == 0)

-- the level of a room: that of its controller, and 0 without one
abbrev pub level_of : Option Object → ℕ
level_of None = 0
level_of (Some controller) = controller.extra

-- Somebody owns this controller.
abbrev pub is_owned_room : Option Object → Bool
is_owned_room None = false
is_owned_room (Some controller) = not (controller.owner == 0)

-- It is a player, and another than this one.
abbrev pub is_another : ℕ → ℕ → Bool
is_another player other = not (other == 0) && not (other == player)

-- Another player owns or reserves this controller.
abbrev pub is_anothers : ℕ → Option Object → Bool
is_anothers player None = false
is_anothers player (Some controller) =
    is_another player controller.owner || is_another player controller.other
