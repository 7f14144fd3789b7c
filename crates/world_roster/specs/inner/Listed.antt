-- The entries of objects in the world, room by room, and what is found among them.
use Rattle.std.specs.Prelude.{ℕ, ◌==◌, List, Option, map, option_map}
use Rattle.std.specs.List.{find}
use Rattle.room_table.specs.declared.object.Object.{Object}
use Rattle.room_table.specs.declared.standing.Standing.{Standing}
use Rattle.object_store.specs.declared.world.Room.{Room}
use Rattle.world_rules.specs.World.{Placed, placed_from, listed_room, shown}
use Rattle.world_roster.specs.Rosters.{id_in}

-- the entries of the objects of the room of an index
abbrev pub placed_at : ℕ → List Object → List (ℕ × Placed)
placed_at room objects = map (λ object. (object.id, record { room = room; object = object })) objects

-- the entries of the objects of all rooms
abbrev pub placed_among : List Room → List (ℕ × Placed)
placed_among rooms = placed_from 0 (map listed_room rooms)

-- what stands under an id
abbrev pub standing_at : ℕ → List Standing → Option Placed
standing_at id all = option_map shown (find (λ standing. id_in standing == id) all)
