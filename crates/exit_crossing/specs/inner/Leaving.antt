-- The crossers of all rooms.
use Rattle.std.specs.Prelude.{ℕ, List}
use Rattle.std.specs.List.{flat_map}
use Rattle.object_store.specs.declared.world.Room.{Room}
use Rattle.exit_crossing.specs.Crossing.{crossers_of}
use Rattle.exit_crossing.specs.declared.leaving.Crosser.{Crosser}

abbrev pub id_of : Crosser → ℕ
id_of crosser = crosser.id

-- the crossers of these rooms, room by room
abbrev pub crossers_among : List Room → List Crosser
crossers_among rooms = flat_map (λ room. crossers_of room.table) rooms
