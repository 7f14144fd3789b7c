-- The loan of a room's objects.
use Rattle.std.specs.Prelude.{ℕ, zero, suc, List, [], ◌∷◌}
use Rattle.std.specs.Borrow.{Lends, MutBor, Fml}
use Rattle.object_store.specs.declared.world.Room.{Room}
use Rattle.room_table.specs.Tables.{Table}
use Rattle.object_store.specs.Stored.{Stored}
use Rattle.object_store.specs.contracts.world.World as world
use Rattle.room_table.specs.contracts.room_table.RoomTable as table

-- the rooms with these objects in the room of an index
abbrev pub with_table : ℕ → Table → List Room → List Room
with_table index objects [] = []
with_table zero objects (room ∷ rooms) = record room { table = objects } ∷ rooms
with_table (suc index) objects (room ∷ rooms) = room ∷ with_table index objects rooms

-- The world ends with the objects of a room as they are at the end of the loan.
abbrev pub LendsTable : MutBor Stored → ℕ → MutBor Table → Fml
LendsTable whole index lent =
    Lends world.the_row table.the_row whole lent
    (λ objects. record whole.now { rooms = with_table index objects whole.now.rooms })
