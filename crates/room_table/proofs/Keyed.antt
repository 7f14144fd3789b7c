-- Objects rise by their ids.
use Rattle.std.proofs.Common.{ℕ, List, [], ◌∷◌}
use Rattle.room_table.specs.declared.object.Object.{Object}
use Rattle.room_table.specs.Tables.{IsRising}
use Rattle.room_table.proofs.Rising.{Rises}

abbrev pub id_of : Object → ℕ
id_of object = object.id

pub rises_from_objects : (objects : List Object) → IsRising objects → Rises id_of objects
rises_from_objects [] rising = tt
rises_from_objects (first ∷ objects) rising = (rising.0, rises_from_objects objects rising.1)

pub objects_from_rises : (objects : List Object) → Rises id_of objects → IsRising objects
objects_from_rises [] rises = tt
objects_from_rises (first ∷ objects) rises = (rises.0, objects_from_rises objects rises.1)
