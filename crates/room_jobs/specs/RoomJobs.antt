-- What a worker makes of a room.
use Rattle.std.specs.Prelude.{◌≡◌, ℕ, List, Some, slice_get}
use Rattle.intent_book.specs.declared.intent.Intent.{Intent}
use Rattle.object_store.specs.declared.world.Room.{Room}
use Rattle.room_step.specs.Stepping.{IsStepped}
use Rattle.room_step.specs.Steps.{list_at}
use Rattle.room_step.specs.declared.step.StepDone.{StepDone}

-- It is the step of the room at a place by its list of entries.
abbrev pub IsStepDone : List Room → List (List Intent) → ℕ → StepDone → Type 0
IsStepDone rooms lists k done =
    (room : Room) → slice_get rooms k ≡ Some room
    → IsStepped room.terrain (list_at lists k) room.table done
