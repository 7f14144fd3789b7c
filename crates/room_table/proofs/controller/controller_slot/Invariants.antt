-- None of the objects so far is a controller.
use Rattle.std.proofs.Common.{◌≡◌, ◌<◌, ℕ, false, get_or}
use Rattle.game_tables.specs.Kinds.{is_controller}
use Rattle.room_table.specs.inner.Placed.{object_in}
use Rattle.room_table.proofs.controller.controller_slot.Given as goal

abbrev pub invariant-loop-slot : goal.invariant-loop-slot
invariant-loop-slot l = (k : ℕ) → k < l.slot-index → is_controller (object_in l.slots (get_or l.order k 0)).kind ≡ false
