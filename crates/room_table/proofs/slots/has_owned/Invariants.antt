use Rattle.std.proofs.Common.{◌≡◌, ◌<◌, ◌==◌, ℕ, false, get_or}
use Rattle.room_table.specs.inner.Placed.{object_in}
use Rattle.room_table.proofs.slots.has_owned.Given as goal

abbrev pub invariant-loop-slot : goal.invariant-loop-slot
invariant-loop-slot l = (k : ℕ) → k < l.slot-index → ((object_in l.slots (get_or l.order k 0)).owner == l.player) ≡ false
