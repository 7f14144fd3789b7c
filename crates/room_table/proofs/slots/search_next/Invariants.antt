use Rattle.std.proofs.Common.{◌≡◌, ◌<◌, ◌&&◌, ℕ, false, get_or, leb}
use Rattle.room_table.specs.Tables.{is_on}
use Rattle.room_table.specs.inner.Placed.{object_in}
use Rattle.room_table.proofs.slots.search_next.Given as goal

abbrev pub invariant-loop-slot : goal.invariant-loop-slot
invariant-loop-slot l = (k : ℕ) → k < l.slot-index → let o = object_in l.slots (get_or l.order k 0) in (is_on l.x l.y o && leb l.id o.id) ≡ false
