use Rattle.std.proofs.Common.{◌≡◌, ◌<◌, ◌==◌, ◌&&◌, ℕ, false, get_or}
use Rattle.game_tables.specs.Numbers.{kind_number}
use Rattle.room_table.specs.inner.Placed.{object_in}
use Rattle.room_table.proofs.slots.search.Given as goal

abbrev pub invariant-loop-slot : goal.invariant-loop-slot
invariant-loop-slot l = (k : ℕ) → k < l.slot-index → let o = object_in l.slots (get_or l.order k 0) in ((o.x == l.x) && (o.y == l.y) && (kind_number o.kind == kind_number l.kind)) ≡ false
