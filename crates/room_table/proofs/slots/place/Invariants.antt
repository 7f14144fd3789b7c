use Rattle.std.proofs.Common.{◌<◌, ◌≤◌, ◌-◌, ℕ, length, get_or}
use Rattle.room_table.specs.inner.Placed.{object_in}
use Rattle.room_table.proofs.slots.place.Given as goal

abbrev pub invariant-loop-low : goal.invariant-loop-low
invariant-loop-low l = record {
  within : l.high ≤ length l.order;
  ordered : l.low ≤ l.high;
  below : (k : ℕ) → k < l.low → (object_in l.slots (get_or l.order k 0)).id < l.id;
  above : (k : ℕ) → l.high ≤ k → k < length l.order → l.id ≤ (object_in l.slots (get_or l.order k 0)).id;
}

abbrev pub decreases-loop-low : goal.decreases-loop-low
decreases-loop-low l = l.high - l.low
