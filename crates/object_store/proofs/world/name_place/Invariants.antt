use Rattle.std.proofs.Common.{◌<◌, ◌≤◌, ◌-◌, ◌+◌, ◌*◌, ◌^◌, ℕ, length, get_or}
use Rattle.object_store.specs.inner.Naming.{room_names, sort_number}
use Rattle.object_store.proofs.world.name_place.Given as goal

abbrev pub invariant-loop-low : goal.invariant-loop-low
invariant-loop-low l = record {
  within : l.high ≤ length l.by_name;
  ordered : l.low ≤ l.high;
  below : (k : ℕ) → k < l.low → sort_number (room_names l.rooms) (get_or l.by_name k 0) < l.number * 2 ^ 32 + l.index;
  above : (k : ℕ) → l.high ≤ k → k < length l.by_name → l.number * 2 ^ 32 + l.index ≤ sort_number (room_names l.rooms) (get_or l.by_name k 0);
}

abbrev pub decreases-loop-low : goal.decreases-loop-low
decreases-loop-low l = l.high - l.low
