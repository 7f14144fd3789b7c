use Rattle.std.proofs.Common.{◌≡◌, ℕ, ◌++◌, length, slice_get}
use Rattle.ruled_tick.specs.inner.Ticked.{moves_in, IsTickedAt}
use Rattle.ruled_tick.proofs.rooms.tick_all.Given as goal

abbrev pub invariant-loop-room : goal.invariant-loop-room
invariant-loop-room l = record {
  many : length l.ticked.items ≡ length l.yielded;
  all : l.yielded ++ l.room-iterator.rest.items ≡ l.fn.rooms.items;
  done : (k : ℕ) → IsTickedAt (moves_in k l.entries) (slice_get l.yielded k) (slice_get l.ticked.items k);
}
