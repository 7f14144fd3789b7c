use Rattle.std.proofs.Common.{◌≡◌, ◌<◌, ℕ, length, slice_get}
use Rattle.recorded_tick.proofs.changes.have_same_objects.Given as goal

abbrev pub invariant-loop-place : goal.invariant-loop-place
invariant-loop-place l = record {
  many : length l.one.objects ≡ length l.other.objects;
  alike : (k : ℕ) → k < l.place → slice_get l.one.objects k ≡ slice_get l.other.objects k;
}
