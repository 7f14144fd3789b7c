use Rattle.std.proofs.Common.{◌≡◌, filter, take}
use Rattle.kept_entries.specs.inner.Choosing.{stays}
use Rattle.kept_entries.proofs.entries.without_overruled.Given as goal

abbrev pub invariant-loop-place : goal.invariant-loop-place
invariant-loop-place l = l.kept.items ≡ filter (stays l.entries) (take l.place l.entries)
