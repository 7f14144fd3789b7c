use Rattle.std.proofs.Common.{◌≡◌, ◌≤◌, ◌+◌, length, take, vec_capacity}
use Rattle.room_table.specs.inner.Tallied.{tallies_in}
use Rattle.room_table.proofs.slots.copied_tallies.Given as goal

abbrev pub invariant-loop-slot : goal.invariant-loop-slot
invariant-loop-slot l = (l.copy.items ≡ tallies_in l.tallies (take l.slot-index l.order)) × (length l.order + l.spare ≤ vec_capacity l.copy)
