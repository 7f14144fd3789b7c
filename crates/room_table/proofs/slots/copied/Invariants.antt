use Rattle.std.proofs.Common.{◌≡◌, ◌≤◌, ◌+◌, length, take, vec_capacity}
use Rattle.room_table.specs.inner.Placed.{standing}
use Rattle.room_table.proofs.slots.copied.Given as goal

abbrev pub invariant-loop-slot : goal.invariant-loop-slot
invariant-loop-slot l = (l.copy.items ≡ standing l.slots (take l.slot-index l.order)) × (length l.order + l.spare ≤ vec_capacity l.copy)
