use Rattle.std.proofs.Common.{◌≡◌, ◌≤◌, vec_capacity}
use Rattle.std.specs.List.{range_with_len}
use Rattle.room_table.proofs.slots.numbers.Given as goal

abbrev pub invariant-loop-slot : goal.invariant-loop-slot
invariant-loop-slot l = (l.order.items ≡ range_with_len 0 l.slot) × (l.room ≤ vec_capacity l.order)
