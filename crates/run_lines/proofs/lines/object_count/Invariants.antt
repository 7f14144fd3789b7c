-- The count so far is that of the rooms before the index, each of which has fewer than 2^32 objects.
use Rattle.std.proofs.Common.{◌≡◌, ◌≤◌, ◌*◌, ◌^◌, take}
use Rattle.std.specs.List.{sum_by}
use Rattle.run_lines.proofs.LinesSums.{room_count}
use Rattle.run_lines.proofs.lines.object_count.Given as goal

abbrev pub invariant-loop-room : goal.invariant-loop-room
invariant-loop-room l = record {
  counted : l.count ≡ sum_by room_count (take l.room-index l.room-items);
  within : l.count ≤ l.room-index * 2 ^ 32;
}
