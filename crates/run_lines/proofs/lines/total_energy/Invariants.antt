-- The total so far is that of the rooms before the index, each of which has less than 2^96.
use Rattle.std.proofs.Common.{◌≡◌, ◌≤◌, ◌*◌, ◌^◌, take}
use Rattle.std.specs.List.{sum_by}
use Rattle.run_lines.proofs.LinesSums.{room_total}
use Rattle.run_lines.proofs.lines.total_energy.Given as goal

abbrev pub invariant-loop-room : goal.invariant-loop-room
invariant-loop-room l = record {
  summed : l.total ≡ sum_by room_total (take l.room-index l.room-items);
  within : l.total ≤ l.room-index * 2 ^ 96;
}
