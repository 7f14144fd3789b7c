-- The total so far and the energy of the objects to come are that of all, each of which has less than 2^64.
use Rattle.std.proofs.Common.{◌≡◌, ◌≤◌, ◌+◌, ◌*◌, ◌^◌, length}
use Rattle.std.specs.List.{sum_by}
use Rattle.run_lines.proofs.lines.room_energy.Given as goal

abbrev pub invariant-loop-object : goal.invariant-loop-object
invariant-loop-object l = record {
  summed : l.total + sum_by (λ object. object.energy) l.object-iterator ≡ sum_by (λ object. object.energy) l.fn.objects;
  within : l.total + length l.object-iterator * 2 ^ 64 ≤ length l.fn.objects * 2 ^ 64;
}
