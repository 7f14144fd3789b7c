use Rattle.std.proofs.Common.{take}
use Rattle.world_io.proofs.Picks.{Keeps, Frees}
use Rattle.world_io.proofs.pending.fill_ranges.Given as goal

abbrev pub invariant-loop-at : goal.invariant-loop-at
invariant-loop-at l =
    record {
      inside : Frees (take l.at-index l.ranges) l.free l.image;
      outside : Keeps (take l.at-index l.ranges) l.fn.image l.image;
    }
