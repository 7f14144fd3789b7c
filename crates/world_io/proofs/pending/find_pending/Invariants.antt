use Rattle.std.proofs.Common.{◌≤◌, length}
use Rattle.world_io.specs.Changes.{moments_of, latest}
use Rattle.world_io.proofs.Undo.{IsUndone}
use Rattle.world_io.proofs.pending.find_pending.Given as goal

abbrev pub invariant-loop-left : goal.invariant-loop-left
invariant-loop-left l =
    record {
      within : l.left ≤ length l.calls;
      undone : IsUndone (latest (moments_of l.bytes l.calls)) l.written.items l.least l.greatest l.synced.items
          l.calls l.left;
    }

abbrev pub decreases-loop-left : goal.decreases-loop-left
decreases-loop-left l = l.left
