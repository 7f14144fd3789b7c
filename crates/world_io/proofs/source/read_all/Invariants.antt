use Rattle.std.proofs.Common.{◌≡◌, ◌-◌, ◌≤◌, length}
use Rattle.std.specs.Io.KnownBytes.{Consumes}
use Rattle.world_io.proofs.source.read_all.Given as goal

abbrev pub invariant-loop-want : goal.invariant-loop-want
invariant-loop-want g l =
    record {
      within : length l.out.items ≤ l.limit;
      taken : Consumes (g.S.Source.left l.fn.source) (g.S.Source.left l.source) l.out.items;
      kept : g.S.Source.faults l.source ≡ g.S.Source.faults l.fn.source;
    }

abbrev pub decreases-loop-want : goal.decreases-loop-want
decreases-loop-want g l = l.limit - length l.out.items
