use Rattle.std.proofs.Common.{◌-◌, ◌^◌}
use Rattle.world_journal.specs.inner.Found.{IsReading}
use Rattle.world_journal.proofs.at.records.Given as goal

abbrev pub invariant-each : goal.invariant-each
invariant-each g l =
    IsReading l.initial.walk.world l.entries.items l.walk (g.D.Disk.seen l.fn.disk) (g.D.Disk.seen l.disk) (g.D.Disk.moments l.fn.disk) (g.D.Disk.moments l.disk) (g.D.Disk.faults l.fn.disk) (g.D.Disk.faults l.disk)

abbrev pub decreases-each : goal.decreases-each
decreases-each g l = 2 ^ 62 - l.walk.gate
