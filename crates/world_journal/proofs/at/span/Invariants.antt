use Rattle.std.proofs.Common.{◌-◌, ◌^◌, List}
use Rattle.tick_journal.specs.declared.tick_record.TickRecord.{TickRecord}
use Rattle.world_journal.specs.inner.Found.{IsReading}
use Rattle.world_journal.proofs.at.span.Given as goal

abbrev pub invariant-each : goal.invariant-each
invariant-each g l =
    (entries : List TickRecord) × IsReading l.initial.walk.world entries l.walk (g.D.Disk.seen l.fn.disk) (g.D.Disk.seen l.disk) (g.D.Disk.moments l.fn.disk) (g.D.Disk.moments l.disk) (g.D.Disk.faults l.fn.disk) (g.D.Disk.faults l.disk)

abbrev pub decreases-each : goal.decreases-each
decreases-each g l = 2 ^ 62 - l.walk.gate
