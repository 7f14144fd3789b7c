use Rattle.std.proofs.Common.{◌-◌, ◌^◌, List}
use Rattle.room_table.specs.inner.Ordered.{Rises}
use Rattle.tick_journal.specs.declared.tick_record.TickRecord.{TickRecord}
use Rattle.world_journal.specs.inner.Uploads.{HasUploaded, uploads_in}
use Rattle.world_journal.specs.inner.Found.{IsReading}
use Rattle.world_journal.proofs.journal.Journal.recover.Given as goal

abbrev pub invariant-each : goal.invariant-each
invariant-each g l =
    (entries : List TickRecord) × IsReading l.initial.walk.world entries l.walk (g.D.Disk.seen l.fn.disk) (g.D.Disk.seen l.disk) (g.D.Disk.moments l.fn.disk) (g.D.Disk.moments l.disk) (g.D.Disk.faults l.fn.disk) (g.D.Disk.faults l.disk)
    × HasUploaded l.initial.walk.world.accounts (uploads_in entries) l.uploaded
    × Rises (λ count. count.player) l.uploaded.counts.items

abbrev pub decreases-each : goal.decreases-each
decreases-each g l = 2 ^ 62 - l.walk.gate
