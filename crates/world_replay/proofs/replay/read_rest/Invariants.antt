use Rattle.std.proofs.Common.{◌≡◌, ◌-◌, ◌^◌, List, ◌++◌}
use Rattle.object_store.specs.Stored.{Stored}
use Rattle.tick_journal.specs.declared.tick_record.TickRecord.{TickRecord}
use Rattle.world_io.specs.Disk.{LengthIs}
use Rattle.world_journal.specs.Counted.{IsCounted}
use Rattle.world_journal.specs.Walking.{HasWalked}
use Rattle.world_replay.proofs.replay.read_rest.Given as goal

abbrev pub invariant-each : goal.invariant-each
invariant-each g l = record {
  walked : (base : Stored) (entries : List TickRecord) → HasWalked base entries l.fn.walk (g.D.Disk.seen l.fn.disk) → (later : List TickRecord) × HasWalked base (entries ++ later) l.walk (g.D.Disk.seen l.fn.disk);
  counted : IsCounted l.walk.world l.walk.census;
  length : LengthIs (g.D.Disk.seen l.fn.disk) l.walk.len;
  same : g.D.Disk.seen l.disk ≡ g.D.Disk.seen l.fn.disk;
  crash : g.D.Disk.moments l.disk ≡ g.D.Disk.moments l.fn.disk;
  steady : g.D.Disk.faults l.disk ≡ g.D.Disk.faults l.fn.disk;
}

abbrev pub decreases-each : goal.decreases-each
decreases-each g l = 2 ^ 62 - l.walk.gate
