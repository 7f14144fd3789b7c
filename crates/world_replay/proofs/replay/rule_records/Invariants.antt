use Rattle.std.proofs.Common.{◌-◌, ◌^◌, List}
use Rattle.changed_rules.specs.Census.{ArePlaced}
use Rattle.recorded_tick.specs.Recording.{AreReadAlike}
use Rattle.tick_journal.specs.declared.tick_record.TickRecord.{TickRecord}
use Rattle.world_journal.specs.inner.Found.{IsPassing}
use Rattle.world_replay.specs.Replayed.{AllRuled}
use Rattle.world_replay.proofs.replay.rule_records.Given as goal

abbrev pub invariant-each : goal.invariant-each
invariant-each g l =
    (entries : List TickRecord) × IsPassing l.fn.walk.world entries l.walk (g.D.Disk.seen l.fn.disk) (g.D.Disk.seen l.disk) (g.D.Disk.moments l.fn.disk) (g.D.Disk.moments l.disk) (g.D.Disk.faults l.fn.disk) (g.D.Disk.faults l.disk)
    × AllRuled l.fn.walk.world entries × AreReadAlike l.own l.walk.world × ArePlaced l.walk.world.rooms

abbrev pub decreases-each : goal.decreases-each
decreases-each g l = 2 ^ 62 - l.walk.gate
