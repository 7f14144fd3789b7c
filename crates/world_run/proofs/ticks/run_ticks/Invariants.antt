use Rattle.std.proofs.Common.{◌≡◌, ◌+◌, ◌≤◌, ℕ, false}
use Rattle.frame_log.specs.Frames.{IsLog}
use Rattle.upload_stream.specs.Streams.{uploads_at}
use Rattle.hosted_tick.specs.Hosting.{IsHosted}
use Rattle.recorded_tick.specs.Recording.{StandsAt}
use Rattle.site_limit.specs.FewSites.{HaveFewSites}
use Rattle.world_run.proofs.RunsLists.{Along}
use Rattle.world_run.proofs.ticks.run_ticks.Given as goal

abbrev pub invariant-loop-turn : goal.invariant-loop-turn
invariant-loop-turn g l =
    record {
      along : Along (g.D.Disk.seen l.fn.disk) (g.D.Disk.moments l.fn.disk) (g.D.Disk.seen l.disk) (g.D.Disk.moments l.disk) (g.O.Sink.written l.fn.out) (g.O.Sink.written l.out) l.fn.stream l.fn.first l._turn l.kept;
      hosted : IsHosted l.kept.hosted.world;
      few : HaveFewSites l.kept.hosted.world;
      recorder : StandsAt l.kept.recorder l.kept.hosted.world;
      tick : l.kept.hosted.world.tick ≡ l.fn.first.hosted.world.tick + l._turn;
      left : (tick : ℕ) → l.kept.hosted.world.tick ≤ tick → uploads_at tick l.left ≡ uploads_at tick l.fn.stream;
      is_open : l.kept.journal.log.is_closed ≡ false;
      log : IsLog l.kept.journal.log.gate (g.D.Disk.seen l.disk) (g.D.Disk.moments l.disk);
      out_steady : g.O.Sink.faults l.out ≡ g.O.Sink.faults l.fn.out;
      disk_steady : g.D.Disk.faults l.disk ≡ g.D.Disk.faults l.fn.disk;
    }
