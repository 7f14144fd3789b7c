-- What is known of the run by stored worlds is all that is said of it.
use Rattle.world_run.proofs.Ended.{stored_ends}
use Rattle.world_run.proofs.Outliving.{outlives_shown}
use Rattle.world_run.proofs.run.run_by.Goals as goal

pub returns : goal.returns
returns g c =
    let e = c.run_stored.ensures in
    record {
      ends = stored_ends _ _ _ _ c.run_stored.result (record {
        done = e.done;
        only = e.only;
        usage = e.usage;
        said = e.words;
        world_refused = e.world_refused;
        world_accepted = e.world_accepted;
        uploads_refused = e.uploads_refused;
        uploads_accepted = e.uploads_accepted;
        journal_refused = e.journal_refused;
        other = e.other;
        other_kept = e.other_kept;
        exhausted = e.exhausted;
        read_fault = e.read_fault;
        write_fault = e.write_fault;
        disk_fault = e.disk_fault;
        untouched = e.untouched;
        write_stopped = e.write_stopped;
        disk_stopped = e.disk_stopped;
        memory_stopped = e.memory_stopped;
        unread = e.unread;
        uploads_unread = e.uploads_unread;
      });
      outlives = outlives_shown _ _ _ _ e.outlives;
      read_too = e.read_too;
      rests = e.rests;
      whole = λ good. e.complete good.world_bytes good.stream_bytes good.world good.stream good.run good.world_left good.form good.stream_left good.short good.list good.disk_bytes good.entries good.told good.stood good.world_holds good.uploads_hold good.sink_holds good.disk_holds;
      steady = record {
        read = e.read_steady;
        written = e.write_steady;
        disk = e.disk_steady;
        world_later = e.world_later;
        uploads_later = e.uploads_later;
        sink_later = e.out_later;
        disk_later = e.disk_later;
      };
    }
