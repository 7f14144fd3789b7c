-- A moment of a disk in memory, as data.
use Rattle.world_io.specs.Moments.{Moment}
use Rattle.world_io.specs.declared.pending.Pending.{Pending}

abbrev pub moment_of : Pending → Moment
moment_of pending = record {
  synced = pending.synced.items;
  written = pending.written.items;
  least = pending.least;
  greatest = pending.greatest;
}
