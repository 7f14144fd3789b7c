use Rattle.std.proofs.Common.{◌≡◌, map}
use Rattle.tick_journal.specs.Contents.{run_entry}
use Rattle.recorded_tick.proofs.record.run_entries.Given as goal

abbrev pub invariant-loop-run : goal.invariant-loop-run
invariant-loop-run l = l.entries.items ≡ map run_entry l.yielded
