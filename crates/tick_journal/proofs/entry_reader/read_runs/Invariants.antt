use Rattle.std.proofs.Common.{◌≡◌, length}
use Rattle.tick_journal.specs.Contents.{run_bytes}
use Rattle.tick_journal.specs.TickForms.{HasRunForm, IsRisingBy}
use Rattle.tick_journal.specs.declared.entries.RunEntry.{RunEntry}
use Rattle.tick_journal.proofs.Listed.{IsUnder}
use Rattle.tick_journal.proofs.entry_reader.read_runs.Given as goal

abbrev pub invariant-each : goal.invariant-each
invariant-each l = record {
  counted : length l.list.items ≡ l.counter;
  rising : IsRisingBy (λ (run : RunEntry). run.player) l.list.items;
  under : IsUnder HasRunForm run_bytes l.count l.fn.from.0 l.list.items l.from.0;
}
