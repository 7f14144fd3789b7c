use Rattle.std.proofs.Common.{◌≡◌, length}
use Rattle.world_bytes.specs.Forms.{intent_bytes}
use Rattle.tick_journal.specs.TickForms.{IsRisingBy}
use Rattle.tick_journal.specs.inner.Reading.{IsIntentOf, rank}
use Rattle.tick_journal.proofs.Listed.{IsUnder}
use Rattle.tick_journal.proofs.entry_reader.read_intents.Given as goal

abbrev pub invariant-each : goal.invariant-each
invariant-each l = record {
  counted : length l.list ≡ l.counter;
  rising : IsRisingBy rank l.list;
  under : IsUnder (IsIntentOf l.fn.player) intent_bytes l.count l.fn.from.0 l.list l.from.0;
}
