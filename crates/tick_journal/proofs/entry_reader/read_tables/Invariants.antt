use Rattle.std.proofs.Common.{◌≡◌, length}
use Rattle.room_table.specs.Tables.{Table}
use Rattle.world_bytes.specs.Forms.{room_bytes}
use Rattle.tick_journal.specs.TickForms.{IsRisingBy}
use Rattle.tick_journal.specs.inner.Reading.{IsReadTable}
use Rattle.tick_journal.proofs.Listed.{IsUnder}
use Rattle.tick_journal.proofs.entry_reader.read_tables.Given as goal

abbrev pub invariant-each : goal.invariant-each
invariant-each l = record {
  counted : length l.list.items ≡ l.counter;
  rising : IsRisingBy (λ (table : Table). table.index) l.list.items;
  under : IsUnder IsReadTable room_bytes l.count l.fn.from.0 l.list.items l.from.0;
}
