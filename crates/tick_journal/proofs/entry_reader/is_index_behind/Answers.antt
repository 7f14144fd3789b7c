use Rattle.room_table.specs.Tables.{Table}
use Rattle.tick_journal.proofs.Rising.{behind_last_test}
use Rattle.tick_journal.proofs.entry_reader.is_index_behind.Goals as goal

pub returns-in-Some : goal.returns-in-Some
returns-in-Some c =
    rw c.index.ensures (behind_last_test (λ (table : Table). table.index) c.args.tables.now c.in-Some.last.now c.args.index c.requires c.in-Some.ensures.value)
