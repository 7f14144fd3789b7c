use Rattle.std.proofs.Common.{◌≡◌, List, ◌++◌, vec_len}
use Rattle.room_table.specs.Tables.{Table}
use Rattle.record_follows.specs.inner.Parts.{with_rooms}
use Rattle.record_follows.proofs.putting.take_rooms.Given as goal

abbrev pub invariant-each : goal.invariant-each
invariant-each l = (later : List Table) × (l.fn.tables.items ≡ l.tables.items ++ later) × (l.world ≡ with_rooms later l.fn.world)

abbrev pub decreases-each : goal.decreases-each
decreases-each l = vec_len l.tables
