use Rattle.std.proofs.Common.{◌≡◌, drop, length}
use Rattle.record_follows.specs.inner.Parts.{AreFirst}
use Rattle.record_follows.proofs.putting.first_tables.Given as goal

abbrev pub invariant-loop-at : goal.invariant-loop-at
invariant-loop-at l = record {
  count : length l.firsts.items ≡ l.rooms;
  first : AreFirst l.firsts.items (drop l.at l.tables);
}
