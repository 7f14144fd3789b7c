use Rattle.std.proofs.Common.{◌≡◌, length}
use Rattle.std.specs.List.{AllByRecursion}
use Rattle.tick_journal.specs.BaseForms.{AreInPlace, HasBaseRoomForm}
use Rattle.tick_journal.specs.Contents.{base_room}
use Rattle.tick_journal.specs.inner.Rows.{list_row}
use Rattle.tick_journal.proofs.read_base.rooms_ahead.Given as goal

abbrev pub invariant-each : goal.invariant-each
invariant-each l = record {
  counted : length l.world.rooms ≡ l.index;
  places : AreInPlace l.world.rooms;
  forms : AllByRecursion HasBaseRoomForm l.world.rooms;
  whole : l.initial.from.0 ≡ list_row base_room l.world.rooms l.from.0;
  tick : l.world.tick ≡ l.initial.world.tick;
  accounts : l.world.accounts ≡ l.initial.world.accounts;
}
