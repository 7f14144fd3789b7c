use Rattle.std.proofs.Common.{◌≡◌}
use Rattle.std.specs.List.{AllByRecursion}
use Rattle.room_table.specs.Tables.{IsOnTile}
use Rattle.creep_move.specs.inner.Landing.{AreAfter}
use Rattle.creep_move.proofs.moving.land_all.Given as goal

-- the creeps that go to the tiles so far have stepped
abbrev pub invariant-loop-tile : goal.invariant-loop-tile
invariant-loop-tile l = record {
  after : AreAfter l.terrain l.fn.room.objects l.comes l.best l.held l.tile l.room.objects;
  index : l.room.index ≡ l.fn.room.index;
  next : l.room.next ≡ l.fn.room.next;
  spare : l.room.spare ≡ l.fn.room.spare;
  tallies : l.room.tallies ≡ l.fn.room.tallies;
  tiles : AllByRecursion IsOnTile l.room.objects;
}
