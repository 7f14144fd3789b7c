use Rattle.std.proofs.Common.{drop}
use Rattle.rule_check.specs.Kept.{AreOnTiles}
use Rattle.rule_check.proofs.keeps.are_on_tiles.Given as goal

abbrev pub invariant-loop-room : goal.invariant-loop-room
invariant-loop-room l = record {
  left : AreOnTiles (drop l.room-index l.rooms) → AreOnTiles l.rooms;
  whole : AreOnTiles l.rooms → AreOnTiles (drop l.room-index l.rooms);
}
