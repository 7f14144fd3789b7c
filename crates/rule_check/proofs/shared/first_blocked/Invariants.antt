use Rattle.std.proofs.Common.{◌≡◌, length}
use Rattle.rule_check.proofs.Minima.{NoneBelow}
use Rattle.rule_check.proofs.OnTiles.{AreTaken, BlockedAt}
use Rattle.rule_check.proofs.shared.first_blocked.Given as goal

abbrev pub invariant-loop-object : goal.invariant-loop-object
invariant-loop-object l = record {
  size : length l.tiles ≡ 2500;
  taken : AreTaken l.tiles l.room.objects.now l.object-index;
  apart : NoneBelow (BlockedAt l.room.objects.now) l.room.objects.now l.object-index;
}
