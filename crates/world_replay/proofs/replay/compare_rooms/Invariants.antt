use Rattle.std.proofs.Common.{◌≡◌, take, true}
use Rattle.world_replay.specs.Replayed.{forms}
use Rattle.world_replay.specs.inner.Ruling.{AreAlikeTo}
use Rattle.world_replay.proofs.replay.compare_rooms.Given as goal

abbrev pub invariant-loop-index : goal.invariant-loop-index
invariant-loop-index l = record {
  same : take l.index (forms l.kept) ≡ take l.index (forms l.ruled);
  alike : l.all ≡ true → AreAlikeTo l.index l.kept l.ruled;
}
