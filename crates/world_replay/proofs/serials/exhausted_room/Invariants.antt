use Rattle.world_replay.proofs.SerialsLeft.{HaveSerialsTo}
use Rattle.world_replay.proofs.serials.exhausted_room.Given as goal

abbrev pub invariant-loop-index : goal.invariant-loop-index
invariant-loop-index l = HaveSerialsTo l.index l.room-items
