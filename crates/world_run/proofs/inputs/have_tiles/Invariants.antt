use Rattle.std.proofs.Common.{take}
use Rattle.world_run.specs.inner.Held.{HaveTiles}
use Rattle.world_run.proofs.inputs.have_tiles.Given as goal

abbrev pub invariant-loop-room : goal.invariant-loop-room
invariant-loop-room l = HaveTiles (take l.room-index l.room-items)
