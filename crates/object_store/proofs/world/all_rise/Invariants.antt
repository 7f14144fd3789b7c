use Rattle.std.proofs.Common.{take}
use Rattle.object_store.specs.Stored.{HaveRisingTables}
use Rattle.object_store.proofs.world.all_rise.Given as goal

abbrev pub invariant-loop-room : goal.invariant-loop-room
invariant-loop-room l = HaveRisingTables (take l.room-index l.rooms)
