use Rattle.std.proofs.Common.{◌≡◌, ◌++◌, drop}
use Rattle.object_store.specs.Stored.{HaveRisingTables}
use Rattle.exit_crossing.specs.inner.Leaving.{crossers_among}
use Rattle.exit_crossing.proofs.leaving.gather.Given as goal

abbrev pub invariant-loop-room : goal.invariant-loop-room
invariant-loop-room l =
    (l.all.items ++ crossers_among (drop l.room-index l.rooms) ≡ crossers_among l.rooms)
    × (HaveRisingTables (drop l.room-index l.rooms) → HaveRisingTables l.rooms)
