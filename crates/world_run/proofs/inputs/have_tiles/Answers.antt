use Rattle.std.proofs.Common.{◌∙◌, subst}
use Rattle.std.proofs.lemmas.List.{take_all}
use Rattle.world_run.specs.inner.Held.{HaveTiles}
use Rattle.world_run.proofs.inputs.have_tiles.Goals as goal

pub returns : goal.returns
returns c = subst HaveTiles (take_all c.loop-room.room-index c.room_list-room-items.result.now c.loop-room-test.false ∙ c.room_list-room-items.ensures.all) c.loop-room.invariant
