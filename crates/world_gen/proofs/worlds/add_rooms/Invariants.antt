use Rattle.std.proofs.Common.{◌≡◌, ◌*◌}
use Rattle.world_gen.specs.Generator.{rooms_from, state_after}
use Rattle.world_gen.proofs.worlds.add_rooms.Given as goal

abbrev pub invariant-loop-index : goal.invariant-loop-index
invariant-loop-index l = record {
  state : l.state ≡ state_after l.fn.seed (2306 * l.index);
  world : l.world ≡ record l.fn.world { rooms = rooms_from l.fn.seed l.fn.players l.index };
}
