use Rattle.std.proofs.Common.{◌≡◌, ◌++◌}
use Rattle.world_gen.specs.Generator.{border_tiles}
use Rattle.world_gen.proofs.ground.put_border_row.Given as goal

abbrev pub invariant-loop-x : goal.invariant-loop-x
invariant-loop-x l = l.tiles.items ≡ l.fn.tiles.items ++ border_tiles l.x
