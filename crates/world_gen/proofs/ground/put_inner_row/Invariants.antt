use Rattle.std.proofs.Common.{◌≡◌, [], ◌∷◌, ◌++◌}
use Rattle.world_gen.specs.Generator.{border, inner_tiles, state_after}
use Rattle.world_gen.proofs.ground.put_inner_row.Given as goal

abbrev pub invariant-loop-n : goal.invariant-loop-n
invariant-loop-n l = record {
  state : l.state ≡ state_after l.fn.state l._n;
  tiles : l.tiles.items ≡ (l.fn.tiles.items ++ border l.fn.y ∷ []) ++ inner_tiles l.fn.state l._n;
}
