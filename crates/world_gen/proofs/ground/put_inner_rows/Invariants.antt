use Rattle.std.proofs.Common.{◌≡◌, ◌*◌, ◌++◌}
use Rattle.world_gen.specs.Generator.{inner_rows, state_after}
use Rattle.world_gen.proofs.ground.put_inner_rows.Given as goal

abbrev pub invariant-loop-n : goal.invariant-loop-n
invariant-loop-n l = record {
  state : l.state ≡ state_after l.fn.state (48 * l.n);
  tiles : l.tiles.items ≡ l.fn.tiles.items ++ inner_rows l.fn.state l.n;
}
