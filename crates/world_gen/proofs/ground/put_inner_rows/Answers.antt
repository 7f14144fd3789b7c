use Rattle.std.proofs.Common.{◌≡◌, ◌+◌, ◌*◌, ◌++◌, refl, sym, ap, ◌∙◌, arith}
use Rattle.world_gen.specs.Generator.{inner_rows, state_after}
use Rattle.world_gen.proofs.Drawn.{state_next_by, state_none}
use Rattle.world_gen.proofs.Rows.{plus_none, rows_next, rows_none}
use Rattle.world_gen.proofs.ground.put_inner_rows.Goals as goal

pub loop-n-init : goal.loop-n-init
loop-n-init c = record {
  state = sym (state_none c.args.state.now);
  tiles = plus_none c.args.tiles.now.items (inner_rows c.args.state.now 0) (rows_none c.args.state.now);
}

pub loop-n-preserved : goal.loop-n-preserved
loop-n-preserved c = record {
  state =
      state_next_by 48 c.args.state.now c.loop-n.state c.put_inner_row.new.state c.loop-n.n
      c.loop-n.invariant.state c.in_ok-put_inner_row.ensures.state;
  tiles =
      rows_next c.args.state.now c.loop-n.n c.loop-n.state (c.loop-n.n + 1) c.args.tiles.now.items
      c.loop-n.tiles.items c.put_inner_row.new.tiles.items c.loop-n.invariant.tiles c.loop-n.invariant.state refl
      c.in_ok-put_inner_row.ensures.added;
}

pub returns-clause-added : goal.returns-clause-added
returns-clause-added c =
    let at_end : c.loop-n.n ≡ 48 = omega arith in
    c.loop-n.invariant.tiles ∙ ap (λ k. c.args.tiles.now.items ++ inner_rows c.args.state.now k) at_end

pub returns-clause-state : goal.returns-clause-state
returns-clause-state c =
    let at_end : c.loop-n.n ≡ 48 = omega arith in
    c.loop-n.invariant.state ∙ ap (λ k. state_after c.args.state.now (48 * k)) at_end
