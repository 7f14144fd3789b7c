use Rattle.std.proofs.Common.{◌≡◌, [], ◌∷◌, ◌++◌, refl, sym, ap, ◌∙◌, arith}
use Rattle.world_gen.specs.Generator.{border, inner_tiles, state_after}
use Rattle.world_gen.proofs.Drawn.{state_next, state_none}
use Rattle.world_gen.proofs.Rows.{inner_next, inner_none, plus_none, row_whole}
use Rattle.world_gen.proofs.ground.put_inner_row.Goals as goal

pub loop-n-init : goal.loop-n-init
loop-n-init c = record {
  state = sym (state_none c.args.state.now);
  tiles =
      c.in_ok-push.ensures.items ∙ ap (λ v. c.args.tiles.now.items ++ v ∷ []) c.border.ensures
      ∙ plus_none (c.args.tiles.now.items ++ border c.args.y ∷ []) (inner_tiles c.args.state.now 0) (inner_none c.args.state.now);
}

pub loop-n-preserved : goal.loop-n-preserved
loop-n-preserved c = record {
  state =
      state_next c.args.state.now c.loop-n.state c.draw.new.state c.loop-n._n c.loop-n.invariant.state
      c.draw.ensures.state;
  tiles =
      inner_next c.args.state.now c.loop-n._n c.loop-n.state c.draw.result c.inner.result
      (c.args.tiles.now.items ++ border c.args.y ∷ []) c.loop-n.tiles.items c.push-in-loop-n.new.self.items
      c.loop-n.invariant.tiles c.loop-n.invariant.state c.draw.ensures.drawn c.inner.ensures
      c.in_ok-push-2.ensures.items;
}

pub returns-clause-added : goal.returns-clause-added
returns-clause-added c =
    let at_end : c.loop-n._n ≡ 48 = omega arith in
    row_whole c.args.state.now c.args.y (border c.args.y) c.args.tiles.now.items c.loop-n.tiles.items _
    (c.loop-n.invariant.tiles ∙ ap (λ k. (c.args.tiles.now.items ++ border c.args.y ∷ []) ++ inner_tiles c.args.state.now k) at_end)
    refl (c.in_ok-push-3.ensures.items ∙ ap (λ v. c.loop-n.tiles.items ++ v ∷ []) c.border-2.ensures)

pub returns-clause-state : goal.returns-clause-state
returns-clause-state c =
    let at_end : c.loop-n._n ≡ 48 = omega arith in
    c.loop-n.invariant.state ∙ ap (λ k. state_after c.args.state.now k) at_end
