use Rattle.std.proofs.Common.{◌≡◌, ◌++◌, ap, ◌∙◌, arith}
use Rattle.world_gen.specs.Generator.{border_tiles}
use Rattle.world_gen.proofs.Rows.{border_next, border_none, plus_none}
use Rattle.world_gen.proofs.ground.put_border_row.Goals as goal

pub loop-x-init : goal.loop-x-init
loop-x-init c = plus_none c.args.tiles.now.items (border_tiles 0) border_none

pub loop-x-preserved : goal.loop-x-preserved
loop-x-preserved c =
    border_next c.loop-x.x c.border.result c.args.tiles.now.items c.loop-x.tiles.items c.push.new.self.items
    c.loop-x.invariant c.border.ensures c.in_ok-push.ensures.items

pub returns : goal.returns
returns c =
    let at_end : c.loop-x.x ≡ 50 = omega arith in
    c.loop-x.invariant ∙ ap (λ k. c.args.tiles.now.items ++ border_tiles k) at_end
