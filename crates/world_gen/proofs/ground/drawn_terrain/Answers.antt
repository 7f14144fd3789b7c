use Rattle.std.proofs.Common.{◌≡◌, List, length, subst, ap, ◌∙◌}
use Rattle.std.specs.Result.{IfOk}
use Rattle.room_terrain.specs.declared.terrain.Ground.{Ground}
use Rattle.world_gen.proofs.Rows.{ground_long, ground_whole}
use Rattle.world_gen.proofs.ground.drawn_terrain.Goals as goal

pub of-requires : goal.of-requires
of-requires c =
    ap length c.deref.ensures.value
    ∙ ground_long c.args.state.now c.in_ok-tiles.tiles.items c.put_border_row.new.tiles.items
    c.put_inner_rows.new.tiles.items c.put_border_row-2.new.tiles.items c.in_ok-tiles.ensures.items
    c.in_ok-put_border_row.ensures c.in_ok-put_inner_rows.ensures.added c.in_ok-put_border_row-2.ensures

pub returns-clause-made : goal.returns-clause-made
returns-clause-made c =
    subst (λ (v : List Ground). IfOk c.of.result (λ terrain. terrain ≡ v))
    (c.deref.ensures.value
    ∙ ground_whole c.args.state.now c.in_ok-tiles.tiles.items c.put_border_row.new.tiles.items
    c.put_inner_rows.new.tiles.items c.put_border_row-2.new.tiles.items c.in_ok-tiles.ensures.items
    c.in_ok-put_border_row.ensures c.in_ok-put_inner_rows.ensures.added c.in_ok-put_border_row-2.ensures)
    c.of.ensures
