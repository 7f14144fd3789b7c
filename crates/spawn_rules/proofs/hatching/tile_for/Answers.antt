use Rattle.std.proofs.Common.{sym, ◌∙◌, ◌≤◌}
use Rattle.world_rules.specs.RoomParts.{table_part}
use Rattle.spawn_rules.proofs.Around.{none_there, nothing}
use Rattle.spawn_rules.proofs.hatching.tile_for.Goals as goal

pub loop-number-preserved : goal.loop-number-preserved
loop-number-preserved c =
    let part = table_part c.args.ground.now c.args.room.now in
    let within : c.loop-number.number ≤ 8 = c.loop-number-test.true in
    none_there part c.args.spawn.now c.loop-number.number c.loop-number.invariant within (nothing c.free_ahead-found.result (sym c.is_some.ensures ∙ c.if-is_some.false) ∙ c.free_ahead-found.ensures.tile)
