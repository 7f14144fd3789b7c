use Rattle.std.proofs.Common.{ap, sym, ◌∙◌}
use Rattle.world_rules.specs.RoomParts.{RoomPart, table_part}
use Rattle.world_rules.specs.Moves.{moved}
use Rattle.creep_move.proofs.Eached.{no_moves, nobody_moves_in}
use Rattle.creep_move.proofs.moving.settle_moves.Goals as goal

pub returns-then-is_empty-clause-rule : goal.returns-then-is_empty-clause-rule
returns-then-is_empty-clause-rule c =
    let part : RoomPart = table_part c.args.terrain.now c.args.room.now in
    sym (ap (λ moves. moved moves part) (no_moves c.args.moves.now c.if-is_empty.ensures) ∙ nobody_moves_in c.args.terrain.now c.args.room.now)
