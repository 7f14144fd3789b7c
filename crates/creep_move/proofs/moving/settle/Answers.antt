use Rattle.creep_move.proofs.Moved.{goers, is_moved}
use Rattle.creep_move.proofs.moving.settle.Goals as goal

pub land_all-requires-clause-goers : goal.land_all-requires-clause-goers
land_all-requires-clause-goers c =
    goers c.args.terrain.now c.args.room.now c.stands_in_order.ensures.rising c.requires.movable c.args.moves.now c.requires.once c.decide.new.comes c.decide.new.best c.decide.new.held c.decide.ensures

pub returns-clause-rule : goal.returns-clause-rule
returns-clause-rule c =
    is_moved c.args.terrain.now c.args.room.now c.stands_in_order.ensures.rising c.requires.movable c.args.moves.now c.requires.once c.decide.new.comes c.decide.new.best c.decide.new.held c.decide.ensures c.land_all.new.room c.land_all.ensures.index c.land_all.ensures.next c.land_all.ensures.after
