use Rattle.std.proofs.Common.{◌+◌, drop, get_or, subst}
use Rattle.exit_crossing.proofs.Underway.{Underway, starts, can_cross, next, ends, left_one, left_none, still_forgotten}
use Rattle.exit_crossing.proofs.Sound.{sound_then}
use Rattle.exit_crossing.proofs.crossing.cross.Goals as goal

pub loop-crosser-init : goal.loop-crosser-init
loop-crosser-init c = starts c.args.world.now c.args.list.now c.requires.crossers c.requires.ready c.stands_in_order.ensures.tables

pub cross_over-requires : goal.cross_over-requires
cross_over-requires c =
    let list = c.args.list.now in
    let at = c.loop-crosser.crosser-index in
    let one = get_or list at (record { id = 0; room = 0 }) in
    can_cross c.args.world.now c.loop-crosser.world list one (drop (at + 1) list)
    (subst (Underway c.args.world.now c.loop-crosser.world list) (left_one list at (record { id = 0; room = 0 }) c.loop-crosser-test.true) c.loop-crosser.invariant)

pub loop-crosser-preserved : goal.loop-crosser-preserved
loop-crosser-preserved c =
    let list = c.args.list.now in
    let at = c.loop-crosser.crosser-index in
    let one = get_or list at (record { id = 0; room = 0 }) in
    next c.args.world.now c.loop-crosser.world list one (drop (at + 1) list)
    (subst (Underway c.args.world.now c.loop-crosser.world list) (left_one list at (record { id = 0; room = 0 }) c.loop-crosser-test.true) c.loop-crosser.invariant)
    c.cross_over.new.world c.cross_over.ensures

pub returns-clause-crossed : goal.returns-clause-crossed
returns-clause-crossed c =
    ends c.args.world.now c.loop-crosser.world c.args.list.now (drop c.loop-crosser.crosser-index c.args.list.now)
    (left_none c.args.list.now c.loop-crosser.crosser-index c.loop-crosser-test.false) c.loop-crosser.invariant

pub returns-clause-frames : goal.returns-clause-frames
returns-clause-frames c = c.loop-crosser.invariant.frames

pub returns-clause-sound : goal.returns-clause-sound
returns-clause-sound c sound = sound_then c.args.world.now c.loop-crosser.world c.loop-crosser.invariant.chain sound

pub returns-clause-forgotten : goal.returns-clause-forgotten
returns-clause-forgotten c forgotten = still_forgotten c.args.world.now.rooms c.loop-crosser.world.rooms c.loop-crosser.invariant.frames.rooms forgotten
