use Rattle.world_io.proofs.Moments.{since_trans}
use Rattle.frame_log.proofs.Frames.{rests_staged, gate_within, first_moments, second_moments}
use Rattle.frame_log.proofs.piece.commit.Goals as goal

pub returns-in_err-write_synced-clause-each_moment : goal.returns-in_err-write_synced-clause-each_moment
returns-in_err-write_synced-clause-each_moment g c = λ contents content fits is has.
    first_moments has.front c.args.gate has.place contents has.spelled content _ c.write_synced.ensures.each_moment has.rests

pub write_synced-requires-2 : goal.write_synced-requires-2
write_synced-requires-2 g c = gate_within _ _ _ _ c.args.gate c.args.piece.now c.requires.log c.write_synced.ensures.alike c.in_ok-write_synced.ensures.done

pub returns-clause-each_moment : goal.returns-clause-each_moment
returns-clause-each_moment g c = λ contents content fits is has.
    let rests = rests_staged has.front c.args.gate has.place c.args.piece.now c.in_ok-write_synced.ensures.done has.rests in
    since_trans (first_moments has.front c.args.gate has.place contents has.spelled content _ c.write_synced.ensures.each_moment has.rests)
    (second_moments has.front c.args.gate has.place contents has.spelled content c.args.piece.now fits is c.write_synced-2.ensures.each_moment rests)
