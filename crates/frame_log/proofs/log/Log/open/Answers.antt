use Rattle.world_io.specs.Moments.{no_moment}
use Rattle.world_io.proofs.Moments.{since_weaken}
use Rattle.frame_log.proofs.Ends.{stands_cut, whole_cut, ends_there, is_log_there, is_log_cut}
use Rattle.frame_log.proofs.log.Log.open.Goals as goal

pub returns-then-len-gate-clause-each_moment : goal.returns-then-len-gate-clause-each_moment
returns-then-len-gate-clause-each_moment g c = λ contents rest has. no_moment

pub returns-then-len-gate-clause-done : goal.returns-then-len-gate-clause-done
returns-then-len-gate-clause-done g c = λ contents rest has. ends_there contents c.args.gate c.args.len rest _ _ c.requires.length c.if-len-gate.true has

pub returns-then-len-gate-clause-rests : goal.returns-then-len-gate-clause-rests
returns-then-len-gate-clause-rests g c = is_log_there c.args.gate c.args.len _ _ c.requires.length c.if-len-gate.true c.requires.closed

pub returns-in_err-cut_synced-clause-each_moment : goal.returns-in_err-cut_synced-clause-each_moment
returns-in_err-cut_synced-clause-each_moment g c = λ contents rest has. since_weaken (stands_cut has.front rest c.args.gate has.place contents has.spelled) (c.cut_synced.ensures.each_moment _ has.rests)

pub returns-clause-each_moment : goal.returns-clause-each_moment
returns-clause-each_moment g c = λ contents rest has. since_weaken (stands_cut has.front rest c.args.gate has.place contents has.spelled) (c.cut_synced.ensures.each_moment _ has.rests)

pub returns-clause-done : goal.returns-clause-done
returns-clause-done g c = λ contents rest has. record {
  front = has.front;
  spelled = has.spelled;
  place = has.place;
  rests = rw (whole_cut has.front rest c.args.gate has.place) at (c.in_ok-cut_synced.ensures.done _ has.rests);
}

pub returns-clause-rests : goal.returns-clause-rests
returns-clause-rests g c = is_log_cut c.args.gate _ _ _ _ c.requires.closed c.cut_synced.ensures.alike (returns-clause-done g c)
