use Rattle.std.proofs.Common.{◌<◌, ◌≤◌, subst}
use Rattle.world_io.specs.Moments.{no_moment}
use Rattle.world_io.proofs.Moments.{since_weaken}
use Rattle.frame_log.proofs.Ends.{empty_written, empty_cut_at}
use Rattle.frame_log.proofs.piece.clear.Goals as goal

pub returns-in_err-len-clause-each_moment : goal.returns-in_err-len-clause-each_moment
returns-in_err-len-clause-each_moment g c = λ bytes empty rests. rw c.len.ensures.crash no_moment

pub returns-then-len-gt1-clause-each_moment : goal.returns-then-len-gt1-clause-each_moment
returns-then-len-gt1-clause-each_moment g c = λ bytes empty rests.
    let each = rw (c.len.ensures.same, c.len.ensures.crash) at c.cut_synced.ensures.each_moment in
    let size = rw rests.read at c.in_ok-len.ensures.told in
    since_weaken (empty_cut_at bytes empty (subst (λ n. 1 < n) size c.if-len-gt1.true)) (each bytes rests)

pub returns-else-len-gt1-clause-each_moment : goal.returns-else-len-gt1-clause-each_moment
returns-else-len-gt1-clause-each_moment g c = λ bytes empty rests.
    let each = rw (c.len.ensures.same, c.len.ensures.crash) at c.write_synced.ensures.each_moment in
    let size = rw rests.read at c.in_ok-len.ensures.told in
    since_weaken (empty_written bytes (subst (λ n. n ≤ 1) size c.if-len-gt1.false)) (each bytes rests)
