use Rattle.world_io.specs.Moments.{shortened}
use Rattle.world_io.proofs.Images.{image_shortened, taken_shortened}
use Rattle.world_io.proofs.Moments.{since_step, since_sync}
use Rattle.world_io.proofs.settle.cut_synced.Goals as goal

pub returns-in_err-cut-clause-each_moment : goal.returns-in_err-cut-clause-each_moment
returns-in_err-cut-clause-each_moment g c = λ bytes rests.
    since_step (shortened c.args.len) bytes _ _ _ rests c.cut.ensures.crash (image_shortened c.args.len bytes)

pub returns-clause-each_moment : goal.returns-clause-each_moment
returns-clause-each_moment g c = λ bytes rests.
    let begun = since_step (shortened c.args.len) bytes _ _ _ rests c.cut.ensures.crash
    (image_shortened c.args.len bytes) in
    let read = rw rests.read at c.in_ok-cut.ensures.told in
    since_sync _ _ _ _ _ _ begun read (taken_shortened c.args.len bytes) c.sync.ensures.crash
    c.sync.ensures.failed
