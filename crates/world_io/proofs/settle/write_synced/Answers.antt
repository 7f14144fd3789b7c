use Rattle.std.proofs.Common.{length}
use Rattle.world_io.specs.Moments.{torn}
use Rattle.world_io.proofs.Images.{image_torn, written_torn}
use Rattle.world_io.proofs.Moments.{since_step, since_sync}
use Rattle.world_io.proofs.settle.write_synced.Goals as goal

pub returns-in_err-write_at-clause-each_moment : goal.returns-in_err-write_at-clause-each_moment
returns-in_err-write_at-clause-each_moment g c = λ bytes rests.
    let within = rw rests.read at c.requires in
    let n = length c.args.piece.now in
    since_step (torn c.args.at n) bytes _ _ _ rests c.write_at.ensures.crash
    (image_torn c.args.at n bytes within)

pub returns-clause-each_moment : goal.returns-clause-each_moment
returns-clause-each_moment g c = λ bytes rests.
    let within = rw rests.read at c.requires in
    let n = length c.args.piece.now in
    let begun = since_step (torn c.args.at n) bytes _ _ _ rests c.write_at.ensures.crash
    (image_torn c.args.at n bytes within) in
    let read = rw rests.read at c.in_ok-write_at.ensures.told in
    since_sync _ _ _ _ _ _ begun read (written_torn c.args.at c.args.piece.now bytes within)
    c.sync.ensures.crash c.sync.ensures.failed
