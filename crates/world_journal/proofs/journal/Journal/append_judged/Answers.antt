use Rattle.std.proofs.Common.{drop}
use Rattle.judged_uploads.specs.Judging.{with_uploads}
use Rattle.world_io.specs.Moments.{no_moment}
use Rattle.world_io.proofs.Moments.{since_weaken}
use Rattle.world_journal.proofs.Written.{record_image, record_stands}
use Rattle.world_journal.proofs.journal.Journal.append_judged.Goals as goal

pub returns-then-is_closed-clause-each_moment : goal.returns-then-is_closed-clause-each_moment
returns-then-is_closed-clause-each_moment g c = λ base entries has may. no_moment

pub returns-in_err-piece-clause-each_moment : goal.returns-in_err-piece-clause-each_moment
returns-in_err-piece-clause-each_moment g c = λ base entries has may. no_moment

pub returns-in_err-append_piece-clause-each_moment : goal.returns-in_err-append_piece-clause-each_moment
returns-in_err-append_piece-clause-each_moment g c = λ base entries has may.
    since_weaken (record_image base entries (with_uploads c.args.judged.now c.args.entry.now) (drop 8 c.in_ok-piece.piece.items) c.in_ok-piece.ensures.written c.in_ok-piece.ensures.fits may has.contents has.are) (c.append_piece.ensures.each_moment has.contents has.has)

pub returns-clause-each_moment : goal.returns-clause-each_moment
returns-clause-each_moment g c = λ base entries has may.
    since_weaken (record_image base entries (with_uploads c.args.judged.now c.args.entry.now) (drop 8 c.in_ok-piece.piece.items) c.in_ok-piece.ensures.written c.in_ok-piece.ensures.fits may has.contents has.are) (c.append_piece.ensures.each_moment has.contents has.has)

pub returns-clause-done : goal.returns-clause-done
returns-clause-done g c = λ base entries has may.
    record_stands base entries (with_uploads c.args.judged.now c.args.entry.now) (drop 8 c.in_ok-piece.piece.items) c.in_ok-piece.ensures.written c.in_ok-piece.ensures.fits may has.contents has.are _ _ _ (c.in_ok-append_piece.ensures.done has.contents has.has)
