use Rattle.std.proofs.Common.{◌∙◌}
use Rattle.world_io.specs.Moments.{no_moment}
use Rattle.world_io.proofs.Moments.{since_weaken}
use Rattle.world_journal.proofs.Written.{record_image, record_stands}
use Rattle.world_journal.proofs.journal.Journal.append.Goals as goal

pub returns-then-is_closed-clause-each_moment : goal.returns-then-is_closed-clause-each_moment
returns-then-is_closed-clause-each_moment g c = λ base entries has may. no_moment

pub returns-in_err-content-clause-each_moment : goal.returns-in_err-content-clause-each_moment
returns-in_err-content-clause-each_moment g c = λ base entries has may. no_moment

pub returns-in_err-append-clause-each_moment : goal.returns-in_err-append-clause-each_moment
returns-in_err-append-clause-each_moment g c = λ base entries has may.
    since_weaken (record_image base entries c.args.entry.now c.deref.result.now (c.deref.ensures.value ∙ c.in_ok-content.ensures.written) c.in_ok-content.ensures.fits may has.contents has.are) (c.append.ensures.each_moment has.contents has.has)

pub returns-clause-each_moment : goal.returns-clause-each_moment
returns-clause-each_moment g c = λ base entries has may.
    since_weaken (record_image base entries c.args.entry.now c.deref.result.now (c.deref.ensures.value ∙ c.in_ok-content.ensures.written) c.in_ok-content.ensures.fits may has.contents has.are) (c.append.ensures.each_moment has.contents has.has)

pub returns-clause-done : goal.returns-clause-done
returns-clause-done g c = λ base entries has may.
    record_stands base entries c.args.entry.now c.deref.result.now (c.deref.ensures.value ∙ c.in_ok-content.ensures.written) c.in_ok-content.ensures.fits may has.contents has.are _ _ _ (c.in_ok-append.ensures.done has.contents has.has)
