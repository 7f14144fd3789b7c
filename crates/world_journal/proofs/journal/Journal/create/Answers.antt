use Rattle.std.proofs.Common.{◌∙◌, rules}
use Rattle.world_io.specs.Moments.{no_moment}
use Rattle.world_io.proofs.Moments.{since_weaken}
use Rattle.world_journal.proofs.Written.{base_image, base_stands}
use Rattle.world_journal.proofs.journal.Journal.create.Goals as goal

pub returns-in_err-content-clause-each_moment : goal.returns-in_err-content-clause-each_moment
returns-in_err-content-clause-each_moment g c = λ bytes empty rests may. no_moment

pub returns-in_err-log-clause-each_moment : goal.returns-in_err-log-clause-each_moment
returns-in_err-log-clause-each_moment g c = λ bytes empty rests may.
    since_weaken (base_image c.args.base.now c.deref.result.now (c.deref.ensures.value ∙ c.in_ok-content.ensures.written) c.in_ok-content.ensures.fits may) (c.create.ensures.each_moment bytes empty rests)

pub returns-clause-each_moment : goal.returns-clause-each_moment
returns-clause-each_moment g c = λ bytes empty rests may.
    since_weaken (base_image c.args.base.now c.deref.result.now (c.deref.ensures.value ∙ c.in_ok-content.ensures.written) c.in_ok-content.ensures.fits may) (c.create.ensures.each_moment bytes empty rests)

pub returns-clause-done : goal.returns-clause-done
returns-clause-done g c = λ bytes empty rests may.
    base_stands c.args.base.now c.deref.result.now (c.deref.ensures.value ∙ c.in_ok-content.ensures.written) c.in_ok-content.ensures.fits may _ _ _ c.in_ok-log.ensures.gate (search rules) (c.in_ok-log.ensures.written bytes empty rests)
