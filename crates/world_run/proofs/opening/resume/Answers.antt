use Rattle.std.proofs.Common.{◌∙◌, ap, sym, subst}
use Rattle.hosted_tick.specs.Hosting.{IsHosted}
use Rattle.site_limit.specs.FewSites.{HaveFewSites}
use Rattle.tick_journal.specs.BaseForms.{world_as_read}
use Rattle.world_run.proofs.Opened.{course_as_read}
use Rattle.world_run.proofs.opening.resume.Goals as goal

pub returns-clause-at_end : goal.returns-clause-at_end
returns-clause-at_end c = λ entries found.
    let can = c.courses_can_be_hosted.ensures c.args.found.base entries found.course in
    let world = c.in_ok-hosted.ensures.world ∙ found.world in
    record {
      world = ap world_as_read world ∙ course_as_read c.args.found.base entries found.course;
      modules = c.in_ok-hosted.ensures.modules ∙ found.modules;
      hosted = subst IsHosted (sym world) can.0;
      few = subst HaveFewSites (sym world) can.1;
    }
