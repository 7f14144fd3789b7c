use Rattle.std.proofs.Common.{subst}
use Rattle.record_follows.specs.Follows.{Fits}
use Rattle.tick_journal.specs.declared.tick_record.TickRecord.{TickRecord}
use Rattle.tick_journal.proofs.Ticks.{spelled_one}
use Rattle.world_journal.proofs.untested.next_fitting.Goals as goal

pub returns-then-not-branch-clause-none : goal.returns-then-not-branch-clause-none
returns-then-not-branch-clause-none c = λ entry spells also.
    let same = spelled_one c.args.content.now entry c.in-Ok.entry spells c.in-Ok.ensures.found in
    (rw c.if-not-branch.true at c.in_ok-fits.ensures) (subst (λ (e : TickRecord). Fits c.args.world.now e) same also)
