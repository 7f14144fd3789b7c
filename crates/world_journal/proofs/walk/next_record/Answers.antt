use Rattle.std.proofs.Common.{subst}
use Rattle.record_follows.specs.Follows.{Follows}
use Rattle.tick_journal.specs.declared.tick_record.TickRecord.{TickRecord}
use Rattle.tick_journal.proofs.Ticks.{spelled_one}
use Rattle.world_journal.proofs.walk.next_record.Goals as goal

pub returns-else-branch-clause-none : goal.returns-else-branch-clause-none
returns-else-branch-clause-none c = λ entry spells follows.
    let same = spelled_one c.args.content.now entry c.in-Ok.entry spells c.in-Ok.ensures.found in
    (rw c.if-branch.false at c.in_ok-advance.ensures) (subst (λ (e : TickRecord). Follows c.args.world.now e) same follows)
