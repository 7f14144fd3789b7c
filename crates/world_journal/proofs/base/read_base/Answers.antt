use Rattle.std.proofs.Common.{subst}
use Rattle.tick_journal.proofs.BaseContents.{base_one}
use Rattle.world_journal.specs.Journals.{KeepsRules}
use Rattle.world_journal.proofs.base.read_base.Goals as goal

pub returns-else-branch-clause-malformed : goal.returns-else-branch-clause-malformed
returns-else-branch-clause-malformed c = λ told world spells keeps.
    let same = base_one c.args.content.now world c.in_ok-world.world spells c.in_ok-world.ensures.found in
    let kept = subst KeepsRules same keeps in
    (rw c.if-branch.false at c.in_ok-keeps_rules.ensures) (kept.tiles, kept.rules)
