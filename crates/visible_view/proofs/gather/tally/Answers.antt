use Rattle.std.proofs.Common.{sym, ◌∙◌}
use Rattle.visible_view.proofs.Gathering.{none_controlled, none_seen, none_sited}
use Rattle.visible_view.proofs.gather.tally.Goals as goal

pub returns-else-has_owner-clause-seen : goal.returns-else-has_owner-clause-seen
returns-else-has_owner-clause-seen c = sym (none_seen c.args.player c.args.table.now.objects (sym c.has_owner.ensures ∙ c.if-has_owner.false))

pub returns-else-has_owner-clause-sites : goal.returns-else-has_owner-clause-sites
returns-else-has_owner-clause-sites c = sym (none_sited c.args.player c.args.table.now.objects (sym c.has_owner.ensures ∙ c.if-has_owner.false))

pub returns-else-has_owner-clause-controllers : goal.returns-else-has_owner-clause-controllers
returns-else-has_owner-clause-controllers c = sym (none_controlled c.args.player c.args.table.now.objects (sym c.has_owner.ensures ∙ c.if-has_owner.false))
