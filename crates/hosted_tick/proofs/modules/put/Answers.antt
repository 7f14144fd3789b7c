use Rattle.std.proofs.Common.{sym, subst}
use Rattle.hosted_tick.specs.Hosting.{AreLinked, Kept}
use Rattle.hosted_tick.proofs.Kept.{modules_put, linked_put}
use Rattle.hosted_tick.proofs.modules.put.Goals as goal

pub returns-clause-kept : goal.returns-clause-kept
returns-clause-kept c =
    modules_put c.args.modules.now.entries c.insert.new.self.entries c.args.player
    (record { bytes = c.args.bytes; linked = c.args.linked }) (c.in_ok-insert.ensures.updates).0

pub returns-clause-linked : goal.returns-clause-linked
returns-clause-linked c =
    subst (λ (kept : Kept). AreLinked kept) (sym c.in_ok-insert.ensures.entries)
    (linked_put c.args.modules.now.entries c.args.player (record { bytes = c.args.bytes; linked = c.args.linked })
    c.requires.linked c.requires.accepted)
