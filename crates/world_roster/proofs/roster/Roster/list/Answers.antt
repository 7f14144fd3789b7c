use Rattle.std.proofs.Common.{map, sym, ap, ◌∙◌}
use Rattle.std.specs.FinMap.{entries}
use Rattle.world_rules.specs.World.{Objects}
use Rattle.world_roster.specs.Rosters.{shown_entry}
use Rattle.world_roster.proofs.Known.{listed}
use Rattle.world_roster.proofs.roster.Roster.list.Goals as goal

pub returns-clause-all : goal.returns-clause-all
returns-clause-all c =
    ap (map shown_entry) c.deref.ensures.value
    ∙ sym (listed c.self.inside.all.items c.self.invariant)
    ∙ ap (λ (objects : Objects). entries objects) c.self.view_is
