use Rattle.std.proofs.Common.{List, map, sym, ap, ◌∙◌}
use Rattle.std.specs.Cmp.{nat_cmp_total}
use Rattle.std.specs.FinMap.{get, get-from_entries}
use Rattle.room_table.specs.declared.standing.Standing.{Standing}
use Rattle.world_rules.specs.World.{Objects}
use Rattle.world_roster.specs.Rosters.{shown_entry}
use Rattle.world_roster.specs.inner.Listed.{standing_at}
use Rattle.world_roster.proofs.Known.{shown_found}
use Rattle.world_roster.proofs.roster.Roster.get.Goals as goal

pub returns : goal.returns
returns c =
    let all = c.self.inside.all.items in
    c.standing_of.ensures
    ∙ ap (λ (standings : List Standing). standing_at c.args.id standings) c.deref.ensures.value
    ∙ shown_found c.args.id all
    ∙ sym (get-from_entries nat_cmp_total (map shown_entry all) c.args.id)
    ∙ ap (λ (objects : Objects). get objects c.args.id) c.self.view_is
