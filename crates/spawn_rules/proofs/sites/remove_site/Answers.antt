use Rattle.std.proofs.Common.{ap, subst, sym, ◌∙◌}
use Rattle.room_table.specs.Tables.{removed}
use Rattle.world_rules.specs.RoomParts.{table_part}
use Rattle.room_rules.specs.Calls.{Keeps, KeepsTallies}
use Rattle.room_rules.proofs.Calls.{keeps_itself, ready_without, tallies_removed}
use Rattle.spawn_rules.proofs.Sited.{no_site_gone, site_gone}
use Rattle.spawn_rules.proofs.sites.remove_site.Goals as goal

pub returns-then-may_go-clause-rule : goal.returns-then-may_go-clause-rule
returns-then-may_go-clause-rule c = λ grounds.
    let entry = c.args.intent.now in
    ap (table_part grounds) c.remove.ensures.table
    ∙ site_gone grounds c.args.room.now entry (sym (c.may_go.ensures grounds) ∙ c.if-may_go.true)

pub returns-else-may_go-clause-rule : goal.returns-else-may_go-clause-rule
returns-else-may_go-clause-rule c = λ grounds.
    let entry = c.args.intent.now in
    no_site_gone grounds c.args.room.now entry (sym (c.may_go.ensures grounds) ∙ c.if-may_go.false)

pub returns-then-may_go-clause-keeps : goal.returns-then-may_go-clause-keeps
returns-then-may_go-clause-keeps c =
    let table = c.args.room.now in
    let id = c.args.intent.now.actor in
    let keeps = keeps_itself (removed id table) (ready_without table id c.requires.ready) in
    subst (Keeps table) (sym c.remove.ensures.table) (record { index = keeps.index; used = keeps.used; later = keeps.later; made = keeps.made; tiles = keeps.tiles })

pub returns-then-may_go-clause-tallies : goal.returns-then-may_go-clause-tallies
returns-then-may_go-clause-tallies c = subst (KeepsTallies c.args.room.now) (sym c.remove.ensures.table) (tallies_removed c.args.room.now c.args.intent.now.actor)
