use Rattle.std.proofs.Common.{◌+◌, Option, sym, ap, subst, ◌∙◌}
use Rattle.game_tables.specs.declared.action.Action.TheVariants.{Build}
use Rattle.game_tables.specs.declared.kind.Kind.{Kind}
use Rattle.room_table.specs.declared.object.Object.{Object}
use Rattle.room_table.specs.Tables.{Table, HasId}
use Rattle.world_rules.specs.RoomParts.{RoomPart, table_part}
use Rattle.world_rules.specs.Changes.{with_object as with_in_part}
use Rattle.world_rules.specs.Loads.{with_less}
use Rattle.world_rules.specs.Work.{advanced, built_as, built_by}
use Rattle.world_rules.proofs.TableParts.{part_replaced}
use Rattle.room_rules.specs.Calls.{IsReady}
use Rattle.room_rules.proofs.Calls.{ready_set}
use Rattle.room_rules.proofs.Parties.{are_there, has_replaced, ruled_by}
use Rattle.creep_work.proofs.building.build.Goals as goal

pub set-requires-clause-tile : goal.set-requires-clause-tile
set-requires-clause-tile c =
    let both = are_there Build c.args.intent.now c.args.room.now c.in-Some.creep c.in-Some.site c.in-Some.ensures c.requires.ready.tiles in
    record { column = both.creep_on.column; row = both.creep_on.row }

pub set-requires-clause-there : goal.set-requires-clause-there
set-requires-clause-there c =
    let both = are_there Build c.args.intent.now c.args.room.now c.in-Some.creep c.in-Some.site c.in-Some.ensures c.requires.ready.tiles in
    both.creep_there

pub advance-requires-clause-tile : goal.advance-requires-clause-tile
advance-requires-clause-tile c =
    let both = are_there Build c.args.intent.now c.args.room.now c.in-Some.creep c.in-Some.site c.in-Some.ensures c.requires.ready.tiles in
    record { column = both.target_on.column; row = both.target_on.row }

pub advance-requires-clause-there : goal.advance-requires-clause-there
advance-requires-clause-there c =
    let both = are_there Build c.args.intent.now c.args.room.now c.in-Some.creep c.in-Some.site c.in-Some.ensures c.requires.ready.tiles in
    subst (λ (t : Table). HasId c.in-Some.site.id t.objects) (sym c.set.ensures) (has_replaced c.in-Some.site.id (with_less c.work_put-work.result c.in-Some.creep) c.args.room.now.objects both.target_there)

pub advance-requires-clause-ready : goal.advance-requires-clause-ready
advance-requires-clause-ready c =
    let both = are_there Build c.args.intent.now c.args.room.now c.in-Some.creep c.in-Some.site c.in-Some.ensures c.requires.ready.tiles in
    subst IsReady (sym c.set.ensures) (ready_set c.args.room.now (with_less c.work_put-work.result c.in-Some.creep) (record { column = both.creep_on.column; row = both.creep_on.row }) c.requires.ready)

pub returns-clause-rule : goal.returns-clause-rule
returns-clause-rule c =
    let table = c.args.room.now in
    let creep = c.in-Some.creep in
    let site = c.in-Some.site in
    let both = are_there Build c.args.intent.now table creep site c.in-Some.ensures c.requires.ready.tiles in
    let less : Object = with_less c.work_put-work.result creep in
    let more : Object = record site { progress = site.progress + c.work_put-work.result } in
    let kind = c.in-Some-site_building.kind in
    let work = c.work_put-work.ensures.put in
    λ grounds.
    let part : RoomPart = table_part grounds table in
    c.advance.ensures.rule grounds
    ∙ ap (λ (t : Table). advanced kind more (table_part grounds t)) c.set.ensures
    ∙ ap (advanced kind more) (part_replaced grounds table less both.creep_there)
    ∙ (λ i. advanced kind (record site { progress = site.progress + work i }) (with_in_part (with_less (work i) creep) part))
    ∙ ap (λ (o : Option Kind). built_as o creep site part) c.in-Some-site_building.ensures
    ∙ ruled_by Build c.args.intent.now table creep site c.in-Some.ensures built_by grounds
