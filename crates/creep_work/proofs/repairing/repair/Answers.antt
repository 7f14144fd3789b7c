use Rattle.std.proofs.Common.{◌≡◌, ◌+◌, refl, sym, ap, subst, ◌∙◌}
use Rattle.game_tables.specs.declared.action.Action.TheVariants.{Repair}
use Rattle.room_table.specs.declared.object.Object.{Object}
use Rattle.room_table.specs.Tables.{Table, HasId}
use Rattle.world_rules.specs.RoomParts.{RoomPart, table_part}
use Rattle.world_rules.specs.Changes.{with_object as with_in_part}
use Rattle.world_rules.specs.Loads.{with_less}
use Rattle.world_rules.specs.Work.{hits_gained, repair_cost, repaired_by}
use Rattle.room_rules.specs.Calls.{Keeps}
use Rattle.room_rules.proofs.Calls.{set_in}
use Rattle.room_rules.proofs.Parties.{are_there, both_in, has_replaced, keeps_ready, part_both, ready_both, ruled_by}
use Rattle.creep_work.proofs.repairing.repair.Goals as goal

pub set-requires-clause-tile : goal.set-requires-clause-tile
set-requires-clause-tile c =
    let both = are_there Repair c.args.intent.now c.args.room.now c.in-Some.creep c.in-Some.building c.in-Some.ensures c.requires.ready.tiles in
    record { column = both.creep_on.column; row = both.creep_on.row }

pub set-requires-clause-there : goal.set-requires-clause-there
set-requires-clause-there c =
    let both = are_there Repair c.args.intent.now c.args.room.now c.in-Some.creep c.in-Some.building c.in-Some.ensures c.requires.ready.tiles in
    both.creep_there

pub set-requires-2-clause-tile : goal.set-requires-2-clause-tile
set-requires-2-clause-tile c =
    let both = are_there Repair c.args.intent.now c.args.room.now c.in-Some.creep c.in-Some.building c.in-Some.ensures c.requires.ready.tiles in
    record { column = both.target_on.column; row = both.target_on.row }

pub set-requires-2-clause-there : goal.set-requires-2-clause-there
set-requires-2-clause-there c =
    let both = are_there Repair c.args.intent.now c.args.room.now c.in-Some.creep c.in-Some.building c.in-Some.ensures c.requires.ready.tiles in
    subst (λ (t : Table). HasId c.in-Some.building.id t.objects) (sym c.set.ensures) (has_replaced c.in-Some.building.id (with_less c.repair_cost.result c.in-Some.creep) c.args.room.now.objects both.target_there)

pub returns-clause-rule : goal.returns-clause-rule
returns-clause-rule c =
    let table = c.args.room.now in
    let creep = c.in-Some.creep in
    let building = c.in-Some.building in
    let both = are_there Repair c.args.intent.now table creep building c.in-Some.ensures c.requires.ready.tiles in
    let less : Object = with_less c.repair_cost.result creep in
    let whole : Object = record building { hits = building.hits + c.hits_gained-gain.result } in
    let gain = c.hits_gained-gain.ensures.gained in
    let cost : c.repair_cost.result ≡ repair_cost (hits_gained creep building) = c.repair_cost.ensures ∙ ap repair_cost gain in
    λ grounds.
    let part : RoomPart = table_part grounds table in
    ap (table_part grounds) (c.set-2.ensures ∙ ap (set_in whole) c.set.ensures)
    ∙ part_both grounds table less whole both.creep_there both.target_there
    ∙ (λ i. with_in_part (record building { hits = building.hits + gain i }) (with_in_part (with_less (cost i) creep) part))
    ∙ ruled_by Repair c.args.intent.now table creep building c.in-Some.ensures repaired_by grounds

pub returns-clause-keeps : goal.returns-clause-keeps
returns-clause-keeps c =
    let table = c.args.room.now in
    let creep = c.in-Some.creep in
    let building = c.in-Some.building in
    let both = are_there Repair c.args.intent.now table creep building c.in-Some.ensures c.requires.ready.tiles in
    let less : Object = with_less c.repair_cost.result creep in
    let whole : Object = record building { hits = building.hits + c.hits_gained-gain.result } in
    subst (Keeps table) (sym (c.set-2.ensures ∙ ap (set_in whole) c.set.ensures))
    (keeps_ready table (both_in less whole table) refl refl refl (ready_both table less whole (record { column = both.creep_on.column; row = both.creep_on.row }) (record { column = both.target_on.column; row = both.target_on.row }) c.requires.ready))
