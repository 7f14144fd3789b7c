use Rattle.std.proofs.Common.{◌==◌, refl, sym, ap, subst, ◌∙◌}
use Rattle.game_tables.specs.declared.action.Action.TheVariants.{Suicide}
use Rattle.room_table.specs.declared.object.Object.{Object}
use Rattle.room_table.specs.Tables.{IsOnTile}
use Rattle.world_rules.specs.Fights.{without_hits}
use Rattle.world_rules.specs.RoomParts.{table_part}
use Rattle.world_rules.specs.Steps.{by_object}
use Rattle.world_rules.proofs.TableParts.{all_found, part_replaced}
use Rattle.room_rules.specs.Calls.{Keeps}
use Rattle.room_rules.proofs.Calls.{keeps_after, keeps_itself, ready_set, set_in}
use Rattle.room_rules.proofs.Parties.{stands}
use Rattle.creep_combat.proofs.Found.{acting_found}
use Rattle.creep_combat.proofs.ending.suicide.Goals as goal

pub set-requires-clause-tile : goal.set-requires-clause-tile
set-requires-clause-tile c =
    let table = c.args.room.now in
    let creep = c.in-Some.creep in
    let found = acting_found Suicide c.args.intent.now table creep c.in-Some.ensures in
    let on = all_found IsOnTile (λ o. o.id == c.args.intent.now.actor) table.objects creep c.requires.ready.tiles found in
    record { column = on.column; row = on.row }

pub set-requires-clause-there : goal.set-requires-clause-there
set-requires-clause-there c =
    let found = acting_found Suicide c.args.intent.now c.args.room.now c.in-Some.creep c.in-Some.ensures in
    stands c.args.intent.now.actor c.args.room.now.objects c.in-Some.creep found

pub returns-clause-rule : goal.returns-clause-rule
returns-clause-rule c =
    let table = c.args.room.now in
    let creep = c.in-Some.creep in
    let ended : Object = record creep { hits = 0 } in
    let found = acting_found Suicide c.args.intent.now table creep c.in-Some.ensures in
    let there = stands c.args.intent.now.actor table.objects creep found in
    λ grounds.
    ap (table_part grounds) c.set.ensures
    ∙ part_replaced grounds table ended there
    ∙ ap (by_object without_hits (table_part grounds table)) (c.in-Some.ensures grounds)

pub returns-clause-keeps : goal.returns-clause-keeps
returns-clause-keeps c =
    let table = c.args.room.now in
    let creep = c.in-Some.creep in
    let ended : Object = record creep { hits = 0 } in
    let found = acting_found Suicide c.args.intent.now table creep c.in-Some.ensures in
    let on = all_found IsOnTile (λ o. o.id == c.args.intent.now.actor) table.objects creep c.requires.ready.tiles found in
    let ready = ready_set table ended (record { column = on.column; row = on.row }) c.requires.ready in
    subst (Keeps table) (sym c.set.ensures) (keeps_after table (set_in ended table) (set_in ended table) refl refl refl (keeps_itself (set_in ended table) ready))
