use Rattle.std.proofs.Common.{◌≡◌, ◌==◌, true, Some, None, arith, ap, sym, ◌∙◌}
use Rattle.std.specs.FinMap.{get}
use Rattle.game_tables.specs.declared.action.Action.TheVariants.{Move}
use Rattle.room_table.specs.Tables.{IsOnTile}
use Rattle.world_rules.specs.RoomParts.{RoomPart, table_part}
use Rattle.world_rules.specs.Checks.{may_take_effect}
use Rattle.world_rules.proofs.Checked.{creep_acts}
use Rattle.world_rules.proofs.TableParts.{all_found, get_table_part, has_the_id}
use Rattle.creep_move.proofs.Candidates.{from_step, mover_by}
use Rattle.creep_move.proofs.candidate.candidate.Goals as goal

pub returns-in_default-clause-mover : goal.returns-in_default-clause-mover
returns-in_default-clause-mover c =
    let terrain = c.args.terrain.now in
    let table = c.args.room.now in
    let entry = c.args.intent.now in
    let takes : may_take_effect Move entry (table_part terrain table) ≡ true = sym (c.takes_effect.ensures terrain) ∙ c.if-not-takes_effect.false in
    mover_by (table_part terrain table) entry takes None (get_table_part terrain table entry.actor ∙ sym c.in_default.ensures)

pub toward-requires-clause-column : goal.toward-requires-clause-column
toward-requires-clause-column c = let on = all_found IsOnTile (λ o. o.id == c.args.intent.now.actor) c.args.room.now.objects c.in-Some.creep.now c.requires (sym c.in-Some.ensures) in omega (arith, on.column)

pub toward-requires-clause-row : goal.toward-requires-clause-row
toward-requires-clause-row c = let on = all_found IsOnTile (λ o. o.id == c.args.intent.now.actor) c.args.room.now.objects c.in-Some.creep.now c.requires (sym c.in-Some.ensures) in omega (arith, on.row)

pub returns-clause-mover : goal.returns-clause-mover
returns-clause-mover c =
    let terrain = c.args.terrain.now in
    let table = c.args.room.now in
    let entry = c.args.intent.now in
    let takes : may_take_effect Move entry (table_part terrain table) ≡ true = sym (c.takes_effect.ensures terrain) ∙ c.if-not-takes_effect.false in
    c.toward.ensures.mover ∙ mover_by (table_part terrain table) entry takes (Some c.in-Some.creep.now) (get_table_part terrain table entry.actor ∙ sym c.in-Some.ensures)

pub returns-clause-from : goal.returns-clause-from
returns-clause-from c =
    let terrain = c.args.terrain.now in
    let table = c.args.room.now in
    let entry = c.args.intent.now in
    let part : RoomPart = table_part terrain table in
    let creep = c.in-Some.creep.now in
    let takes : may_take_effect Move entry part ≡ true = sym (c.takes_effect.ensures terrain) ∙ c.if-not-takes_effect.false in
    let stands : get part.objects entry.actor ≡ Some creep = get_table_part terrain table entry.actor ∙ sym c.in-Some.ensures in
    from_step part creep c.toward.result (ap (get part.objects) (has_the_id entry.actor table.objects creep (sym c.in-Some.ensures)) ∙ stands) (creep_acts Move entry part creep stands takes) c.toward.ensures.from
