use Rattle.std.proofs.Common.{ap, ◌∙◌}
use Rattle.game_tables.specs.declared.action.Action.TheVariants.{Reserve}
use Rattle.room_table.specs.declared.object.Object.{Object}
use Rattle.world_rules.specs.RoomParts.{table_part}
use Rattle.world_rules.specs.Changes.{with_object as with_in_part}
use Rattle.world_rules.specs.Claims.{reserved_by}
use Rattle.room_rules.proofs.Parties.{are_there, ruled_by}
use Rattle.controller_rules.proofs.Targets.{keeps_set, part_set}
use Rattle.controller_rules.proofs.claiming.reserve.Goals as goal

pub set-requires-clause-tile : goal.set-requires-clause-tile
set-requires-clause-tile c =
    let both = are_there Reserve c.args.intent.now c.args.room.now c.in-Some.creep c.in-Some.controller c.in-Some.ensures c.requires.ready.tiles in
    record { column = both.target_on.column; row = both.target_on.row }

pub set-requires-clause-there : goal.set-requires-clause-there
set-requires-clause-there c =
    let both = are_there Reserve c.args.intent.now c.args.room.now c.in-Some.creep c.in-Some.controller c.in-Some.ensures c.requires.ready.tiles in
    both.target_there

pub returns-clause-rule : goal.returns-clause-rule
returns-clause-rule c =
    let table = c.args.room.now in
    let creep = c.in-Some.creep in
    let controller = c.in-Some.controller in
    let both = are_there Reserve c.args.intent.now table creep controller c.in-Some.ensures c.requires.ready.tiles in
    let after : Object = record controller { other = c.args.intent.now.player; other_ticks = c.ticks_reserved.result } in
    λ grounds.
    part_set table c.set.new.self after both.target_there (record { column = both.target_on.column; row = both.target_on.row }) c.set.ensures grounds
    ∙ ap (λ n. with_in_part (record controller { other = c.args.intent.now.player; other_ticks = n }) (table_part grounds table)) c.ticks_reserved.ensures
    ∙ ruled_by Reserve c.args.intent.now table creep controller c.in-Some.ensures (reserved_by c.args.intent.now.player) grounds

pub returns-clause-keeps : goal.returns-clause-keeps
returns-clause-keeps c =
    let table = c.args.room.now in
    let creep = c.in-Some.creep in
    let controller = c.in-Some.controller in
    let both = are_there Reserve c.args.intent.now table creep controller c.in-Some.ensures c.requires.ready.tiles in
    let after : Object = record controller { other = c.args.intent.now.player; other_ticks = c.ticks_reserved.result } in
    keeps_set table c.set.new.self after both.target_there (record { column = both.target_on.column; row = both.target_on.row }) c.set.ensures c.requires.ready
