use Rattle.std.proofs.Common.{◌≡◌, ℕ, ◌-◌, ◌*◌, min, sym, ap, subst, ◌∙◌}
use Rattle.game_tables.specs.declared.action.Action.TheVariants.{Harvest}
use Rattle.room_table.specs.declared.object.Object.{Object}
use Rattle.room_table.specs.Stores.{free_room}
use Rattle.room_table.specs.Tables.{Table, HasId}
use Rattle.world_rules.specs.RoomParts.{RoomPart, controller_of, table_part}
use Rattle.world_rules.specs.Changes.{with_object as with_in_part}
use Rattle.world_rules.specs.Drops.{fallen}
use Rattle.world_rules.specs.Loads.{with_less, with_more}
use Rattle.world_rules.specs.Work.{harvested_by, live_work}
use Rattle.room_rules.specs.Calls.{IsReady}
use Rattle.room_rules.proofs.Calls.{set_in}
use Rattle.room_rules.proofs.Parties.{are_there, has_replaced, part_both, ready_both, ruled_by}
use Rattle.creep_work.proofs.harvesting.harvest.Goals as goal

pub set-requires-clause-tile : goal.set-requires-clause-tile
set-requires-clause-tile c =
    let both = are_there Harvest c.args.intent.now c.args.room.now c.in-Some.creep c.in-Some.source c.in-Some.ensures c.requires.ready.tiles in
    record { column = both.target_on.column; row = both.target_on.row }

pub set-requires-clause-there : goal.set-requires-clause-there
set-requires-clause-there c =
    let both = are_there Harvest c.args.intent.now c.args.room.now c.in-Some.creep c.in-Some.source c.in-Some.ensures c.requires.ready.tiles in
    both.target_there

pub set-requires-2-clause-tile : goal.set-requires-2-clause-tile
set-requires-2-clause-tile c =
    let both = are_there Harvest c.args.intent.now c.args.room.now c.in-Some.creep c.in-Some.source c.in-Some.ensures c.requires.ready.tiles in
    record { column = both.creep_on.column; row = both.creep_on.row }

pub set-requires-2-clause-there : goal.set-requires-2-clause-there
set-requires-2-clause-there c =
    let both = are_there Harvest c.args.intent.now c.args.room.now c.in-Some.creep c.in-Some.source c.in-Some.ensures c.requires.ready.tiles in
    subst (λ (t : Table). HasId c.in-Some.creep.id t.objects) (sym c.set.ensures) (has_replaced c.in-Some.creep.id (with_less c.min-amount.result c.in-Some.source) c.args.room.now.objects both.creep_there)

pub fall-requires-clause-column : goal.fall-requires-clause-column
fall-requires-clause-column c =
    let both = are_there Harvest c.args.intent.now c.args.room.now c.in-Some.creep c.in-Some.source c.in-Some.ensures c.requires.ready.tiles in
    both.creep_on.column

pub fall-requires-clause-row : goal.fall-requires-clause-row
fall-requires-clause-row c =
    let both = are_there Harvest c.args.intent.now c.args.room.now c.in-Some.creep c.in-Some.source c.in-Some.ensures c.requires.ready.tiles in
    both.creep_on.row

pub fall-requires-clause-ready : goal.fall-requires-clause-ready
fall-requires-clause-ready c =
    let table = c.args.room.now in
    let creep = c.in-Some.creep in
    let source = c.in-Some.source in
    let both = are_there Harvest c.args.intent.now table creep source c.in-Some.ensures c.requires.ready.tiles in
    let less : Object = with_less c.min-amount.result source in
    let more : Object = with_more c.taken-taken.result creep in
    subst IsReady (sym (c.set-2.ensures ∙ ap (set_in more) c.set.ensures))
    (ready_both table less more (record { column = both.target_on.column; row = both.target_on.row }) (record { column = both.creep_on.column; row = both.creep_on.row }) c.requires.ready)

pub returns-clause-rule : goal.returns-clause-rule
returns-clause-rule c =
    let table = c.args.room.now in
    let creep = c.in-Some.creep in
    let source = c.in-Some.source in
    let both = are_there Harvest c.args.intent.now table creep source c.in-Some.ensures c.requires.ready.tiles in
    let less : Object = with_less c.min-amount.result source in
    let more : Object = with_more c.taken-taken.result creep in
    let rest : ℕ = c.min-amount.result - c.taken-taken.result in
    let amount : c.min-amount.result ≡ min (2 * live_work creep) source.energy = c.min-amount.ensures ∙ ap (λ (n : ℕ). min n source.energy) c.mined.ensures in
    λ grounds.
    let part : RoomPart = table_part grounds table in
    let room = free_room (controller_of part) creep in
    let taken : c.taken-taken.result ≡ min (min (2 * live_work creep) source.energy) room = c.taken-taken.ensures.part grounds ∙ ap (λ (n : ℕ). min n room) amount in
    c.fall.ensures.rule grounds
    ∙ ap (λ (t : Table). fallen creep.x creep.y rest (table_part grounds t)) (c.set-2.ensures ∙ ap (set_in more) c.set.ensures)
    ∙ ap (fallen creep.x creep.y rest) (part_both grounds table less more both.target_there both.creep_there)
    ∙ (λ i. fallen creep.x creep.y (amount i - taken i) (with_in_part (with_more (taken i) creep) (with_in_part (with_less (amount i) source) part)))
    ∙ ruled_by Harvest c.args.intent.now table creep source c.in-Some.ensures harvested_by grounds
