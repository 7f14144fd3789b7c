use Rattle.std.proofs.Common.{◌≡◌, ℕ, ◌-◌, ◌/◌, min, Some, None, sym, ap, subst, ◌∙◌}
use Rattle.game_tables.specs.declared.action.Action.TheVariants.{Dismantle}
use Rattle.room_table.specs.declared.object.Object.{Object}
use Rattle.room_table.specs.Stores.{free_room}
use Rattle.room_table.specs.Tables.{Table, HasId}
use Rattle.world_rules.specs.RoomParts.{RoomPart, controller_of, table_part}
use Rattle.world_rules.specs.Changes.{with_object as with_in_part}
use Rattle.world_rules.specs.Drops.{fallen}
use Rattle.world_rules.specs.Loads.{with_more}
use Rattle.world_rules.specs.Fights.{blow, dismantled_by, salvage, torn_by}
use Rattle.world_rules.proofs.TableParts.{part_replaced}
use Rattle.room_table.specs.Tallies.{damaged, tally_of}
use Rattle.room_rules.specs.Calls.{IsReady, tally_with}
use Rattle.room_rules.proofs.Calls.{ready_set, set_in}
use Rattle.room_rules.proofs.Harmed.{blow_at, harmed_between, unharmed, with_tallies}
use Rattle.room_rules.proofs.Parties.{are_there, ruled_by, target_under}
use Rattle.creep_work.proofs.dismantling.dismantle.Goals as goal

pub returns-in_default-clause-harm : goal.returns-in_default-clause-harm
returns-in_default-clause-harm c =
    let table = c.args.room.now in
    harmed_between Dismantle torn_by c.args.intent.now table table None (λ grounds. sym c.in_default.is ∙ c.parties.ensures grounds) (unharmed table c.stands_in_order.ensures.tallies)

pub add_damage-requires : goal.add_damage-requires
add_damage-requires c = record { there = (c.in-Some.building, (target_under Dismantle c.args.intent.now c.args.room.now c.in-Some.creep c.in-Some.building c.in-Some.ensures).0) }

pub set-requires-clause-tile : goal.set-requires-clause-tile
set-requires-clause-tile c =
    let both = are_there Dismantle c.args.intent.now c.args.room.now c.in-Some.creep c.in-Some.building c.in-Some.ensures c.requires.ready.tiles in
    record { column = both.creep_on.column; row = both.creep_on.row }

pub set-requires-clause-there : goal.set-requires-clause-there
set-requires-clause-there c =
    let both = are_there Dismantle c.args.intent.now c.args.room.now c.in-Some.creep c.in-Some.building c.in-Some.ensures c.requires.ready.tiles in
    subst (λ (t : Table). HasId c.in-Some.creep.id t.objects) (sym c.add_damage.ensures) both.creep_there

pub fall-requires-clause-column : goal.fall-requires-clause-column
fall-requires-clause-column c =
    let both = are_there Dismantle c.args.intent.now c.args.room.now c.in-Some.creep c.in-Some.building c.in-Some.ensures c.requires.ready.tiles in
    both.creep_on.column

pub fall-requires-clause-row : goal.fall-requires-clause-row
fall-requires-clause-row c =
    let both = are_there Dismantle c.args.intent.now c.args.room.now c.in-Some.creep c.in-Some.building c.in-Some.ensures c.requires.ready.tiles in
    both.creep_on.row

pub fall-requires-clause-ready : goal.fall-requires-clause-ready
fall-requires-clause-ready c =
    let table = c.args.room.now in
    let creep = c.in-Some.creep in
    let both = are_there Dismantle c.args.intent.now table creep c.in-Some.building c.in-Some.ensures c.requires.ready.tiles in
    let more : Object = with_more c.taken-taken.result creep in
    let ready : IsReady (set_in more table) = ready_set table more (record { column = both.creep_on.column; row = both.creep_on.row }) c.requires.ready in
    subst IsReady (sym (c.set.ensures ∙ ap (set_in more) c.add_damage.ensures)) (record { spare = ready.spare; serial = ready.serial; fresh = ready.fresh; tiles = ready.tiles })

pub returns-clause-rule : goal.returns-clause-rule
returns-clause-rule c =
    let table = c.args.room.now in
    let creep = c.in-Some.creep in
    let building = c.in-Some.building in
    let both = are_there Dismantle c.args.intent.now table creep building c.in-Some.ensures c.requires.ready.tiles in
    let more : Object = with_more c.taken-taken.result creep in
    let rest : ℕ = c.from-amount.result - c.taken-taken.result in
    let amount : c.from-amount.result ≡ salvage creep building = c.from-amount.ensures ∙ ap (λ (n : ℕ). n / 200) (c.min.ensures ∙ ap (λ (n : ℕ). min n building.hits) c.tear-tear.ensures) in
    λ grounds.
    let part : RoomPart = table_part grounds table in
    let room : ℕ → RoomPart → ℕ = λ n p. min n (free_room (controller_of p) creep) in
    let taken : c.taken-taken.result ≡ room (salvage creep building) part = c.taken-taken.ensures.part grounds ∙ (λ i. room (amount i) (table_part grounds (c.add_damage.ensures i))) in
    c.fall.ensures.rule grounds
    ∙ ap (λ (t : Table). fallen creep.x creep.y rest (table_part grounds t)) (c.set.ensures ∙ ap (set_in more) c.add_damage.ensures)
    ∙ ap (fallen creep.x creep.y rest) (part_replaced grounds table more both.creep_there)
    ∙ (λ i. fallen creep.x creep.y (amount i - taken i) (with_in_part (with_more (taken i) creep) part))
    ∙ ruled_by Dismantle c.args.intent.now table creep building c.in-Some.ensures dismantled_by grounds

pub returns-clause-harm : goal.returns-clause-harm
returns-clause-harm c =
    let table = c.args.room.now in
    let entry = c.args.intent.now in
    let creep = c.in-Some.creep in
    let building = c.in-Some.building in
    let named = (target_under Dismantle entry table creep building c.in-Some.ensures).1 in
    let after : Table = with_tallies (damaged entry.target c.tear-tear.result table.tallies) table in
    let more : Object = with_more c.taken-taken.result creep in
    let last = c.set.ensures ∙ ap (set_in more) c.add_damage.ensures in
    harmed_between Dismantle torn_by entry table c.fall.new.room (Some (creep, building)) c.in-Some.ensures (λ id has.
    c.fall.ensures.tallies id has
    ∙ ap (λ (t : Table). tally_of id t.tallies) last
    ∙ blow_at table entry.target c.tear-tear.result c.stands_in_order.ensures.tallies id
    ∙ (λ i. tally_with (blow (sym named i) (c.tear-tear.ensures i)) id (tally_of id table.tallies)))
