use Rattle.std.proofs.Common.{◌≡◌, ℕ, refl, sym, ap, subst, ◌∙◌}
use Rattle.game_tables.specs.declared.action.Action.TheVariants.{Upgrade}
use Rattle.room_table.specs.declared.object.Object.{Object}
use Rattle.room_table.specs.Tables.{Table, HasId, IsOnTile}
use Rattle.world_rules.specs.RoomParts.{RoomPart, table_part}
use Rattle.world_rules.specs.Changes.{with_object as with_in_part}
use Rattle.world_rules.specs.Claims.{points_between, upgraded_by, work_taken, worked_on}
use Rattle.world_rules.specs.Loads.{with_less}
use Rattle.room_rules.specs.Calls.{Keeps}
use Rattle.room_rules.proofs.Calls.{set_in}
use Rattle.room_rules.proofs.Parties.{are_there, both_in, has_replaced, keeps_ready, part_both, ready_both, ruled_by}
use Rattle.controller_rules.proofs.Targets.{worked_on_tile, worked_there}
use Rattle.controller_rules.proofs.upgrading.upgrade.Goals as goal

pub set-requires-clause-tile : goal.set-requires-clause-tile
set-requires-clause-tile c =
    let both = are_there Upgrade c.args.intent.now c.args.room.now c.in-Some.creep c.in-Some.controller c.in-Some.ensures c.requires.ready.tiles in
    record { column = both.creep_on.column; row = both.creep_on.row }

pub set-requires-clause-there : goal.set-requires-clause-there
set-requires-clause-there c =
    let both = are_there Upgrade c.args.intent.now c.args.room.now c.in-Some.creep c.in-Some.controller c.in-Some.ensures c.requires.ready.tiles in
    both.creep_there

pub set-requires-2-clause-tile : goal.set-requires-2-clause-tile
set-requires-2-clause-tile c =
    let both = are_there Upgrade c.args.intent.now c.args.room.now c.in-Some.creep c.in-Some.controller c.in-Some.ensures c.requires.ready.tiles in
    subst IsOnTile (sym c.worked_on.ensures) (worked_on_tile c.work_taken-amount.result c.in-Some.controller both.target_on)

pub set-requires-2-clause-there : goal.set-requires-2-clause-there
set-requires-2-clause-there c =
    let controller = c.in-Some.controller in
    let amount : ℕ = c.work_taken-amount.result in
    let both = are_there Upgrade c.args.intent.now c.args.room.now c.in-Some.creep controller c.in-Some.ensures c.requires.ready.tiles in
    let there = worked_there amount controller c.args.room.now.objects both.target_there in
    subst (λ (o : Object). HasId o.id c.set.new.self.objects) (sym c.worked_on.ensures)
    (subst (λ (t : Table). HasId (worked_on amount controller).id t.objects) (sym c.set.ensures) (has_replaced (worked_on amount controller).id (with_less c.from.result c.in-Some.creep) c.args.room.now.objects there))

pub returns-clause-rule : goal.returns-clause-rule
returns-clause-rule c =
    let table = c.args.room.now in
    let creep = c.in-Some.creep in
    let controller = c.in-Some.controller in
    let amount : ℕ = c.work_taken-amount.result in
    let both = are_there Upgrade c.args.intent.now table creep controller c.in-Some.ensures c.requires.ready.tiles in
    let less : Object = with_less c.from.result creep in
    let taken : amount ≡ work_taken creep controller = c.work_taken-amount.ensures.taken in
    let paid : c.from.result ≡ work_taken creep controller = c.from.ensures ∙ taken in
    λ grounds.
    let part : RoomPart = table_part grounds table in
    ap (table_part grounds) (c.set-2.ensures ∙ (λ i. set_in (c.worked_on.ensures i) (c.set.ensures i)))
    ∙ part_both grounds table less (worked_on amount controller) both.creep_there (worked_there amount controller table.objects both.target_there)
    ∙ (λ i. with_in_part (worked_on (taken i) controller) (with_in_part (with_less (paid i) creep) part))
    ∙ ruled_by Upgrade c.args.intent.now table creep controller c.in-Some.ensures upgraded_by grounds

pub returns-clause-points : goal.returns-clause-points
returns-clause-points c = λ grounds. c.work_taken-amount.ensures.taken ∙ ap points_between (c.in-Some.ensures grounds)

pub returns-clause-keeps : goal.returns-clause-keeps
returns-clause-keeps c =
    let table = c.args.room.now in
    let creep = c.in-Some.creep in
    let controller = c.in-Some.controller in
    let amount : ℕ = c.work_taken-amount.result in
    let both = are_there Upgrade c.args.intent.now table creep controller c.in-Some.ensures c.requires.ready.tiles in
    let less : Object = with_less c.from.result creep in
    let after : Object = worked_on amount controller in
    subst (Keeps table) (sym (c.set-2.ensures ∙ (λ i. set_in (c.worked_on.ensures i) (c.set.ensures i))))
    (keeps_ready table (both_in less after table) refl refl refl (ready_both table less after (record { column = both.creep_on.column; row = both.creep_on.row }) (worked_on_tile amount controller both.target_on) c.requires.ready))
