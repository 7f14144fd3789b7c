use Rattle.std.proofs.Common.{sym, ap, subst, ◌∙◌}
use Rattle.game_tables.specs.declared.action.Action.TheVariants.{AttackController}
use Rattle.room_table.specs.declared.object.Object.{Object}
use Rattle.room_table.specs.Tables.{HasId, IsOnTile}
use Rattle.room_rules.proofs.Calls.{set_in}
use Rattle.world_rules.specs.Claims.{controller_hurt, hurt_by}
use Rattle.room_rules.proofs.Parties.{are_there, ruled_by}
use Rattle.controller_rules.proofs.Targets.{hurt_on, hurt_there, keeps_set, part_set}
use Rattle.controller_rules.proofs.claiming.attack_controller.Goals as goal

pub set-requires-clause-tile : goal.set-requires-clause-tile
set-requires-clause-tile c =
    let both = are_there AttackController c.args.intent.now c.args.room.now c.in-Some.creep c.in-Some.controller c.in-Some.ensures c.requires.ready.tiles in
    subst IsOnTile (sym c.controller_hurt.ensures) (hurt_on c.in-Some.creep c.in-Some.controller (record { column = both.target_on.column; row = both.target_on.row }))

pub set-requires-clause-there : goal.set-requires-clause-there
set-requires-clause-there c =
    let both = are_there AttackController c.args.intent.now c.args.room.now c.in-Some.creep c.in-Some.controller c.in-Some.ensures c.requires.ready.tiles in
    subst (λ (o : Object). HasId o.id c.args.room.now.objects) (sym c.controller_hurt.ensures) (hurt_there c.in-Some.creep c.in-Some.controller c.args.room.now.objects both.target_there)

pub returns-clause-rule : goal.returns-clause-rule
returns-clause-rule c =
    let table = c.args.room.now in
    let creep = c.in-Some.creep in
    let controller = c.in-Some.controller in
    let both = are_there AttackController c.args.intent.now table creep controller c.in-Some.ensures c.requires.ready.tiles in
    let after : Object = controller_hurt creep controller in
    λ grounds.
    part_set table c.set.new.self after (hurt_there c.in-Some.creep c.in-Some.controller c.args.room.now.objects both.target_there) (hurt_on c.in-Some.creep c.in-Some.controller (record { column = both.target_on.column; row = both.target_on.row })) (c.set.ensures ∙ ap (λ (o : Object). set_in o table) c.controller_hurt.ensures) grounds
    ∙ ruled_by AttackController c.args.intent.now table creep controller c.in-Some.ensures hurt_by grounds

pub returns-clause-keeps : goal.returns-clause-keeps
returns-clause-keeps c =
    let table = c.args.room.now in
    let creep = c.in-Some.creep in
    let controller = c.in-Some.controller in
    let both = are_there AttackController c.args.intent.now table creep controller c.in-Some.ensures c.requires.ready.tiles in
    let after : Object = controller_hurt creep controller in
    keeps_set table c.set.new.self after (hurt_there c.in-Some.creep c.in-Some.controller c.args.room.now.objects both.target_there) (hurt_on c.in-Some.creep c.in-Some.controller (record { column = both.target_on.column; row = both.target_on.row })) (c.set.ensures ∙ ap (λ (o : Object). set_in o table) c.controller_hurt.ensures) c.requires.ready
