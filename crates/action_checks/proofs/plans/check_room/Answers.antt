use Rattle.std.proofs.Common.{◌&&◌, ◌||◌, not, List, [], ◌∷◌, Option}
use Rattle.std.specs.Option.{is_some}
use Rattle.std.proofs.lemmas.Result.{err_from_is_err_and}
use Rattle.game_tables.specs.declared.code.Code.TheVariants.{InvalidArgs, NotOwner, RoomLevelNotEnough}
use Rattle.game_tables.specs.Kinds.{needs_owned_room}
use Rattle.room_table.specs.Controllers.{controller_among, is_anothers}
use Rattle.room_table.specs.declared.object.Object.{Object}
use Rattle.world_rules.specs.Checks.{Check}
use Rattle.world_rules.specs.Sites.{has_place, is_inner, is_owners, of_kind}
use Rattle.action_checks.specs.Plans.{plan_view}
use Rattle.action_checks.proofs.Passing.{fails_between}
use Rattle.action_checks.proofs.plans.check_room.Goals as goal

pub returns-in_err-check_owners : goal.returns-in_err-check_owners
returns-in_err-check_owners c =
    let plan = plan_view c.args.plan.now in
    let kind = c.args.kind in
    let controller : Option Object = controller_among plan.around in
    let arguments : List Check = (is_inner plan.x && is_inner plan.y && is_some kind, InvalidArgs) ∷ [] in
    let owners : List Check = (not (is_anothers plan.player controller), NotOwner) ∷ (not (of_kind needs_owned_room kind) || is_owners plan.player controller, RoomLevelNotEnough) ∷ [] in
    let level : List Check = (of_kind (has_place plan) kind, RoomLevelNotEnough) ∷ [] in
    let p = err_from_is_err_and c.from_residual-in_err-check_owners.result c.from_residual-in_err-check_owners.ensures.1 in
    rw (p.1, p.2) (fails_between arguments owners level c.in_err-check_owners.field-0.0 c.in_ok-check_arguments.ensures c.in_err-check_owners.ensures)
