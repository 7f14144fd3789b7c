use Rattle.std.proofs.Common.{◌&&◌, ◌∙◌}
use Rattle.std.specs.Option.{is_some}
use Rattle.std.proofs.lemmas.Result.{err_from_is_err_and}
use Rattle.world_rules.specs.Sites.{is_inner, room_checks, tile_checks}
use Rattle.world_rules.proofs.Checked.{and_left}
use Rattle.action_checks.specs.Plans.{plan_view}
use Rattle.action_checks.proofs.Passing.{fails_early, passes_later}
use Rattle.action_checks.proofs.plans.check_kind.Goals as goal

pub returns-in_err-check_room : goal.returns-in_err-check_room
returns-in_err-check_room c =
    let plan = plan_view c.args.plan.now in
    let p = err_from_is_err_and c.from_residual.result c.from_residual.ensures.1 in
    let fails = c.in_err-check_room.ensures in
    let early = fails_early (room_checks plan c.args.kind) (tile_checks plan c.args.kind) fails.1 in
    rw (p.1, p.2) (early.0 ∙ fails.0, early.1)

pub returns : goal.returns
returns c =
    let plan = plan_view c.args.plan.now in
    passes_later (room_checks plan c.args.kind) (tile_checks plan c.args.kind) c.check_spot.result c.in_ok-check_room.ensures c.check_spot.ensures

pub check_spot-requires : goal.check_spot-requires
check_spot-requires c =
    let plan = plan_view c.args.plan.now in
    record {
      inner = and_left (is_inner plan.x && is_inner plan.y) (is_some c.args.kind) (and_left (is_inner plan.x && is_inner plan.y && is_some c.args.kind) _ c.in_ok-check_room.ensures);
    }
