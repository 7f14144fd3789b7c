use Rattle.std.proofs.Common.{sym, subst, Result}
use Rattle.game_tables.specs.declared.code.Code.{Code}
use Rattle.world_rules.specs.Checks.{checks}
use Rattle.action_checks.specs.Scenes.{scene_view}
use Rattle.action_checks.specs.inner.Passing.{Passes}
use Rattle.action_checks.proofs.Passing.{done_where_all}
use Rattle.action_checks.proofs.checks.first_failing.Goals as goal

pub returns-in-Ok : goal.returns-in-Ok
returns-in-Ok c =
    let all = checks c.args.action (scene_view c.args.scene.now) in
    sym (done_where_all all (subst (λ (r : Result (Unit {0}) Code). Passes r all) c.in-Ok.is c.check_all.ensures))
