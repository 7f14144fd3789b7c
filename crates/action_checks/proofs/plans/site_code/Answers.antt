use Rattle.std.proofs.Common.{sym, subst, Result}
use Rattle.game_tables.specs.declared.code.Code.{Code}
use Rattle.world_rules.specs.Sites.{site_checks}
use Rattle.action_checks.specs.Plans.{plan_view}
use Rattle.action_checks.specs.inner.Passing.{Passes}
use Rattle.action_checks.proofs.Passing.{done_where_all}
use Rattle.action_checks.proofs.plans.site_code.Goals as goal

pub returns-in-Ok : goal.returns-in-Ok
returns-in-Ok c =
    let all = site_checks (plan_view c.args.plan.now) in
    sym (done_where_all all (subst (λ (r : Result (Unit {0}) Code). Passes r all) c.in-Ok.is c.check_plan.ensures))
