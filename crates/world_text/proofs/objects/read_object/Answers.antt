use Rattle.std.proofs.Common.{◌++◌}
use Rattle.std.proofs.lemmas.Result.{err_from_is_err_and}
use Rattle.serde_json.specs.View.{view}
use Rattle.world_form.proofs.Checks.{first_append, first_later}
use Rattle.world_text.specs.inner.Readings.{identity_checks, holding_checks, counter_checks}
use Rattle.world_text.proofs.Parts.{identity_holds, holding_holds}
use Rattle.world_text.proofs.objects.read_object.Goals as goal

pub returns-in_err-holding-clause-err : goal.returns-in_err-holding-clause-err
returns-in_err-holding-clause-err c =
    let part = view c.args.part.now in
    let place = c.args.place in
    let p = err_from_is_err_and c.from_residual-in_err-holding.result c.from_residual-in_err-holding.ensures.1 in
    rw (p.1, p.2) (
    first_later (identity_checks place part) (holding_checks place part ++ counter_checks place part) _ (identity_holds place part c.in_ok-identity.identity c.in_ok-identity.ensures.ok)
    (first_append (holding_checks place part) (counter_checks place part) _ c.in_err-holding.ensures.err)
    )

pub returns-in_err-counters-clause-err : goal.returns-in_err-counters-clause-err
returns-in_err-counters-clause-err c =
    let part = view c.args.part.now in
    let place = c.args.place in
    let p = err_from_is_err_and c.from_residual-in_err-counters.result c.from_residual-in_err-counters.ensures.1 in
    rw (p.1, p.2) (
    first_later (identity_checks place part) (holding_checks place part ++ counter_checks place part) _ (identity_holds place part c.in_ok-identity.identity c.in_ok-identity.ensures.ok)
    (first_later (holding_checks place part) (counter_checks place part) _ (holding_holds place c.in_ok-identity.identity.kind part c.in_ok-holding.holding c.in_ok-holding.ensures.ok) c.in_err-counters.ensures.err)
    )
