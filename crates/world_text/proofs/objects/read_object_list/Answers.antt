use Rattle.std.proofs.lemmas.Result.{err_from_is_err_and}
use Rattle.world_form.specs.Facts.{SaysObject}
use Rattle.world_form.specs.FirstFaults.{object_checks}
use Rattle.world_form.proofs.Said.{object_holds}
use Rattle.world_text.proofs.Turns.{said_more, first_here}
use Rattle.world_text.proofs.objects.read_object_list.Goals as goal

pub returns-in_err-object-clause-err : goal.returns-in_err-object-clause-err
returns-in_err-object-clause-err c =
    let p = err_from_is_err_and c.from_residual-in_err-object.result c.from_residual-in_err-object.ensures.1 in
    rw (p.1, p.2) (λ other.
    first_here SaysObject object_checks object_holds c.args.values.now c.loop-place.place c.index-values-place.result c.loop-place.objects.items _ c.loop-place-test.true c.index-values-place.is c.loop-place.invariant c.in_err-object.ensures.err)

pub loop-place-preserved : goal.loop-place-preserved
loop-place-preserved c =
    rw c.in_ok-push.ensures.items (said_more SaysObject c.args.values.now c.loop-place.place c.index-values-place.result c.loop-place.objects.items c.in_ok-object.object c.loop-place-test.true c.index-values-place.is c.loop-place.invariant c.in_ok-object.ensures.ok)
