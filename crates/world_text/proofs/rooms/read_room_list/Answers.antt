use Rattle.std.proofs.lemmas.Result.{err_from_is_err_and}
use Rattle.world_form.specs.FirstFaults.{room_checks}
use Rattle.world_text.specs.inner.Drafts.{SaysDraft}
use Rattle.world_text.proofs.Parts.{draft_holds}
use Rattle.world_text.proofs.Turns.{said_more, first_here}
use Rattle.world_text.proofs.rooms.read_room_list.Goals as goal

pub returns-in_err-draft-clause-err : goal.returns-in_err-draft-clause-err
returns-in_err-draft-clause-err c =
    let p = err_from_is_err_and c.from_residual-in_err-draft.result c.from_residual-in_err-draft.ensures.1 in
    rw (p.1, p.2) (λ other.
    first_here SaysDraft room_checks draft_holds c.args.values.now c.loop-place.place c.index-values-place.result c.loop-place.drafts.items _ c.loop-place-test.true c.index-values-place.is c.loop-place.invariant (c.in_err-draft.ensures.err other))

pub loop-place-preserved : goal.loop-place-preserved
loop-place-preserved c =
    rw c.in_ok-push.ensures.items (said_more SaysDraft c.args.values.now c.loop-place.place c.index-values-place.result c.loop-place.drafts.items c.in_ok-draft.draft c.loop-place-test.true c.index-values-place.is c.loop-place.invariant c.in_ok-draft.ensures.ok)
