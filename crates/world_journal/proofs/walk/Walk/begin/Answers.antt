use Rattle.std.proofs.Common.{arith}
use Rattle.world_journal.proofs.Walks.{begin_broken, begin_fails, begin_walked}
use Rattle.world_journal.proofs.walk.Walk.begin.Goals as goal

pub returns-in-Broken-clause-fault : goal.returns-in-Broken-clause-fault
returns-in-Broken-clause-fault g c =
    begin_broken _ _ c.in_ok-len.ensures.same c.in_ok-len.len c.in_ok-len.ensures.told (omega (arith, c.if-len-le1.false)) c.in_ok-next_frame.field-0 c.in-Broken.is c.in_ok-next_frame.ensures.found

pub returns-in_default-clause-fault : goal.returns-in_default-clause-fault
returns-in_default-clause-fault g c =
    begin_fails _ _ c.in_ok-len.ensures.same c.in_ok-next_frame.field-0 c.in-Frame.content c.in-Frame.is c.in_ok-next_frame.ensures.found c.deref.result.now c.deref.ensures.value
    (rw c.in_default.is at c.in_ok-world.ensures.none)

pub returns-clause-begun : goal.returns-clause-begun
returns-clause-begun g c =
    let told = rw c.in-Some.is at c.in_ok-world.ensures.some in
    begin_walked _ _ c.in_ok-len.ensures.same c.in_ok-next_frame.field-0 c.in-Frame.content c.in-Frame.is c.in_ok-next_frame.ensures.found c.deref.result.now c.deref.ensures.value
    _ told.0 told.1 told.2 (omega (arith, c.len-2.ensures))
