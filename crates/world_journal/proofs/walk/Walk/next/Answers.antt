use Rattle.std.proofs.Common.{arith}
use Rattle.world_journal.proofs.Walks.{step_broken, step_fails, step_walked}
use Rattle.world_journal.proofs.walk.Walk.next.Goals as goal

pub returns-in-Broken-clause-fault : goal.returns-in-Broken-clause-fault
returns-in-Broken-clause-fault g c = λ base entries has.
    step_broken base entries c.args.self.now.world c.args.self.now.gate _ has.course has.world has.front c.in_ok-next_frame.field-0 c.in-Broken.is c.in_ok-next_frame.ensures.found

pub returns-in_default-clause-fault : goal.returns-in_default-clause-fault
returns-in_default-clause-fault g c = λ base entries has.
    step_fails base entries c.args.self.now.world c.args.self.now.gate _ has.course has.world has.front c.in_ok-next_frame.field-0 c.in-Frame.content c.in-Frame.is c.in_ok-next_frame.ensures.found c.deref.result.now c.deref.ensures.value
    (rw c.in_default.is at c.in_ok-entry.ensures.none)

pub returns-clause-stepped : goal.returns-clause-stepped
returns-clause-stepped g c = λ base entries has.
    let told = rw c.in-Some.is at c.in_ok-entry.ensures.some in
    step_walked base entries c.args.self.now.world c.args.self.now.gate _ has.course has.world has.front c.in_ok-next_frame.field-0 c.in-Frame.content c.in-Frame.is c.in_ok-next_frame.ensures.found c.deref.result.now c.deref.ensures.value
    c.in-Some.entry told.0 told.1 _ has.count told.2 told.3 (omega arith)
