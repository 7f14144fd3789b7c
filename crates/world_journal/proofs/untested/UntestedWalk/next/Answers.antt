use Rattle.std.proofs.Common.{[], ◌∷◌, arith, refl, subst, sym}
use Rattle.changed_rules.specs.Census.{ArePlaced}
use Rattle.object_store.specs.Stored.{Stored}
use Rattle.record_follows.proofs.Lasting.{places_stay}
use Rattle.world_journal.proofs.Walks.{pass_broken, pass_fails, pass_put}
use Rattle.world_journal.proofs.untested.UntestedWalk.next.Goals as goal

pub returns-in-Broken-clause-fault : goal.returns-in-Broken-clause-fault
returns-in-Broken-clause-fault g c = λ base entries has.
    pass_broken base entries c.args.self.now _ has c.in_ok-next_frame.field-0 c.in-Broken.is c.in_ok-next_frame.ensures.found

pub returns-in_default-clause-fault : goal.returns-in_default-clause-fault
returns-in_default-clause-fault g c = λ base entries has.
    pass_fails base entries c.args.self.now _ has c.in_ok-next_frame.field-0 c.in-Frame.content c.in-Frame.is c.in_ok-next_frame.ensures.found c.deref.result.now c.deref.ensures.value
    (rw c.in_default.is at c.in_ok-entry.ensures.none)

pub returns-clause-passed : goal.returns-clause-passed
returns-clause-passed g c = λ base entries has.
    let told = rw c.in-Some.is at c.in_ok-entry.ensures.some in
    pass_put base entries c.args.self.now _ has c.in_ok-next_frame.field-0 c.in-Frame.content c.in-Frame.is c.in_ok-next_frame.ensures.found c.deref.result.now c.deref.ensures.value
    told.0 c.in-Some.entry _ told.4 told.1 told.2 told.3 refl (omega arith)

pub returns-clause-places : goal.returns-clause-places
returns-clause-places g c =
    let told = rw c.in-Some.is at c.in_ok-entry.ensures.some in
    subst (λ (w : Stored). ArePlaced w.rooms) (sym told.3) (places_stay c.args.self.now.world (told.0 ∷ []) c.requires.places)
