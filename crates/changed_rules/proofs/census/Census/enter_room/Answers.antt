use Rattle.std.proofs.Common.{◌≡◌, ◌∙◌, Some, MatchBool}
use Rattle.std.specs.Prelude.{slice_get}
use Rattle.std.proofs.lemmas.Bool.{MatchBool-at_true}
use Rattle.std.proofs.lemmas.Result.{IfOk-weaker}
use Rattle.object_store.specs.declared.world.Room.{Room}
use Rattle.changed_rules.specs.declared.counted.Counted.{Counted}
use Rattle.changed_rules.specs.Census.{KeepsHere, tally_of}
use Rattle.changed_rules.specs.inner.Parts.{Adds, Enters, Exceeds, IsRefused}
use Rattle.changed_rules.proofs.Apart.{entered, lent_objects}
use Rattle.changed_rules.proofs.census.Census.enter_room.Goals as goal

pub returns-clause-answer : goal.returns-clause-answer
returns-clause-answer c =
    let world = c.args.world.now in
    let old = c.args.self.now in
    let new = c.enter_both.new.self in
    let objects = c.deref-2.result.now in
    IfOk-weaker c.enter_both.result
    (λ fits. MatchBool fits ((counted : Counted) → Adds counted objects (tally_of counted old) (tally_of counted new)) ((counted : Counted) × Exceeds counted objects (tally_of counted old)))
    (λ fits. (room : Room) → slice_get world.rooms c.args.place ≡ Some room → MatchBool fits (Enters world room old new) (IsRefused world room old))
    (λ fits both room at.
    let keeps = MatchBool-at_true (KeepsHere world room) (KeepsHere world room → ⊥) c.if-not-branch.false (c.in_ok-keeps_here.ensures room at) in
    entered world room old new objects fits (lent_objects world.rooms c.args.place room c.room-table.result.now objects at c.room-table.ensures (c.deref-2.ensures.value ∙ c.in_ok-objects.ensures)) keeps both)
    c.enter_both.ensures
