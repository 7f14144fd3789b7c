use Rattle.std.proofs.Common.{◌≡◌, ℕ, ◌+◌, List, [], ◌∷◌, ◌++◌, length, Some, slice_get, refl, sym, ap, subst, ◌∙◌, append_assoc, rules}
use Rattle.std.proofs.lemmas.List.{length_push}
use Rattle.std.proofs.lemmas.Option.{get_or_from_slice_get, slice_get_within}
use Rattle.object_store.specs.declared.world.Room.{Room}
use Rattle.ruled_tick.proofs.Places.{read_middle}
use Rattle.room_step.specs.Steps.{list_at, IsStepAt, IsStepOf}
use Rattle.room_step.specs.Stepping.{IsStepped}
use Rattle.room_step.specs.declared.step.StepDone.{StepDone}
use Rattle.room_step.specs.declared.steppers.SteppedRoom.{SteppedRoom}
use Rattle.room_step.proofs.Steps.{as_many, steps_push}
use Rattle.room_jobs.proofs.shared.beside.Goals as goal

pub loop-room-preserved : goal.loop-room-preserved
loop-room-preserved c =
    let gone = c.loop-room.yielded in
    let room = c.in-Some.room in
    let one : StepDone = c.in-Some-next.done in
    let rooms : List Room = c.args.rooms.items in
    let lists = c.args.lists.now in
    let old = c.loop-room.invariant in
    let front : List StepDone = old.given.0 in
    let later : List StepDone = c.next-in-loop-room.new.self.rest.items in
    let at : slice_get rooms (length gone) ≡ Some room =
    ap (λ (r : List Room). slice_get r (length gone)) (sym old.all ∙ ap (λ (more : List Room). gone ++ more) c.in-Some.ensures.steps.0) ∙ read_middle gone room _ in
    let next : c.loop-room.left.rest.items ≡ one ∷ later = search rules in
    let whole : front ++ one ∷ later ≡ c.args.done.items = ap (λ (more : List StepDone). front ++ more) (sym next) ∙ old.given.2 in
    let there : slice_get c.args.done.items (length gone) ≡ Some one =
    ap (λ (d : List StepDone). slice_get d (length gone)) (sym whole) ∙ ap (λ (n : ℕ). slice_get (front ++ one ∷ later) n) (sym old.given.1) ∙ read_middle front one later in
    let step : IsStepped room.terrain (list_at lists (length gone)) room.table one =
    subst (IsStepped room.terrain (list_at lists (length gone)) room.table) (get_or_from_slice_get c.args.done.items (length gone) one one there)
    (c.requires.each (length gone) one (slice_get_within rooms (length gone) room at) room at) in
    let is : IsStepOf (list_at lists (length gone)) room (record { name = room.name; terrain = room.terrain; done = one }) = record { name = refl; terrain = refl; step = step } in
    let many : length c.loop-room.stepped.items ≡ length gone = as_many (list_at lists) gone c.loop-room.stepped.items old.stepped in
    record {
      stepped = λ k. subst (λ (steps : List SteppedRoom). IsStepAt (list_at lists k) (slice_get (gone ++ room ∷ []) k) (slice_get steps k)) (sym {A = List SteppedRoom} c.in_ok-push.ensures.items)
          (steps_push (list_at lists) gone c.loop-room.stepped.items room (record { name = room.name; terrain = room.terrain; done = one }) many old.stepped is k);
      all = append_assoc gone (room ∷ []) c.next.new.self.rest.items ∙ ap (λ (more : List Room). gone ++ more) (sym c.in-Some.ensures.steps.0) ∙ old.all;
      given = (front ++ one ∷ [], length_push front one ∙ ap (λ (n : ℕ). n + 1) old.given.1 ∙ sym (length_push gone room), append_assoc front (one ∷ []) later ∙ whole);
    }
