use Rattle.std.proofs.Common.{◌≡◌, ℕ, List, [], ◌∷◌, ◌++◌, length, get_or, slice_get, refl, sym, ap, subst, ◌∙◌, append_assoc, arith}
use Rattle.std.proofs.lemmas.Option.{slice_get_within}
use Rattle.intent_book.specs.declared.intent.Intent.{Intent}
use Rattle.object_store.specs.declared.world.Room.{Room}
use Rattle.room_step.specs.Stepping.{IsStepped}
use Rattle.room_step.specs.Steps.{list_at, IsStepAt, IsStepOf}
use Rattle.room_step.specs.declared.step.StepDone.{StepDone}
use Rattle.room_step.specs.declared.steppers.SteppedRoom.{SteppedRoom}
use Rattle.room_step.proofs.Steps.{as_many, next_room, steps_push}
use Rattle.room_step.proofs.Whole.{read_list}
use Rattle.room_step.proofs.steppers.InTurnStepsRooms.step_rooms.Goals as goal

pub offset_bounds-lists-index : goal.offset_bounds-lists-index
offset_bounds-lists-index c =
    let old = c.loop-room.invariant in
    let at = next_room c.args.rooms.items c.loop-room.yielded c.loop-room.room-iterator.rest.items c.next.new.self.rest.items c.in-Some.room old.all c.in-Some.ensures.steps.0 in
    let inside = slice_get_within c.args.rooms.items (length c.loop-room.yielded) c.in-Some.room at in
    let many = as_many (list_at c.args.lists.now) c.loop-room.yielded c.loop-room.stepped.items old.stepped in
    omega (arith, c.len-index.ensures, many, inside, c.requires.rooms.short)

pub bounds-lists-index : goal.bounds-lists-index
bounds-lists-index c =
    let old = c.loop-room.invariant in
    let at = next_room c.args.rooms.items c.loop-room.yielded c.loop-room.room-iterator.rest.items c.next.new.self.rest.items c.in-Some.room old.all c.in-Some.ensures.steps.0 in
    let inside = slice_get_within c.args.rooms.items (length c.loop-room.yielded) c.in-Some.room at in
    let many = as_many (list_at c.args.lists.now) c.loop-room.yielded c.loop-room.stepped.items old.stepped in
    omega (arith, c.len-index.ensures, many, inside, c.requires.rooms.many)

pub step_taken-requires-clause-rules : goal.step_taken-requires-clause-rules
step_taken-requires-clause-rules c =
    let at = next_room c.args.rooms.items c.loop-room.yielded c.loop-room.room-iterator.rest.items c.next.new.self.rest.items c.in-Some.room c.loop-room.invariant.all c.in-Some.ensures.steps.0 in
    (c.requires.rooms.each (length c.loop-room.yielded) c.in-Some.room at).rules

pub step_taken-requires-clause-serials : goal.step_taken-requires-clause-serials
step_taken-requires-clause-serials c =
    let at = next_room c.args.rooms.items c.loop-room.yielded c.loop-room.room-iterator.rest.items c.next.new.self.rest.items c.in-Some.room c.loop-room.invariant.all c.in-Some.ensures.steps.0 in
    (c.requires.rooms.each (length c.loop-room.yielded) c.in-Some.room at).serials

pub step_taken-requires-clause-few : goal.step_taken-requires-clause-few
step_taken-requires-clause-few c =
    let old = c.loop-room.invariant in
    let lists : List (List Intent) = c.args.lists.now in
    let at = next_room c.args.rooms.items c.loop-room.yielded c.loop-room.room-iterator.rest.items c.next.new.self.rest.items c.in-Some.room old.all c.in-Some.ensures.steps.0 in
    let inside = slice_get_within c.args.rooms.items (length c.loop-room.yielded) c.in-Some.room at in
    let many = as_many (list_at lists) c.loop-room.yielded c.loop-room.stepped.items old.stepped in
    let place : c.len-index.result ≡ length c.loop-room.yielded = omega (arith, c.len-index.ensures, many) in
    let own : c.as_slice.result.now ≡ list_at lists (length c.loop-room.yielded) =
    c.as_slice.ensures ∙ c.index-lists-index.is ∙ ap (λ (n : ℕ). get_or lists n c.index-lists-index.result) place ∙ read_list lists (length c.loop-room.yielded) c.index-lists-index.result (omega (arith, inside, c.requires.rooms.many)) in
    let few = (c.requires.rooms.each (length c.loop-room.yielded) c.in-Some.room at).few in
    omega (arith, few, ap length own)

pub loop-room-preserved : goal.loop-room-preserved
loop-room-preserved c =
    let old = c.loop-room.invariant in
    let gone = c.loop-room.yielded in
    let room = c.in-Some.room in
    let lists : List (List Intent) = c.args.lists.now in
    let at = next_room c.args.rooms.items gone c.loop-room.room-iterator.rest.items c.next.new.self.rest.items room old.all c.in-Some.ensures.steps.0 in
    let inside = slice_get_within c.args.rooms.items (length gone) room at in
    let many : length c.loop-room.stepped.items ≡ length gone = as_many (list_at lists) gone c.loop-room.stepped.items old.stepped in
    let place : c.len-index.result ≡ length gone = omega (arith, c.len-index.ensures, many) in
    let own : c.as_slice.result.now ≡ list_at lists (length gone) =
    c.as_slice.ensures ∙ c.index-lists-index.is ∙ ap (λ (n : ℕ). get_or lists n c.index-lists-index.result) place ∙ read_list lists (length gone) c.index-lists-index.result (omega (arith, inside, c.requires.rooms.many)) in
    let one : StepDone = c.in_ok-done.done in
    let step : SteppedRoom = record { name = room.name; terrain = room.terrain; done = one } in
    let is : IsStepOf (list_at lists (length gone)) room step = record {
      name = refl;
      terrain = refl;
      step = subst (λ (entries : List Intent). IsStepped room.terrain entries room.table one) own c.in_ok-done.ensures.stepped;
    } in
    record {
      stepped = λ k. subst (λ (steps : List SteppedRoom). IsStepAt (list_at lists k) (slice_get (gone ++ room ∷ []) k) (slice_get steps k)) (sym {A = List SteppedRoom} c.in_ok-push.ensures.items)
          (steps_push (list_at lists) gone c.loop-room.stepped.items room step many old.stepped is k);
      all = append_assoc gone (room ∷ []) c.next.new.self.rest.items ∙ ap (λ (more : List Room). gone ++ more) (sym c.in-Some.ensures.steps.0) ∙ old.all;
    }
