use Rattle.std.proofs.Common.{◌++◌, List, length, slice_get, sym, ap, ◌∙◌}
use Rattle.object_store.specs.declared.world.Room.{Room}
use Rattle.object_store.specs.Stored.{Stored}
use Rattle.ruled_tick.proofs.Places.{read_middle}
use Rattle.ruled_tick.proofs.tick.world_of_rooms.Goals as goal

pub push_room-requires-clause-index : goal.push_room-requires-clause-index
push_room-requires-clause-index c =
    let done = c.loop-room.yielded in
    let room = c.in-Some.room in
    c.requires.places (length done) room
    (ap (λ (rooms : List Room). slice_get rooms (length done)) (sym c.loop-room.invariant.all ∙ ap (λ (more : List Room). done ++ more) c.in-Some.ensures.steps.0)
    ∙ read_middle done room _)
    ∙ sym (ap (λ (s : Stored). length s.rooms) c.loop-room.invariant.built)
