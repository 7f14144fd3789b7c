use Rattle.std.proofs.Common.{◌≡◌, ◌∙◌, ℕ, List, length, sym, ap, subst, arith}
use Rattle.object_store.specs.declared.world.Room.{Room}
use Rattle.object_store.specs.Stored.{Stored}
use Rattle.record_follows.specs.Follows.{room_after}
use Rattle.record_follows.specs.inner.Parts.{AreFirst, first_mapped}
use Rattle.record_follows.proofs.Placing.{length_mapped, map_all, room_step}
use Rattle.record_follows.proofs.putting.put_rooms.Goals as goal

pub put_room-requires : goal.put_room-requires
put_room-requires c =
    let count : length c.loop-place.world.rooms ≡ length c.args.world.now.rooms =
    ap (λ (w : Stored). length w.rooms) c.loop-place.invariant ∙ length_mapped (room_after c.args.tables.now) c.loop-place.place c.args.world.now.rooms in
    omega arith

pub loop-place-preserved : goal.loop-place-preserved
loop-place-preserved c =
    let tables = c.args.tables.now in
    room_step c.args.world.now c.loop-place.world c.put_room.new.world tables c.loop-place.place (omega arith) c.loop-place.invariant
    (λ room is. c.in_ok-put_room.ensures tables room (subst (λ firsts. AreFirst firsts tables) (sym c.deref.ensures.value) c.in_ok-firsts.ensures) is)

pub returns : goal.returns
returns c =
    let world = c.args.world.now in
    let tables = c.args.tables.now in
    let last : c.loop-place.place ≡ length world.rooms = omega arith in
    c.loop-place.invariant
    ∙ ap (λ (n : ℕ). record world { rooms = first_mapped (room_after tables) n world.rooms }) last
    ∙ ap (λ (rooms : List Room). record world { rooms = rooms }) (map_all (room_after tables) world.rooms)
