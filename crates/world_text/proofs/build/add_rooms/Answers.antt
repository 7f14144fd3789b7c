use Rattle.std.proofs.Common.{rules, ◌≡◌, ◌<◌, length, map, vec_len, ap, ◌∙◌, arith, length-append}
use Rattle.std.proofs.lemmas.List.{length-map}
use Rattle.std.proofs.lemmas.Iterator.Adapters.{YieldsList-from_vec}
use Rattle.std.proofs.lemmas.Iterator.Consumers.{YieldsList-turn}
use Rattle.room_table.specs.Tables.{Table}
use Rattle.world_rules.specs.World.{ListedRoom, listed_room}
use Rattle.world_text.specs.inner.Drafts.{drafted_room}
use Rattle.world_text.proofs.Builds.{rooms_push, places_push}
use Rattle.world_text.proofs.build.add_rooms.Goals as goal

pub loop-room-preserved : goal.loop-room-preserved
loop-room-preserved c =
    let draft = c.in-Some.room in
    let same = λ (t : Table). (let r : ListedRoom = record { frame = record { name = draft.name; grounds = draft.terrain; next = t.next }; objects = t.objects } in r) in
    let before = c.loop-room.world in
    rw c.in_ok-push_room.ensures.ok (record {
      rooms = rooms_push (map listed_room c.args.world.now.rooms) before.rooms c.loop-room.yielded _ draft c.loop-room.invariant.rooms (ap same c.in_ok-table.ensures);
      places = places_push before.rooms _ c.loop-room.invariant.places (ap (λ (t : Table). t.index) c.in_ok-table.ensures ∙ c.rooms.ensures);
      tick = c.loop-room.invariant.tick;
      accounts = c.loop-room.invariant.accounts;
    })

pub push_room-requires-clause-room : goal.push_room-requires-clause-room
push_room-requires-clause-room c =
    let rooms = c.args.rooms.items in
    let done = c.loop-room.yielded in
    let before = c.args.world.now.rooms in
    let long : vec_len c.args.rooms ≡ length rooms = search rules in
    let list = YieldsList-from_vec rooms c.into_iter-room-iterator.ensures.into_iter_gives.0 (c.into_iter-room-iterator.ensures.into_iter_gives.1 ∙ long) in
    let turn = YieldsList-turn list done c.loop-room.room-iterator c.loop-room.yielded_by c.next.result c.next.new.self c.in-Some.room c.in-Some.is c.next.ensures.steps in
    let here : length done < length rooms = turn.0 in
    omega (
      arith,
      here,
      c.requires.room,
      ap length c.loop-room.invariant.rooms,
      length-map c.loop-room.world.rooms listed_room,
      length-map before listed_room,
      length-map done drafted_room,
      length-append (map listed_room before) (map drafted_room done),
    )
