use Rattle.std.proofs.Common.{◌≡◌, ◌-◌, ◌+◌, ◌<◌, length, arith}
use Rattle.changed_rules.proofs.Apart.{leave_step, place_within, room_there}
use Rattle.changed_rules.proofs.census.Census.leave_rooms.Goals as goal

pub leave_room-requires : goal.leave_room-requires
leave_room-requires c = let within : c.loop-at.at - 1 < length c.args.places.now = omega arith in place_within c.args.world.now.rooms c.args.places.now (c.loop-at.at - 1) within c.requires.rooms

pub loop-at-preserved : goal.loop-at-preserved
loop-at-preserved c =
    let world = c.args.world.now in
    let places = c.args.places.now in
    let k = c.loop-at.at - 1 in
    let within : k < length places = omega arith in
    let after : c.loop-at.at ≡ k + 1 = omega arith in
    let room = room_there world.rooms places k within c.requires.rooms in
    leave_step world places c.loop-at.at k room.0 c.loop-at.self c.leave_room.new.self c.requires.places c.requires.once after within room.1 c.loop-at.invariant (c.in_ok-leave_room.ensures room.0 room.1)
