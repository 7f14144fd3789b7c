use Rattle.std.proofs.Common.{◌≡◌, [], ◌++◌}
use Rattle.ruled_tick.proofs.tick.world_of_rooms.Given as goal

abbrev pub invariant-loop-room : goal.invariant-loop-room
invariant-loop-room l = record {
  built : l.next ≡ record { tick = l.tick; rooms = l.yielded; accounts = [] };
  all : l.yielded ++ l.room-iterator.rest.items ≡ l.fn.rooms.items;
}
