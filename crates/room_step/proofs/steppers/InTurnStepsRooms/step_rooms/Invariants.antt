use Rattle.std.proofs.Common.{◌≡◌, ◌++◌}
use Rattle.room_step.specs.Steps.{AreStepped}
use Rattle.room_step.proofs.steppers.InTurnStepsRooms.step_rooms.Given as goal

abbrev pub invariant-loop-room : goal.invariant-loop-room
invariant-loop-room l = record {
  stepped : AreStepped l.lists l.yielded l.stepped.items;
  all : l.yielded ++ l.room-iterator.rest.items ≡ l.fn.rooms.items;
}
