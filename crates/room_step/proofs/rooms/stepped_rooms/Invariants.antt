use Rattle.std.proofs.Common.{◌+◌}
use Rattle.room_step.proofs.Steps.{SoFar}
use Rattle.room_step.proofs.rooms.stepped_rooms.Given as goal

abbrev pub invariant-loop-room : goal.invariant-loop-room
invariant-loop-room g l = SoFar (l.fn.world.tick + 1) l.fn.world.accounts l.lists l.fn.world.rooms l.yielded l.room-iterator.rest.items l.stepped
