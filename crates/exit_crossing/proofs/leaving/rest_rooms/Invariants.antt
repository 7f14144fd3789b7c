use Rattle.std.proofs.Common.{◌≡◌}
use Rattle.exit_crossing.proofs.Rested.{rooms_to}
use Rattle.exit_crossing.proofs.leaving.rest_rooms.Given as goal

abbrev pub invariant-loop-place : goal.invariant-loop-place
invariant-loop-place l = l.rooms ≡ rooms_to l.place l.fn.rooms
