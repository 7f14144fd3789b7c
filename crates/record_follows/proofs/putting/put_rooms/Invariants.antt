use Rattle.std.proofs.Common.{◌≡◌}
use Rattle.record_follows.specs.Follows.{room_after}
use Rattle.record_follows.specs.inner.Parts.{first_mapped}
use Rattle.record_follows.proofs.putting.put_rooms.Given as goal

abbrev pub invariant-loop-place : goal.invariant-loop-place
invariant-loop-place l = l.world ≡ record l.fn.world { rooms = first_mapped (room_after l.tables) l.place l.fn.world.rooms }
