use Rattle.std.proofs.Common.{◌/◌, refl, arith}
use Rattle.kept_entries.proofs.Frames.{has_room, no_room}
use Rattle.kept_entries.proofs.entries.tile_room.Goals as goal

pub returns-then-room-from-clause-some : goal.returns-then-room-from-clause-some
returns-then-room-from-clause-some c = (has_room c.args.world.now (c.args.tile / 2500) (omega arith), refl)

pub returns-else-room-from-clause-none : goal.returns-else-room-from-clause-none
returns-else-room-from-clause-none c = no_room c.args.world.now (c.args.tile / 2500) (omega arith)
