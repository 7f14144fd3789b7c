use Rattle.std.proofs.Common.{[], Some, filter, take}
use Rattle.world_rules.specs.RoomParts.{table_part}
use Rattle.world_rules.specs.RoomTick.{fits_room}
use Rattle.kept_entries.specs.inner.Choosing.{StandFor}
use Rattle.kept_entries.proofs.rooms.fitting_in_room.Given as goal

abbrev pub invariant-loop-intent : goal.invariant-loop-intent
invariant-loop-intent l = StandFor (λ intent. Some l.room.index) l.entries.items (filter (fits_room (table_part [] l.room)) (take l.intent-index l.intents))
