use Rattle.std.proofs.Common.{filter, take}
use Rattle.world_rules.specs.World.{world_of}
use Rattle.world_rules.specs.Intents.{fits, room_of}
use Rattle.kept_entries.specs.inner.Choosing.{StandFor}
use Rattle.kept_entries.proofs.entries.fitting.Given as goal

abbrev pub invariant-loop-intent : goal.invariant-loop-intent
invariant-loop-intent l = StandFor (room_of (world_of l.world)) l.entries.items (filter (fits (world_of l.world)) (take l.intent-index l.intents))
