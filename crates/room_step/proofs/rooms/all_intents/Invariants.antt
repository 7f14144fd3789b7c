use Rattle.std.proofs.Common.{◌≡◌, take}
use Rattle.world_rules.specs.Tick.{intents_of}
use Rattle.room_step.proofs.rooms.all_intents.Given as goal

abbrev pub invariant-loop-run : goal.invariant-loop-run
invariant-loop-run l = l.intents.items ≡ intents_of (take l.run-index l.runs)
