use Rattle.std.proofs.Common.{◌≡◌, take}
use Rattle.std.specs.List.{flat_map}
use Rattle.tick_journal.specs.declared.entries.RunEntry.{RunEntry}
use Rattle.world_replay.proofs.replay.wanted_by.Given as goal

abbrev pub invariant-loop-run : goal.invariant-loop-run
invariant-loop-run l = l.wanted.items ≡ flat_map (λ (run : RunEntry). run.intents) (take l.run-index l.runs)
