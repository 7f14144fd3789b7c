-- The count so far is that of the runs before the index, each of which has fewer than 2^64 intents.
use Rattle.std.proofs.Common.{◌≡◌, ◌≤◌, ◌*◌, ◌^◌, length, take}
use Rattle.world_rules.specs.Tick.{intents_of}
use Rattle.run_lines.proofs.lines.intent_count.Given as goal

abbrev pub invariant-loop-run : goal.invariant-loop-run
invariant-loop-run l = record {
  counted : l.count ≡ length (intents_of (take l.run-index l.runs));
  within : l.count ≤ l.run-index * 2 ^ 64;
}
