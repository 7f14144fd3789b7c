use Rattle.std.proofs.Common.{◌≡◌, ◌<◌, ◌^◌, ◌++◌, length, take}
use Rattle.std.specs.List.{AllByRecursion, flat_map}
use Rattle.byteorder.specs.Endian.{little_bytes}
use Rattle.world_bytes.specs.Forms.{intent_bytes}
use Rattle.world_bytes.specs.Numbers.{IntentFits}
use Rattle.tick_journal.proofs.parts.put_intents.Given as goal

abbrev pub invariant-each : goal.invariant-each
invariant-each l = record {
  written : l.out.items ≡ l.fn.out.items ++ (little_bytes 4 (length l.intents) ++ flat_map intent_bytes (take l.intent-index l.intents));
  count : length l.intents < 2 ^ 32;
  fits : AllByRecursion IntentFits (take l.intent-index l.intents);
}
