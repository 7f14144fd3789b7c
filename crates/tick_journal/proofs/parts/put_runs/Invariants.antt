use Rattle.std.proofs.Common.{◌≡◌, ◌<◌, ◌^◌, ◌++◌, length, take}
use Rattle.std.specs.List.{AllByRecursion, flat_map}
use Rattle.byteorder.specs.Endian.{little_bytes}
use Rattle.tick_journal.specs.Contents.{run_bytes}
use Rattle.tick_journal.specs.Numbers.{RunFits}
use Rattle.tick_journal.proofs.parts.put_runs.Given as goal

abbrev pub invariant-each : goal.invariant-each
invariant-each l = record {
  written : l.out.items ≡ l.fn.out.items ++ (little_bytes 4 (length l.runs) ++ flat_map run_bytes (take l.run-index l.runs));
  count : length l.runs < 2 ^ 32;
  fits : AllByRecursion RunFits (take l.run-index l.runs);
}
