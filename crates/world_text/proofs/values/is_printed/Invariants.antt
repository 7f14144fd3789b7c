use Rattle.std.proofs.Common.{◌≤◌, take}
use Rattle.std.specs.List.{AllByRecursion}
use Rattle.world_text.proofs.values.is_printed.Given as goal

abbrev pub invariant-loop-byte : goal.invariant-loop-byte
invariant-loop-byte l = AllByRecursion (λ byte. (33 ≤ byte) × (byte ≤ 126)) (take l.byte-index l.text)
