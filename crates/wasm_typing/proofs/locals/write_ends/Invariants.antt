use Rattle.std.proofs.Common.{length, ◌-◌, ◌≡◌, ◌^◌, ◌≤◌, take}
use Rattle.std.specs.Prelude.{min}
use Rattle.wasm_typing.specs.inner.Runs.{AreEnds, reach}
use Rattle.wasm_typing.proofs.locals.write_ends.Given as goal

abbrev pub invariant-loop-at : goal.invariant-loop-at
invariant-loop-at l = record {
  within : l.at ≤ length l.runs;
  end : l.end ≡ min (reach l.runs l.at) (2 ^ 64 - 1);
  ends : AreEnds (take l.at l.runs) l.ends.items;
}

abbrev pub decreases-loop-at : goal.decreases-loop-at
decreases-loop-at l = length l.runs - l.at
