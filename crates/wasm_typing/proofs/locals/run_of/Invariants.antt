use Rattle.std.proofs.Common.{◌-◌, ◌<◌, ◌^◌, ◌+◌, ◌≤◌, List, length}
use Rattle.wasm_module.specs.declared.codes.LocalRun.{LocalRun}
use Rattle.wasm_typing.specs.inner.Runs.{AreEnds, reach}
use Rattle.wasm_typing.proofs.locals.run_of.Given as goal

abbrev pub invariant-loop-low : goal.invariant-loop-low
invariant-loop-low l = record {
  order : l.low ≤ l.high;
  within : l.high ≤ length l.ends;
  told : (runs : List LocalRun) → AreEnds runs l.ends → l.index < 2 ^ 32 → (reach runs l.low ≤ l.index) × (l.high < length runs → l.index < reach runs (l.high + 1));
}

abbrev pub decreases-loop-low : goal.decreases-loop-low
decreases-loop-low l = l.high - l.low
