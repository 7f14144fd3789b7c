use Rattle.std.proofs.Common.{◌≡◌, ◌+◌, ◌≤◌, take}
use Rattle.std.specs.List.{sum_by}
use Rattle.wasm_module.proofs.limits.runs_within.Given as goal

abbrev pub invariant-each : goal.invariant-each
invariant-each l = record {
  total : l.total ≡ l.params + sum_by (λ run. run.count) (take l.run-index l.runs);
  few : l.total ≤ 65536;
}
