use Rattle.std.proofs.Common.{drop}
use Rattle.std.specs.List.{AllByRecursion}
use Rattle.object_store.specs.Stored.{HasAccount}
use Rattle.record_follows.proofs.fitting.are_runs.Given as goal

abbrev pub invariant-loop-run : goal.invariant-loop-run
invariant-loop-run l = record {
  left : AllByRecursion (λ run. HasAccount run.player l.before.accounts) (drop l.run-index l.runs) → AllByRecursion (λ run. HasAccount run.player l.before.accounts) l.runs;
  whole : AllByRecursion (λ run. HasAccount run.player l.before.accounts) l.runs → AllByRecursion (λ run. HasAccount run.player l.before.accounts) (drop l.run-index l.runs);
}
