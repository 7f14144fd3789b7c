use Rattle.std.proofs.Common.{◌≤◌, length}
use Rattle.world_run.proofs.Demonstrates.{IsOneLine}
use Rattle.world_run.proofs.demo.last_line.Given as goal

abbrev pub invariant-loop-start : goal.invariant-loop-start
invariant-loop-start l = record {
  within : l.start ≤ length l.text;
  line : IsOneLine l.text l.start;
}

abbrev pub decreases-loop-start : goal.decreases-loop-start
decreases-loop-start l = l.start
