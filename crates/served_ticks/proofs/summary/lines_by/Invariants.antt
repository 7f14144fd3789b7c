use Rattle.std.proofs.Common.{◌≡◌, take}
use Rattle.served_ticks.specs.Summaries.{lines_with}
use Rattle.served_ticks.proofs.summary.lines_by.Given as goal

abbrev pub invariant-loop-place : goal.invariant-loop-place
invariant-loop-place l = l.lines.items ≡ lines_with (take l.place l.accounts) (take l.place l.counts)
