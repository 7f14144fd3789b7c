use Rattle.std.proofs.Common.{◌≡◌, ◌++◌, take, string_bytes}
use Rattle.std.specs.List.{flat_map}
use Rattle.run_lines.specs.Lines.{run_line}
use Rattle.run_lines.proofs.lines.add_runs.Given as goal

abbrev pub invariant-loop-run : goal.invariant-loop-run
invariant-loop-run l = string_bytes l.lines ≡ string_bytes l.fn.lines ++ flat_map run_line (take l.run-index l.runs)
