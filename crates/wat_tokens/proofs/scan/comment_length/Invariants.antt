use Rattle.std.proofs.Common.{◌↔◌, ℕ, List, length, drop, ◌-◌, ◌≤◌, ◌<◌, ◌+◌}
use Rattle.wat_grammar.specs.Fronts.{EndsBefore}
use Rattle.wat_tokens.proofs.scan.comment_length.Given as goal

abbrev pub invariant-each : goal.invariant-each
invariant-each l = (0 < l.depth) × (l.depth ≤ l.at + 1) × (l.at ≤ length l.rest) × ((more : List ℕ) → EndsBefore 1 l.rest more ↔ EndsBefore l.depth (drop l.at l.rest) more)

abbrev pub decreases-each : goal.decreases-each
decreases-each l = length l.rest - l.at
