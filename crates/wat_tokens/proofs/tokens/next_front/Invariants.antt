use Rattle.std.proofs.Common.{length, drop, ◌-◌, ◌≤◌}
use Rattle.wat_grammar.specs.Fronts.{PassesTo}
use Rattle.wat_tokens.proofs.tokens.next_front.Given as goal

abbrev pub invariant-each : goal.invariant-each
invariant-each l = (l.at ≤ l.place) × (l.place ≤ length l.text) × PassesTo (drop l.at l.text) (drop l.place l.text)

abbrev pub decreases-each : goal.decreases-each
decreases-each l = length l.text - l.place
