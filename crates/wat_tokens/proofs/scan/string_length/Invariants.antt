use Rattle.std.proofs.Common.{◌≡◌, ℕ, List, ◌++◌, length, take, drop, ◌-◌, ◌≤◌}
use Rattle.wat_grammar.specs.Tokens.{SpellsString}
use Rattle.wat_grammar.specs.Fronts.{IsQuotedBefore}
use Rattle.wat_tokens.proofs.scan.string_length.Given as goal

abbrev pub invariant-each : goal.invariant-each
invariant-each l = (l.at ≤ length l.rest) × (front : List ℕ) × SpellsString (take l.at l.rest) front
    × ((content more : List ℕ) → IsQuotedBefore content l.rest more
    → (tail : List ℕ) × IsQuotedBefore tail (drop l.at l.rest) more × (content ≡ front ++ tail))

abbrev pub decreases-each : goal.decreases-each
decreases-each l = length l.rest - l.at
