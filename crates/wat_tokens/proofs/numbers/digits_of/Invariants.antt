use Rattle.std.proofs.Common.{length, drop, ◌-◌, ◌≤◌, ◌↔◌, ℕ}
use Rattle.wat_grammar.specs.Numbers.{GoesOn, SpellsDigits}
use Rattle.wat_tokens.specs.inner.Naturals.{IsNatural}
use Rattle.wat_tokens.proofs.numbers.digits_of.Given as goal

abbrev pub invariant-each : goal.invariant-each
invariant-each l = (l.at ≤ length l.text) × (number : ℕ) × IsNatural l.natural number
    × ((total : ℕ) → SpellsDigits l.fn.base l.text total ↔ GoesOn l.fn.base number (drop l.at l.text) total)

abbrev pub decreases-each : goal.decreases-each
decreases-each l = length l.text - l.at
