use Rattle.std.proofs.Common.{◌≡◌, ℕ, List, ◌++◌, length, take, drop, ◌-◌, ◌≤◌}
use Rattle.wat_grammar.specs.Tokens.{SpellsString}
use Rattle.wat_tokens.proofs.strings.put_string.Given as goal

abbrev pub invariant-each : goal.invariant-each
invariant-each l = (l.at ≤ length l.inner) × (front : List ℕ) × SpellsString (take l.at l.inner) front × (l.out.items ≡ l.fn.out.items ++ front)
    × ((content : List ℕ) → SpellsString l.inner content → (tail : List ℕ) × SpellsString (drop l.at l.inner) tail × (content ≡ front ++ tail))

abbrev pub decreases-each : goal.decreases-each
decreases-each l = length l.inner - l.at
