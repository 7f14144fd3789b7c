use Rattle.std.proofs.Common.{length, ◌-◌, ◌≤◌, All, take}
use Rattle.wat_grammar.specs.Tokens.{IsWordByte}
use Rattle.wat_tokens.proofs.scan.word_length.Given as goal

abbrev pub invariant-each : goal.invariant-each
invariant-each l = (l.count ≤ length l.rest) × All IsWordByte (take l.count l.rest)

abbrev pub decreases-each : goal.decreases-each
decreases-each l = length l.rest - l.count
