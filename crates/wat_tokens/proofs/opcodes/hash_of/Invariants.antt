use Rattle.std.proofs.Common.{◌≡◌, ◌<◌, ◌≤◌, length, drop}
use Rattle.wat_tokens.specs.inner.Slots.{hash_from}
use Rattle.wat_tokens.proofs.opcodes.hash_of.Given as goal

abbrev pub invariant-each : goal.invariant-each
invariant-each l = (l.hash < 598) × (hash_from l.hash (drop l.byte-index l.word) ≡ hash_from 0 l.word)
