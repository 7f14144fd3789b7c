use Rattle.std.proofs.Common.{◌-◌, ◌*◌, drop}
use Rattle.byte_fields.specs.Leb.{SpellsUnsigned}
use Rattle.byte_fields.proofs.leb.unsigned_value.Given as goal

-- the bytes from here on spell the number so far, in the bits that are left
abbrev pub invariant-loop-at : goal.invariant-loop-at
invariant-loop-at l = SpellsUnsigned (32 - 7 * l.at) (drop l.at l.text) l.value
