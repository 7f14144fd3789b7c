use Rattle.std.proofs.Common.{◌-◌, ◌*◌, drop}
use Rattle.byte_fields.specs.Leb.{SpellsSigned}
use Rattle.byte_fields.proofs.leb.signed_value.Given as goal

-- the bytes from here on spell the number so far, in the bits that are left
abbrev pub invariant-loop-at : goal.invariant-loop-at
invariant-loop-at l = SpellsSigned (l.width - 7 * l.at) (drop l.at l.text) l.value
