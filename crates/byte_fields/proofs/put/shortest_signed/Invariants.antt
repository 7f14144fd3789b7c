use Rattle.std.proofs.Common.{◌-◌, ◌*◌, ◌^◌, ◌<◌, take}
use Rattle.byte_fields.specs.Leb.{SpellsSigned}
use Rattle.byte_fields.proofs.Signed.{IsWithin}
use Rattle.byte_fields.proofs.Written.{Leads}
use Rattle.byte_fields.proofs.put.shortest_signed.Given as goal

abbrev pub invariant-loop-high : goal.invariant-loop-high
invariant-loop-high l = record {
  room : 7 * l.last < 64;
  small : IsWithin (2 ^ (64 - 7 * l.last - 1)) l.high;
  leads : Leads (SpellsSigned 64) (SpellsSigned (64 - 7 * l.last)) (take l.last l.text) l.value l.high;
}

abbrev pub decreases-loop-high : goal.decreases-loop-high
decreases-loop-high l = 64 - 7 * l.last
