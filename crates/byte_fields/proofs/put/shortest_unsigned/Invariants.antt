use Rattle.std.proofs.Common.{◌-◌, ◌*◌, ◌^◌, ◌<◌, take}
use Rattle.byte_fields.specs.Leb.{SpellsUnsigned}
use Rattle.byte_fields.proofs.Written.{Leads}
use Rattle.byte_fields.proofs.put.shortest_unsigned.Given as goal

abbrev pub invariant-loop-high : goal.invariant-loop-high
invariant-loop-high l = record {
  room : 7 * l.last < 32;
  small : l.high < 2 ^ (32 - 7 * l.last);
  leads : Leads (SpellsUnsigned 32) (SpellsUnsigned (32 - 7 * l.last)) (take l.last l.text) l.value l.high;
}

abbrev pub decreases-loop-high : goal.decreases-loop-high
decreases-loop-high l = 32 - 7 * l.last
