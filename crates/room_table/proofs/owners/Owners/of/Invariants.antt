use Rattle.std.proofs.Common.{take}
use Rattle.std.specs.List.{All}
use Rattle.room_table.specs.inner.Owners.{MayOwn}
use Rattle.room_table.proofs.owners.Owners.of.Given as goal

abbrev pub invariant-loop-object : goal.invariant-loop-object
invariant-loop-object l = All (λ object. MayOwn l.owners.remainders object.owner) (take l.object-index l.objects)
