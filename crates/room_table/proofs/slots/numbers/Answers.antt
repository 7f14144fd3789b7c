use Rattle.std.proofs.Common.{◌∷◌, [], ◌++◌, sym, ap, ◌∙◌, arith}
use Rattle.room_table.proofs.Searched.{range_more}
use Rattle.room_table.proofs.slots.numbers.Goals as goal

pub loop-slot-preserved : goal.loop-slot-preserved
loop-slot-preserved c = (
  c.in_ok-push.ensures.items ∙ ap (λ xs. xs ++ c.loop-slot.slot ∷ []) c.loop-slot.invariant.0 ∙ sym (range_more c.loop-slot.slot),
  omega (arith, c.push.ensures.capacity, c.loop-slot.invariant.1),
)
