use Rattle.room_commutes.proofs.Summed.{sums_same}
use Rattle.room_commutes.proofs.harms.sums_in_any_order.Goals as goal

pub returns : goal.returns
returns c = λ one other same. sums_same one other same
