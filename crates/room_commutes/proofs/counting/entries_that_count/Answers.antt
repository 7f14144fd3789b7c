use Rattle.room_commutes.proofs.Counted.{kept_counts}
use Rattle.room_commutes.proofs.counting.entries_that_count.Goals as goal

pub returns : goal.returns
returns c = λ world list entry. kept_counts world list entry
