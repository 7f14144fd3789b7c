use Rattle.room_commutes.proofs.CreepsApart.{moved_apart}
use Rattle.room_commutes.proofs.moving.creeps_stay_apart.Goals as goal

pub returns : goal.returns
returns c = λ fatigue list part once keyed apart. moved_apart fatigue list once part keyed apart
