use Rattle.room_step.proofs.Gainer.{one_gainer}
use Rattle.room_step.proofs.laws.one_player_gains.Goals as goal

pub returns : goal.returns
returns c = λ players part list keeps. one_gainer players part keeps list
