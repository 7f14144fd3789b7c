use Rattle.room_commutes.proofs.Torn.{game_running}
use Rattle.room_commutes.proofs.game.game_harms_as_it_runs.Goals as goal

pub returns : goal.returns
returns c = λ stored list sound. game_running stored sound list
