use Rattle.player_run.proofs.Owned.{emitted_own}
use Rattle.player_run.proofs.laws.emitted_in_own_name.Goals as goal

pub returns : goal.returns
returns c = λ bytes sight run emits. emitted_own emits.0 sight run emits.2
