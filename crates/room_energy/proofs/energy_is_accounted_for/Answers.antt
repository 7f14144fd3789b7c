-- Each rule of an entry puts into its room, and takes out of it, what is said of its action.
use Rattle.room_energy.proofs.Taken.{rule_takes}
use Rattle.room_energy.proofs.energy_is_accounted_for.Goals as goal

pub returns : goal.returns
returns c = λ players stage part entry k room. rule_takes players stage part k room entry entry.action
