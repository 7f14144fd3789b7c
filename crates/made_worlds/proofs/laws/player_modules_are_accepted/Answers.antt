use Rattle.made_worlds.proofs.Accepted.{module_accepted, shortest_accepted}
use Rattle.made_worlds.proofs.Short.{module_short}
use Rattle.made_worlds.proofs.laws.player_modules_are_accepted.Goals as goal

pub returns : goal.returns
returns c = record { any = module_accepted; short = module_short; shortest = shortest_accepted }
