use Rattle.action_checks.proofs.Towards.{direction_given}
use Rattle.action_checks.proofs.tiles.direction.Goals as goal

pub returns : goal.returns
returns c = direction_given c.args.number c.of_number.result c.of_number.ensures.some c.of_number.ensures.none
