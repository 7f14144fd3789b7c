use Rattle.host_calls.proofs.Levels.{level_is}
use Rattle.host_calls.proofs.number.level_of.Goals as goal

pub returns : goal.returns
returns c = level_is c.args.points c.isqrt.result c.isqrt.ensures.square_le c.isqrt.ensures.next_square_gt
