use Rattle.frame_log.proofs.Once.{stand_once}
use Rattle.frame_log.proofs.laws.bytes_stand_for_one_list.Goals as goal

pub returns : goal.returns
returns c = stand_once
