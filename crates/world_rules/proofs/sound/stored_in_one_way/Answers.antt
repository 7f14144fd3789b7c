use Rattle.world_rules.proofs.Same.{one_form}
use Rattle.world_rules.proofs.sound.stored_in_one_way.Goals as goal

pub returns : goal.returns
returns c = λ one other sound same_sound same. one_form one other sound same_sound same
