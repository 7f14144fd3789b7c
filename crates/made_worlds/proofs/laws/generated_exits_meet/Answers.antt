use Rattle.made_worlds.proofs.Writable.{exits_meet}
use Rattle.made_worlds.proofs.laws.generated_exits_meet.Goals as goal

pub returns : goal.returns
returns c = exits_meet
