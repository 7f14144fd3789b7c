use Rattle.world_bytes.proofs.Lists.{behind_last}
use Rattle.world_bytes.proofs.read.is_behind.Goals as goal

pub returns-in-Some : goal.returns-in-Some
returns-in-Some c = behind_last c.args.objects.now c.in-Some.last.now c.args.id c.requires c.in-Some.ensures.value
