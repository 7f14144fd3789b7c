use Rattle.world_io.specs.Moments.{no_moment}
use Rattle.frame_log.proofs.log.Log.append.Goals as goal

pub returns-then-self-clause-each_moment : goal.returns-then-self-clause-each_moment
returns-then-self-clause-each_moment g c = λ contents has. no_moment

pub returns-in_default-clause-each_moment : goal.returns-in_default-clause-each_moment
returns-in_default-clause-each_moment g c = λ contents has. no_moment
