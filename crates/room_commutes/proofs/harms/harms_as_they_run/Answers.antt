use Rattle.world_rules.specs.Intents.{all_actions, kept}
use Rattle.world_rules.specs.Tick.{begun}
use Rattle.room_commutes.proofs.Harmed.{running_is, running_all}
use Rattle.room_commutes.proofs.harms.harms_as_they_run.Goals as goal

pub returns : goal.returns
returns c = record {
  kind = λ book before list course orderly keeps used keyed leave. running_is book orderly keeps before list course used keyed leave;
  all = λ book world list orderly keeps used keyed leave. running_all book orderly keeps world all_actions (kept world list) (begun world) used keyed leave;
}
