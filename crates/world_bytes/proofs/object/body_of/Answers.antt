use Rattle.world_bytes.proofs.Fields.{parts_none}
use Rattle.world_bytes.proofs.object.body_of.Goals as goal

pub returns-in_default-clause-none : goal.returns-in_default-clause-none
returns-in_default-clause-none c = λ body e. parts_none body c.args.numbers.now c.each.number-index e c.each-test.true c.in_default.ensures.none
