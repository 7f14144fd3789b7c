use Rattle.world_bytes.proofs.Written.{body_written}
use Rattle.world_bytes.proofs.write.put_body.Goals as goal

pub returns-clause-written : goal.returns-clause-written
returns-clause-written c = body_written c.parts-parts.result.now c.args.body.now c.each.part-index c.args.out.now.items c.each.out.items c.each-test.false c.parts-parts.ensures.same c.each.invariant
