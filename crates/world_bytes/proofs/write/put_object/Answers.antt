use Rattle.std.proofs.lemmas.Result.{on_ok_weaker}
use Rattle.world_bytes.proofs.Written.{groups_written}
use Rattle.world_bytes.proofs.write.put_object.Goals as goal

pub returns-clause-written : goal.returns-clause-written
returns-clause-written c =
    on_ok_weaker c.put_body.result (groups_written c.args.object.now c.args.out.now.items c.put_head.new.out.items c.put_counts.new.out.items c.put_body.new.out.items c.in_ok-put_head.ensures.written c.in_ok-put_counts.ensures.written) c.put_body.ensures.written
