use Rattle.std.proofs.lemmas.Result.{on_ok_weaker}
use Rattle.world_bytes.specs.inner.Rows.{head_of}
use Rattle.world_bytes.proofs.Written.{head_written}
use Rattle.world_bytes.proofs.write.put_head.Goals as goal

pub returns-clause-written : goal.returns-clause-written
returns-clause-written c =
    on_ok_weaker c.put_u32.result (head_written (head_of c.args.object.now) c.args.out.now.items c.put_u64.new.out.items c.extend_from_slice.new.self.items c.put_u32.new.out.items c.in_ok-put_u64.ensures.written (rw c.number.ensures at c.in_ok-extend_from_slice.ensures.items)) c.put_u32.ensures.written
