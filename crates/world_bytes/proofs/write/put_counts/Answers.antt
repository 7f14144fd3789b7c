use Rattle.std.proofs.lemmas.Result.{on_ok_weaker}
use Rattle.world_bytes.specs.inner.Rows.{counts_of}
use Rattle.world_bytes.proofs.Written.{counts_written}
use Rattle.world_bytes.proofs.write.put_counts.Goals as goal

pub returns-clause-written : goal.returns-clause-written
returns-clause-written c =
    on_ok_weaker c.put_u32-5.result (counts_written (counts_of c.args.object.now) c.args.out.now.items c.put_u32.new.out.items c.put_u64.new.out.items c.put_u32-2.new.out.items c.put_u32-3.new.out.items c.put_u64-2.new.out.items c.put_u32-4.new.out.items c.put_u32-5.new.out.items c.in_ok-put_u32.ensures.written c.in_ok-put_u64.ensures.written c.in_ok-put_u32-2.ensures.written c.in_ok-put_u32-3.ensures.written c.in_ok-put_u64-2.ensures.written c.in_ok-put_u32-4.ensures.written) c.put_u32-5.ensures.written
