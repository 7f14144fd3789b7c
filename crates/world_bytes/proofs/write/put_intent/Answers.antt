use Rattle.std.proofs.lemmas.Result.{on_ok_weaker, on_err_weaker}
use Rattle.world_bytes.proofs.Written.{intent_is_written, intent_is_kept}
use Rattle.world_bytes.proofs.write.put_intent.Goals as goal

pub returns-clause-written : goal.returns-clause-written
returns-clause-written c =
    on_ok_weaker c.put_body.result
    (intent_is_written c.args.intent.now c.args.out.now.items c.push.new.self.items c.put_u64.new.out.items c.put_u64-2.new.out.items c.put_u64-3.new.out.items c.put_body.new.out.items
    (rw c.number.ensures at c.in_ok-push.ensures.items) c.in_ok-put_u64.ensures.written c.in_ok-put_u64-2.ensures.written c.in_ok-put_u64-3.ensures.written)
    c.put_body.ensures.written

pub returns-clause-kept : goal.returns-clause-kept
returns-clause-kept c =
    on_err_weaker c.put_body.result
    (intent_is_kept c.args.out.now.items c.push.new.self.items c.put_u64.new.out.items c.put_u64-2.new.out.items c.put_u64-3.new.out.items c.put_body.new.out.items _ _ _ _
    c.in_ok-push.ensures.items c.in_ok-put_u64.ensures.written c.in_ok-put_u64-2.ensures.written c.in_ok-put_u64-3.ensures.written)
    c.put_body.ensures.kept
