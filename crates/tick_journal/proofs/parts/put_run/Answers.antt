use Rattle.std.proofs.lemmas.Result.{on_ok_weaker}
use Rattle.tick_journal.proofs.Written.{run_written}
use Rattle.tick_journal.proofs.parts.put_run.Goals as goal

pub returns-clause-written : goal.returns-clause-written
returns-clause-written c =
    on_ok_weaker c.put_intents.result
    (run_written _ c.args.out.now.items c.put_u32.new.out.items c.extend_from_slice.new.self.items c.put_u64.new.out.items c.put_intents.new.out.items
    c.in_ok-put_u32.ensures.written (rw c.outcome_numbers.ensures at c.in_ok-extend_from_slice.ensures.items) c.in_ok-put_u64.ensures.written)
    c.put_intents.ensures.written
