use Rattle.tick_journal.proofs.Written.{tick_written}
use Rattle.tick_journal.proofs.contents.write_tick.Goals as goal

pub returns-clause-written : goal.returns-clause-written
returns-clause-written c =
    tick_written c.args.entry.now c.push.new.self.items c.put_u64.new.out.items c.put_uploads.new.out.items c.put_runs.new.out.items c.put_accounts.new.out.items c.put_tables.new.out.items
    (rw c.in_ok-out.ensures.items at c.in_ok-push.ensures.items)
    c.in_ok-put_u64.ensures.written
    (rw c.as_slice-judged.ensures at c.in_ok-put_uploads.ensures.written)
    (rw c.as_slice-runs.ensures at c.in_ok-put_runs.ensures.written)
    (rw c.as_slice-accounts.ensures at c.in_ok-put_accounts.ensures.written)
    (rw c.as_slice-tables.ensures at c.in_ok-put_tables.ensures.written)
