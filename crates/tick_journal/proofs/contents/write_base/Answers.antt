use Rattle.tick_journal.proofs.Written.{base_written}
use Rattle.tick_journal.proofs.contents.write_base.Goals as goal

pub returns-clause-written : goal.returns-clause-written
returns-clause-written c =
    base_written c.args.world.now c.put_start.new.out.items c.put_base_rooms.new.out.items c.put_accounts.new.out.items
    (rw (c.in_ok-out.ensures.items, c.tick.ensures) at c.in_ok-put_start.ensures)
    (rw c.room_list-2.ensures.all at c.in_ok-put_base_rooms.ensures.written)
    (rw c.account_list-2.ensures.all at c.in_ok-put_accounts.ensures.written)
