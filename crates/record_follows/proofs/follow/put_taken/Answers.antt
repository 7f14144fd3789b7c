use Rattle.record_follows.proofs.follow.put_taken.Goals as goal

pub put_accounts-requires : goal.put_accounts-requires
put_accounts-requires c = rw (c.take_rooms.ensures, c.as_slice.ensures) c.requires.accounts
