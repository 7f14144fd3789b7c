use Rattle.record_follows.proofs.follow.put.Goals as goal

pub put_accounts-requires : goal.put_accounts-requires
put_accounts-requires c = rw (c.as_slice-2.ensures, c.in_ok-put_rooms.ensures) c.requires.accounts
