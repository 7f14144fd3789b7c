use Rattle.record_follows.proofs.follow.after.Goals as goal

pub put-requires-clause-rooms : goal.put-requires-clause-rooms
put-requires-clause-rooms c = rw c.in_ok-world.ensures c.requires.rooms

pub put-requires-clause-accounts : goal.put-requires-clause-accounts
put-requires-clause-accounts c = rw c.in_ok-world.ensures c.requires.accounts
