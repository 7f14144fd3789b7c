use Rattle.std.proofs.lemmas.Bool.{MatchBool-at_true}
use Rattle.record_follows.specs.Follows.{Fits}
use Rattle.record_follows.proofs.follow.follows.Goals as goal

pub put-requires-clause-accounts : goal.put-requires-clause-accounts
put-requires-clause-accounts c =
    let may = MatchBool-at_true (Fits c.args.before.now c.args.entry.now) (Fits c.args.before.now c.args.entry.now → ⊥) c.if-not-branch.false c.in_ok-fits.ensures in
    rw c.in_ok-world.ensures may.accounts
