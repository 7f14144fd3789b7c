use Rattle.std.proofs.Common.{get_or, refl}
use Rattle.rule_check.proofs.Twice.{pair_is_least, no_pair_is_least}
use Rattle.rule_check.proofs.ids.first_pair.Goals as goal

pub returns-then-numbers-next : goal.returns-then-numbers-next
returns-then-numbers-next c =
    pair_is_least c.args.numbers.now c.loop-next.next c.loop-next.auto.next c.loop-next-test.true c.requires c.loop-next.invariant (get_or c.args.numbers.now c.loop-next.next 0) refl c.if-numbers-next.true

pub returns : goal.returns
returns c = no_pair_is_least c.args.numbers.now c.loop-next.next c.loop-next-test.false c.requires c.loop-next.invariant
