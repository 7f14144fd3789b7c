use Rattle.std.proofs.Common.{ℕ, Option, subst}
use Rattle.spawn_rules.specs.inner.Hatching.{next_of, IsHatchedTo}
use Rattle.spawn_rules.proofs.Hatched.{all_hatched, first_hatched}
use Rattle.spawn_rules.proofs.hatching.hatch.Goals as goal

pub loop-next-init : goal.loop-next-init
loop-next-init c =
    first_hatched c.args.ground.now c.args.room.now c.stands_in_order.ensures.rising c.requires.ready c.ids_fit.ensures

pub returns-clause-rule : goal.returns-clause-rule
returns-clause-rule c =
    all_hatched c.args.ground.now c.args.room.now c.loop-next.room (subst (λ (next : Option ℕ). IsHatchedTo c.args.ground.now c.args.room.now (next_of next) c.loop-next.room) c.in_default.is c.loop-next.invariant)
