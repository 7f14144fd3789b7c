use Rattle.rule_check.proofs.Minima.{first_is_least, none_is_least, none_more, read_at}
use Rattle.rule_check.proofs.objects.first_object.Goals as goal

pub returns-then-is_broken : goal.returns-then-is_broken
returns-then-is_broken g c =
    first_is_least (g.R.ObjectRule.broken c.args.rule.now c.args.room.now) c.args.room.now.objects.now c.loop-object.object-index c.object-item.result c.requires.order
    (read_at c.args.room.now.objects.now c.loop-object.object-index c.object-item.result c.loop-object-test.true c.object-item.is) c.if-is_broken.ensures c.loop-object.invariant

pub loop-object-preserved : goal.loop-object-preserved
loop-object-preserved g c =
    none_more (λ k o. g.R.ObjectRule.broken c.args.rule.now c.args.room.now o) c.args.room.now.objects.now c.loop-object.object-index c.object-item.result
    (read_at c.args.room.now.objects.now c.loop-object.object-index c.object-item.result c.loop-object-test.true c.object-item.is) c.if-is_broken.ensures c.loop-object.invariant

pub returns : goal.returns
returns g c = none_is_least (g.R.ObjectRule.broken c.args.rule.now c.args.room.now) c.args.room.now.objects.now c.loop-object.object-index c.loop-object-test.false c.loop-object.invariant
