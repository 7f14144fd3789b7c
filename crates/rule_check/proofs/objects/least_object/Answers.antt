use Rattle.rule_check.specs.inner.Checks.{AnyObject}
use Rattle.rule_check.proofs.Minima.{least_more, least_end, read_at}
use Rattle.rule_check.proofs.objects.least_object.Goals as goal

pub loop-room-preserved : goal.loop-room-preserved
loop-room-preserved g c =
    rw c.lesser-least.ensures
    (least_more (λ room. AnyObject (g.R.ObjectRule.broken c.args.rule.now room) room.objects.now) c.args.rooms.now c.loop-room.room-index c.room-item.result c.loop-room.least c.first_object.result
    (read_at c.args.rooms.now c.loop-room.room-index c.room-item.result c.loop-room-test.true c.room-item.is) c.loop-room.invariant c.first_object.ensures)

pub returns : goal.returns
returns g c = least_end (λ room. AnyObject (g.R.ObjectRule.broken c.args.rule.now room) room.objects.now) c.args.rooms.now c.loop-room.room-index c.loop-room.least c.loop-room-test.false c.loop-room.invariant
