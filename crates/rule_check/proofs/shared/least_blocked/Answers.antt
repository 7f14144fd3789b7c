use Rattle.rule_check.specs.Kept.{IsBlocked}
use Rattle.rule_check.proofs.Minima.{least_more, least_end, read_at}
use Rattle.rule_check.proofs.shared.least_blocked.Goals as goal

pub loop-room-preserved : goal.loop-room-preserved
loop-room-preserved c = record {
  tiles = c.loop-room.invariant.tiles;
  least =
      rw c.lesser-least.ensures
      (least_more (λ room. IsBlocked room.objects.now) c.args.rooms.now c.loop-room.room-index c.room-item.result c.loop-room.least c.first_blocked.result
      (read_at c.args.rooms.now c.loop-room.room-index c.room-item.result c.loop-room-test.true c.room-item.is) c.loop-room.invariant.least c.first_blocked.ensures);
}

pub returns : goal.returns
returns c = least_end (λ room. IsBlocked room.objects.now) c.args.rooms.now c.loop-room.room-index c.loop-room.least c.loop-room-test.false c.loop-room.invariant.least
